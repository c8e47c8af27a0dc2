-- Each number is the definition's, from the calls' results; the rounded m stays below idlen + 1 + k.
use native.Mathlib.Omega.{arith}
use native.Mathlib.Nat.{div-mul-le_self, div-le_self, lt_of_le_of_lt}
use Rattle.geometry.proofs.geometry_from.Goals as goal

pub returns : goal.returns
returns c = cc

pub overflow_mul-result : goal.overflow_mul-result
overflow_mul-result c = record { fits = lt_of_le_of_lt (div-mul-le_self _ _) (omega arith) }

pub overflow_cast-result : goal.overflow_cast-result
overflow_cast-result c = record { fits = lt_of_le_of_lt (div-le_self _ _) (omega arith) }
