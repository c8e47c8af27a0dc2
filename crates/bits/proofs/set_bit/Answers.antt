-- One byte is stored, whose bits are the old ones but for one (`stored_one`).
use native.Mathlib.Omega.{arith}
use borrow.Author.Rules.{rules}
use Rattle.bits.proofs.Stored.{stored_one}
use Rattle.bits.proofs.set_bit.Goals as goal

pub returns : goal.returns
returns c = let a = c.args in stored_one a.s.now a.b (omega arith) (search rules)
