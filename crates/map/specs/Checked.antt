-- What the check of a map answers, and the paper's numbers of each answer. Assumes nothing.
use Rattle.std.specs.Prelude.{◌≡◌, Bool, cond, List, ℕ, eqb, Option, None, Some, Result, Ok, Err}
use Rattle.std.proofs.Math.Option as math
use Rattle.std.proofs.Math.Option.{none, some}
use Rattle.geometry.specs.declared.Geometry.{Geometry}
use Rattle.geometry.specs.declared.Refusal.{Refusal}
use Rattle.geometry.specs.Record.{geometry_of}
use Rattle.geometry.specs.Answers.{number, refusal}
use Rattle.model.specs.Chain.{Entry}
use Rattle.model.specs.Answer.{Answer, refused, answered}
use Rattle.model.specs.Check.{differing, cross_sum, map_read, mend_read}

abbrev pub check_answer : Geometry → Answer (List (List Entry)) → Result Geometry Refusal
check_answer g (refused n z) = Err (refusal n z)
check_answer g (answered ess) = Ok g

abbrev pub checked : List ℕ → Result Geometry Refusal
checked m = check_answer (geometry_of m) (map_read m)

-- the check with 3 and 4 ignored (document 02, R-9)
abbrev pub mend_checked : List ℕ → Result Geometry Refusal
mend_checked m = check_answer (geometry_of m) (mend_read m)

-- 3, then 4
abbrev pub byte_fault : math.Option ℕ → Bool → Result (Unit {0}) Refusal
byte_fault (some z) right = Err (refusal 3 z)
byte_fault none right = cond right (Ok tt) (Err (refusal 4 0))

abbrev pub check_bytes : List (List ℕ) → Result (Unit {0}) Refusal
check_bytes bs = byte_fault (differing 0 bs) (eqb (cross_sum bs) 255)

-- whether all zones could be read, or the refusal of the first that could not
abbrev pub zones_told : Answer (List (List Entry)) → Result (Unit {0}) Refusal
zones_told (refused n z) = Err (refusal n z)
zones_told (answered ess) = Ok tt

-- the paper's numbers: refusal (0: accepted) and zone told
abbrev pub check_numbers : Result Geometry Refusal → ℕ × ℕ
check_numbers (Ok g) = (0, 0)
check_numbers (Err r) = (number r.reason, r.zone)

-- as the table gives them for what the map is read as
abbrev pub check_told : Answer (List (List Entry)) → ℕ × ℕ
check_told (refused n z) = (n, z)
check_told (answered ess) = (0, 0)

-- the answer to a map, and its numbers
pub record Checks (m : List ℕ) (r : Result Geometry Refusal) : Type 0 where
  pub answer : r ≡ checked m
  pub numbers : check_numbers r ≡ check_told (map_read m)

-- the zone that differs, as the code tells it
abbrev pub first_differing : math.Option ℕ → Option ℕ
first_differing none = None
first_differing (some z) = Some z
