-- What the mender's calls answer and leave (document 02, R-9). Assumes nothing.
use Rattle.std.specs.Prelude.{◌≡◌, List, ◌++◌, ℕ, length, drop, Result, Ok, Err}
use Rattle.geometry.specs.declared.Refusal.{Refusal}
use Rattle.geometry.specs.Answers.{number, refusal}
use Rattle.model.specs.Answer.{Answer, refused, answered}
use Rattle.model.specs.Chain.{Entry}
use Rattle.model.specs.Check.{mend_read}
use Rattle.mended.specs.Mended.{mended, positions_found}

-- the mender's answer, and the paper's numbers: refusal (0: mended) and zone told
abbrev pub mend_answer : Answer (List (List Entry)) → Result (Unit {0}) Refusal
mend_answer (refused n z) = Err (refusal n z)
mend_answer (answered ess) = Ok tt

abbrev pub mend_numbers : Result (Unit {0}) Refusal → ℕ × ℕ
mend_numbers (Ok t) = (0, 0)
mend_numbers (Err r) = (number r.reason, r.zone)

abbrev pub mend_told : Answer (List (List Entry)) → ℕ × ℕ
mend_told (refused n z) = (n, z)
mend_told (answered ess) = (0, 0)

-- the answer with its numbers, and every byte of the map
pub record Mending (m : List ℕ) (r : Result (Unit {0}) Refusal) (after : List ℕ) : Type 0 where
  pub answer : r ≡ mend_answer (mend_read m)
  pub numbers : mend_numbers r ≡ mend_told (mend_read m)
  pub bytes : after ≡ mended m

-- the second call's answer: how many positions; and its numbers: refusal (0: listed), zone told, positions
abbrev pub positions_answer : Answer (List ℕ) → Result ℕ Refusal
positions_answer (refused n z) = Err (refusal n z)
positions_answer (answered ps) = Ok (length ps)

abbrev pub positions_numbers : Result ℕ Refusal → ℕ × ℕ × ℕ
positions_numbers (Ok n) = (0, 0, n)
positions_numbers (Err r) = (number r.reason, r.zone, 0)

abbrev pub positions_told : Answer (List ℕ) → ℕ × ℕ × ℕ
positions_told (refused n z) = (n, z, 0)
positions_told (answered ps) = (0, 0, length ps)

-- entries past the last position are untouched; a refusal writes nothing
abbrev pub positions_after : List ℕ → Answer (List ℕ) → List ℕ
positions_after old (refused n z) = old
positions_after old (answered ps) = ps ++ drop (length ps) old

-- the answer with its numbers, and every entry of the list
pub record ListsChanges (m old : List ℕ) (r : Result ℕ Refusal) (after : List ℕ) : Type 0 where
  pub answer : r ≡ positions_answer (positions_found m (length old))
  pub numbers : positions_numbers r ≡ positions_told (positions_found m (length old))
  pub list : after ≡ positions_after old (positions_found m (length old))
