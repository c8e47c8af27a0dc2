-- What a place answers and what it leaves in the map (document 01, "Place", refusals 8, 9, 11, 12, 13). Assumes nothing.
use Rattle.std.specs.Prelude.{◌≡◌, List, ℕ, Result, Ok, Err}
use Rattle.geometry.specs.declared.Refusal.{Refusal}
use Rattle.geometry.specs.Answers.{number, refusal}
use Rattle.edits.specs.Judge as call
use Rattle.model.specs.Answer.{Answer, refused, answered}
use Rattle.edits.specs.Edits.{Edit}
use Rattle.edits.specs.Steps.{outcome, step}

abbrev pub place_answer : Answer Edit → Result (Unit {0}) Refusal
place_answer (refused n z) = Err (refusal n z)
place_answer (answered e) = Ok tt

-- the paper's numbers: refusal (0: accepted) and zone told
abbrev pub place_numbers : Result (Unit {0}) Refusal → ℕ × ℕ
place_numbers (Ok d) = (0, 0)
place_numbers (Err r) = (number r.reason, r.zone)

-- as the table gives them for the outcome
abbrev pub place_told : Answer Edit → ℕ × ℕ
place_told (refused n z) = (n, z)
place_told (answered e) = (0, 0)

-- the answer with its numbers, and every byte of the map
pub record Places (m : List ℕ) (id : ℕ) (list : List ℕ) (r : Result (Unit {0}) Refusal) (after : List ℕ) : Type 0 where
  pub answer : r ≡ place_answer (outcome m (call.place id list))
  pub numbers : place_numbers r ≡ place_told (outcome m (call.place id list))
  pub bytes : after ≡ step m (call.place id list)
