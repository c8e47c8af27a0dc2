-- What a claim answers and what it leaves in the map and in the lent list (document 01, "Claim", refusals 9, 12, 14, 15, 17; document 02, R-6 and R-8).
-- Assumes nothing.
use Rattle.std.specs.Prelude.{◌≡◌, List, ℕ, length}
use Rattle.geometry.specs.Answers.{number, refusal}
use Rattle.edits.specs.Edits.{Edit, edit_id, pairs_in}
use Rattle.edits.specs.Judge as call
use Rattle.model.specs.Answer.{Answer, refused, answered}
use Rattle.edits.specs.Steps.{outcome, pairs_told, step}
use Rattle.listing.specs.Listed.{list_after}
use Rattle.std.specs.Prelude.{Result, Ok, Err}
use Rattle.geometry.specs.declared.Refusal.{Refusal}
use Rattle.claim.specs.declared.Given.{Given}

-- the id, and how many pairs it was given
abbrev pub given_pairs : ℕ → ℕ → Given
given_pairs id n = record { id = id; pairs = n }

abbrev pub claim_answer : Answer Edit → Result Given Refusal
claim_answer (refused n z) = Err (refusal n z)
claim_answer (answered e) = Ok (given_pairs (edit_id e) (length (pairs_in e)))

-- the paper's numbers: refusal (0: accepted), zone told, id, pairs
abbrev pub claim_numbers : Result Given Refusal → ℕ × ℕ × ℕ × ℕ
claim_numbers (Ok c) = (0, 0, c.id, c.pairs)
claim_numbers (Err r) = (number r.reason, r.zone, 0, 0)

-- as the table gives them for the outcome
abbrev pub claim_told : Answer Edit → ℕ × ℕ × ℕ × ℕ
claim_told (refused n z) = (n, z, 0, 0)
claim_told (answered e) = (0, 0, edit_id e, length (pairs_in e))

-- the answer with its numbers, every entry of the lent list, and every byte of the map
pub record Claims (m : List ℕ) (size parent : ℕ) (old : List ℕ) (r : Result Given Refusal) (after new : List ℕ) : Type 0 where
  pub answer : r ≡ claim_answer (outcome m (call.claim size parent (length old)))
  pub numbers : claim_numbers r ≡ claim_told (outcome m (call.claim size parent (length old)))
  pub list : new ≡ list_after old (pairs_told (outcome m (call.claim size parent (length old))))
  pub bytes : after ≡ step m (call.claim size parent (length old))
