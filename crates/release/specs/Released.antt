-- What a release answers, and what it leaves in the map and in the lent list (document 01, "Release", refusals 8, 9, 10, 17).
-- Assumes nothing.
use Rattle.std.specs.Prelude.{◌≡◌, List, ℕ, length, Result}
use Rattle.geometry.specs.declared.Refusal.{Refusal}
use Rattle.edits.specs.Judge as call
use Rattle.edits.specs.Steps.{outcome, pairs_told, step}
use Rattle.listing.specs.Listed.{Lists}

-- "returns its pairs in object order": what a listing would find. The answer and every entry of the list, as of a listing, and every byte of the map
pub record Releases (m : List ℕ) (id : ℕ) (old : List ℕ) (r : Result ℕ Refusal) (after : List ℕ) (new : List ℕ) : Type 0 where
  pub lists : Lists (pairs_told (outcome m (call.release id (length old)))) old r new
  pub bytes : after ≡ step m (call.release id (length old))
