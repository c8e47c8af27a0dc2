-- Release, place and claim answer what the table's lines say, and nothing else: each refusal is given exactly when its line says so and no
-- line before it does. Assumes nothing.
use Rattle.std.specs.Prelude.{◌≡◌, List, ◌↔◌, ℕ}
use Rattle.std.proofs.Math.Option.{none, some}
use Rattle.bits.specs.Bits.{Bytes}
use Rattle.model.specs.Refusals.{TableSays, ByTable, Exactly}
use Rattle.model.specs.Chain.{touching}
use Rattle.model.specs.Rules.{MapRules}
use Rattle.model.specs.Shown.{zones_of, listed_on}
use Rattle.edits.specs.Edits.{takes, gives}
use Rattle.edits.specs.Judge.{release, place, claim, pairs_from}
use Rattle.edits.specs.Steps.{outcome}
use Rattle.runs.specs.Refusals.{nine, release_lines, place_lines, claim_lines, ClaimTakes}

pub record EditTable : Type 0 where
  -- 9: the zone found by going through the fragments is the one that the line tells, and there is none exactly where the line tells none
  pub touching_told : (m : List ℕ) → MapRules m → (z : ℕ) → touching 0 (zones_of m) ≡ some z ↔ (nine m).given z
  pub none_touching : (m : List ℕ) → MapRules m → touching 0 (zones_of m) ≡ none ↔ ((z : ℕ) → (nine m).given z → ⊥)
  -- "Release: removes all fragments of an object, returns its pairs in object order"
  pub release_by_table : (m : List ℕ) (id room : ℕ) → Exactly (ByTable m (release_lines m id room) (takes id (listed_on m id))) (outcome m (release id room))
  -- "Place: gives the listed pieces to an absent id"
  pub place_by_table : (m : List ℕ) → Bytes m → (id : ℕ) (list : List ℕ)
      → Exactly (ByTable m (place_lines m id list) (gives id (pairs_from list))) (outcome m (place id list))
  -- "Claim: given a size in bytes", a parent zone and room for a list: the id and the pairs by their rules
  pub claim_by_table : (m : List ℕ) → Bytes m → (size parent room : ℕ)
      → Exactly (TableSays m (claim_lines m size parent room) (ClaimTakes m size parent)) (outcome m (claim size parent room))
