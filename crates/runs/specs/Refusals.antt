-- The lines of document 01's table that the calls that edit have of their own, 8 to 17, in the table's order ("Numbered refusals"): what
-- the map reads as, objects as `list` shows them and spans as `free` shows them. Refusals 1 to 7 are `Judged`. Assumes nothing.
use Rattle.std.specs.Prelude.{◌≡◌, List, [], ◌∷◌, ◌⊎◌, ℕ, ◌+◌, ◌*◌, ◌<◌, ◌≤◌}
use Rattle.geometry.specs.declared.Geometry.{Geometry}
use Rattle.geometry.specs.Record.{geometry_of}
use Rattle.geometry.specs.Places.{zone_of}
use Rattle.model.specs.Answer.{Answer, answered}
use Rattle.model.specs.Chain.{Pair}
use Rattle.model.specs.Refusals.{Refusing, line, Outside, NotThere, TooFew}
use Rattle.model.specs.Shown.{listed_on, spans_on}
use Rattle.split.specs.Taken.{total}
use Rattle.edits.specs.Edits.{Edit, gives}
use Rattle.edits.specs.Judge.{need}
use Rattle.edits.specs.Room.{In}
use Rattle.runs.specs.ListRules.{ListRules}
use Rattle.runs.specs.ListRoom.{NoRoom}
use Rattle.runs.specs.Claims.{ClaimRules}

-- "two free fragments of a zone touch": two spans that start in zone z, the second where the first ends
pub record Touch (g : Geometry) (spans : List Pair) (z : ℕ) : Type 0 where
  pub first : Pair
  pub second : Pair
  pub first_free : In first spans
  pub second_free : In second spans
  pub first_zone_law : zone_of g first.start ≡ z
  pub second_zone : zone_of g second.start ≡ z
  pub meet : second.start ≡ first.start + first.len

-- "The lowest zone is told."
pub record LowestTouch (g : Geometry) (spans : List Pair) (z : ℕ) : Type 0 where
  pub touch : Touch g spans z
  pub none_lower : (y : ℕ) → y < z → Touch g spans y → ⊥

module _ (m : List ℕ) where
  -- 8: "id argument outside .. 3 (sweep, edits) to P*nzones-1"
  abbrev pub eight : ℕ → Refusing
  eight id = line 8 (Outside 3 m id)

  -- 9: "edits: two free fragments of a zone touch", "that zone"
  abbrev pub nine : Refusing
  nine = record { number = 9; given = LowestTouch (geometry_of m) (spans_on m) }

  -- 10: "id not on the map (list, address, sweep, release)"
  abbrev pub ten : ℕ → Refusing
  ten id = line 10 (NotThere m id)

  -- 11: "id already on the map (place)"
  abbrev pub eleven : ℕ → Refusing
  eleven id = line 11 (NotThere m id → ⊥)

  -- 12: "list empty, odd, out of object order, overlapping, a piece across zones or off the disc map, start or length not a multiple of k,
  -- length below m"
  abbrev pub twelve : ℕ → List ℕ → Refusing
  twelve id list = line 12 (ListRules (geometry_of m) id list → ⊥)

  -- "claim of 0 bytes", and by R-6 "a parent zone (refusal 12 if not below nzones)"
  abbrev pub twelve_claim : ℕ → ℕ → Refusing
  twelve_claim size parent = line 12 ((size ≡ 0) ⊎ ((geometry_of m).zones ≤ parent))

  -- 13: "a listed bit isn't free, or a leftover of 1 to m-1 free bits"
  abbrev pub thirteen : List ℕ → Refusing
  thirteen list = line 13 (NoRoom m list)

  -- 14: "claim: no unused id (can't arise, since zone 0 is 480 bits short)"
  abbrev pub fourteen : Refusing
  fourteen = line 14 ((id : ℕ) → 3 ≤ id → id < (geometry_of m).ids * (geometry_of m).zones → NotThere m id → ⊥)

  -- 15: by R-8 "given exactly if all free bits together are fewer than need", wherever the parent zone is
  abbrev pub fifteen : ℕ → Refusing
  fifteen size = line 15 (total (spans_on m) < need (geometry_of m) size)

  -- 17: "too few entries for the pairs"
  abbrev pub seventeen : ℕ → ℕ → Refusing
  seventeen id room = line 17 (TooFew room (listed_on m id))

  -- "The answer becomes a list .. so 17 may be given": for the pairs that the rules of a claim give
  abbrev pub seventeen_claim : ℕ → ℕ → ℕ → Refusing
  seventeen_claim size parent room = line 17 ((id : ℕ) × (qs : List Pair) × ClaimRules m size parent id qs × TooFew room qs)

  -- each call's lines
  abbrev pub release_lines : ℕ → ℕ → List Refusing
  release_lines id room = eight id ∷ nine ∷ ten id ∷ seventeen id room ∷ []

  abbrev pub place_lines : ℕ → List ℕ → List Refusing
  place_lines id list = eight id ∷ nine ∷ eleven id ∷ twelve id list ∷ thirteen list ∷ []

  abbrev pub claim_lines : ℕ → ℕ → ℕ → List Refusing
  claim_lines size parent room = nine ∷ twelve_claim size parent ∷ fourteen ∷ fifteen size ∷ seventeen_claim size parent room ∷ []

  -- what a claim that none of these refuses answers: pairs go to one id, by the rules
  abbrev pub ClaimTakes : ℕ → ℕ → Answer Edit → Type 0
  ClaimTakes size parent r = (id : ℕ) × (qs : List Pair) × (r ≡ answered (gives id qs)) × ClaimRules m size parent id qs
