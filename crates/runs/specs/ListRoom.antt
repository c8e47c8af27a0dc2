-- Room for a list, in the words of document 01's refusal 13 and over the bits of the map: "a listed bit isn't free, or a leftover of 1 to
-- m-1 free bits". Assumes nothing.
use Rattle.std.specs.Prelude.{◌≡◌, List, ℕ, suc, ◌+◌, ◌<◌}
use Rattle.geometry.specs.Record.{geometry_of}
use Rattle.geometry.specs.Places.{zone_of}
use Rattle.model.specs.Chain.{Pair, Within}
use Rattle.model.specs.Shown.{spans_on}
use Rattle.edits.specs.Judge.{pairs_from}
use Rattle.edits.specs.Room.{InSome}

-- bit d is free, and not listed
abbrev pub StaysFree : List ℕ → List ℕ → ℕ → Type 0
StaysFree m list d = InSome (spans_on m) d × (InSome (pairs_from list) d → ⊥)

-- bit d is one of the zone that h starts in
abbrev pub SameZone : List ℕ → Pair → ℕ → Type 0
SameZone m h d = zone_of (geometry_of m) d ≡ zone_of (geometry_of m) h.start

-- the bits of h are left over: they lie in one zone and stay free, and of the bits beside them none does that lies in that zone
pub record Leftover (m list : List ℕ) (h : Pair) : Type 0 where
  pub one_zone : (d : ℕ) → Within h d → SameZone m h d
  pub stay : (d : ℕ) → Within h d → StaysFree m list d
  pub before : (d : ℕ) → suc d ≡ h.start → SameZone m h d → StaysFree m list d → ⊥
  pub after : SameZone m h (h.start + h.len) → StaysFree m list (h.start + h.len) → ⊥

pub data NoRoom (m list : List ℕ) : Type 0 where
  -- "a listed bit isn't free"
  not_free : (d : ℕ) → InSome (pairs_from list) d → (InSome (spans_on m) d → ⊥) → NoRoom m list
  -- "or a leftover of 1 to m-1 free bits"
  leftover : (h : Pair) → Leftover m list h → 0 < h.len → h.len < (geometry_of m).shortest → NoRoom m list
