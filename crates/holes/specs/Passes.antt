-- What the passes over a map's holes find (document 02, R-8). Assumes nothing.
use Rattle.std.specs.Prelude.{◌≡◌, Bool, true, false, not, List, [], ◌∷◌, ◌++◌, Option, Some, None, ℕ, suc, ◌-◌, ◌≤◌, leb}
use Rattle.geometry.specs.declared.Geometry.{Geometry}
use Rattle.geometry.specs.Places.{zone_of}
use Rattle.model.specs.Chain.{Pair, pair}
use Rattle.walk.specs.HeldBy.{held_from}
use Rattle.split.specs.Taken.{total}
use Rattle.split.specs.Threshold.{at_least, IsThreshold, pick_from, first_longest}
use Rattle.holes.specs.declared.AllHoles.{AllHoles}
use Rattle.holes.specs.declared.Threshold.{Threshold}
use Rattle.holes.specs.declared.Given.{Given}

-- the holes of a map, ascending
abbrev pub holes_on : Geometry → List ℕ → List Pair
holes_on g m = held_from g 0 m 0 g.zones

pub record Surveyed (hs : List Pair) (r : AllHoles) : Type 0 where
  pub bits : r.bits ≡ total hs
  pub longest : pair r.start.0 r.len ≡ first_longest (pair 0 0) hs

pub record ThresholdFound (need : ℕ) (hs : List Pair) (r : Threshold) : Type 0 where
  pub parts : IsThreshold need hs r.len
  pub rest : r.rest ≡ need - at_least (suc r.len) hs

-- the pieces that the holes of a map give by a threshold
abbrev pub pieces_by : Geometry → List ℕ → Threshold → List Pair
pieces_by g m t = pick_from g.shortest t.len t.rest (holes_on g m)

-- the piece of so many bits that a hole gives, if any
abbrev pub piece_if : ℕ → Option ℕ → List Pair
piece_if start None = []
piece_if start (Some n) = pair start n ∷ []

-- a hole of n bits gives its piece, or none, and the holes after it are picked with the rest that it leaves
pub record Gives (m t rest n : ℕ) (r : Given) : Type 0 where
  pub first : (start : ℕ) (hs : List Pair) → pick_from m t rest (pair start n ∷ hs) ≡ piece_if start r.piece ++ pick_from m t r.rest hs
  pub less : r.rest ≤ rest

-- on which side of an object's start zone a piece lies: from that zone on, or before it
abbrev pub on_side : Geometry → ℕ → Bool → Pair → Bool
on_side g zone true q = leb zone (zone_of g q.start)
on_side g zone false q = not (leb zone (zone_of g q.start))
