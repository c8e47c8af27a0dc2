-- The first hole of the zones that are at least as far away as d is that of all.
use Prim.Native.Nat.{◌-◌}
use mathlib.Core.Path.{◌≡◌}
use Rattle.model.specs.Shown.{pieces_on}
use Rattle.edits.specs.Near.{zones_from}
use Rattle.edits.specs.Holes.{holes_of}
use Rattle.edits.specs.Judge.{first_hole, holes_near}
use Rattle.claim.proofs.nearest_hole.Given as goal

abbrev pub invariant-loop-d : goal.invariant-loop-d
invariant-loop-d l = first_hole l.need (holes_of l.g (pieces_on l.g l.map) (zones_from l.g.zones l.parent l.d (l.g.zones - l.d))) ≡ first_hole l.need (holes_near l.g (pieces_on l.g l.map) l.parent)
