-- The first hole among the lines that are left is the zone's.
use mathlib.Core.Path.{◌≡◌}
use Rattle.model.specs.Shown.{pieces_on}
use Rattle.edits.specs.Holes.{holes_in}
use Rattle.edits.specs.Judge.{first_hole}
use Rattle.walk.specs.LinesLeft.{lines_left}
use Rattle.walk.specs.HeldBy.{held_lines}
use Rattle.claim.proofs.first_hole.Given as goal

abbrev pub invariant-loop-line : goal.invariant-loop-line
invariant-loop-line l = first_hole l.need (held_lines 0 (lines_left l.line-iterator)) ≡ first_hole l.need (holes_in l.fn.g (pieces_on l.fn.g l.fn.map) l.fn.z)
