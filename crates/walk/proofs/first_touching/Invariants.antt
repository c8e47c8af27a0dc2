-- The lowest zone told by the lines that are left is that of all zones.
use mathlib.Core.Path.{◌≡◌}
use Rattle.model.specs.Chain.{touching}
use Rattle.model.specs.Shown.{zones_of}
use Rattle.walk.specs.LinesLeft.{lines_left}
use Rattle.walk.specs.Touching.{touching_lines}
use Rattle.walk.proofs.LinesOf.{LieIn}
use Rattle.walk.proofs.first_touching.Given as goal

abbrev pub invariant-loop-line : goal.invariant-loop-line
invariant-loop-line l = record {
  told : touching_lines l.zone l.free (lines_left l.line-iterator) ≡ touching 0 (zones_of l.map);
  lie : LieIn 0 l.fn.g.zones (lines_left l.line-iterator);
}
