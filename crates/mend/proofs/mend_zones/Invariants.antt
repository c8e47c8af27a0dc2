-- The zones below z are mended (`ZonesInTurn`).
use mathlib.Core.Path.{◌≡◌}
use lib.ListN.{length}
use Rattle.edits.proofs.WrittenBelow.{WrittenBelow}
use Rattle.mended.specs.Mended.{mended}
use Rattle.writer.specs.declared.TheConstants.{MOST_LINES}
use Rattle.mend.proofs.mend_zones.Given as goal

abbrev pub invariant-loop-z : goal.invariant-loop-z
invariant-loop-z l = (length l.pieces ≡ MOST_LINES) × WrittenBelow l.g.sector l.g.zones (mended l.initial.map) l.initial.map l.map l.z
