-- The zones below z are drawn (`ZonesDrawn`), from the two pieces.
use Rattle.edits.proofs.WrittenBelow.{WrittenBelow}
use Rattle.format.specs.Zones.{zones_formatted}
use Rattle.format.proofs.draw_zones.Given as goal

abbrev pub invariant-loop-z : goal.invariant-loop-z
invariant-loop-z l = WrittenBelow l.g.sector l.g.zones (zones_formatted l.g l.initial.map) l.initial.map l.map l.z
