-- The zones of the parts so far are done (`ZonesEdited`).
use lib.ListN.{length}
use Rattle.writer.proofs.ZonesEdited.{Editing}
use Rattle.writer.proofs.edit_map.Given as goal

abbrev pub invariant-loop-z : goal.invariant-loop-z
invariant-loop-z l = Editing l.initial.map l.g l.gone l.list l.id l.map l.earlier (length l.yielded)
