-- The positions in the zones below z are listed (`PositionsListed`).
use mathlib.Core.Path.{◌≡◌}
use lib.ListN.{length}
use Rattle.writer.specs.declared.TheConstants.{MOST_LINES}
use Rattle.mend.proofs.PositionsListed.{ListedBelow}
use Rattle.mend.proofs.list_changes.Given as goal

abbrev pub invariant-loop-z : goal.invariant-loop-z
invariant-loop-z l = (length l.pieces ≡ MOST_LINES) × (length l.block ≡ 1024) × ListedBelow l.g l.map l.initial.list l.list l.n l.z
