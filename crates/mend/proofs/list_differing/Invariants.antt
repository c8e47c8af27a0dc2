-- The positions of the first i bytes are listed (`Differences`).
use lib.ListN.{take}
use Rattle.mend.proofs.Differences.{Listed}
use Rattle.mend.proofs.list_differing.Given as goal

abbrev pub invariant-loop-i : goal.invariant-loop-i
invariant-loop-i l = Listed l.at (take l.i l.old) (take l.i l.new) l.initial.list l.list l.n l.k
