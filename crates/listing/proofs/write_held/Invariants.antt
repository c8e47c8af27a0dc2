-- What is stored so far, with the pairs of the lines that are left stored after it, is all pairs stored.
use Rattle.walk.specs.LinesLeft.{lines_left}
use Rattle.walk.specs.HeldBy.{held_lines, held_between}
use Rattle.listing.proofs.Stored.{StoredSoFar}
use Rattle.listing.proofs.write_held.Given as goal

abbrev pub invariant-loop-line : goal.invariant-loop-line
invariant-loop-line l = StoredSoFar l.initial.pairs l.pairs l.fn.at l.i (held_between l.fn.g l.holder l.fn.map l.fn.from l.fn.to) (held_lines l.holder (lines_left l.line-iterator))
