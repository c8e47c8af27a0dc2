-- A bit so far, with what the id has of the lines that are left, is the bit at the start with what it has in all zones.
use Rattle.walk.specs.LinesLeft.{lines_left}
use Rattle.walk.specs.HeldBy.{held_from}
use Rattle.claim.proofs.Cleared.{ClearedSoFar}
use Rattle.claim.proofs.clear_used.Given as goal

abbrev pub invariant-loop-line : goal.invariant-loop-line
invariant-loop-line l = ClearedSoFar (λ id. held_from l.fn.g id l.fn.map 0 l.fn.g.zones) (lines_left l.line-iterator) l.from l.to l.initial.unused l.unused
