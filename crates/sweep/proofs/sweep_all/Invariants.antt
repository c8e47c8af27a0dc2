-- What is swept so far, with the lines that are left swept after it, is all the zones swept.
use Rattle.walk.specs.LinesLeft.{lines_left}
use Rattle.walk.specs.HeldBy.{held_lines, held_from}
use Rattle.sweep.proofs.SweptOn.{SweptSoFar}
use Rattle.sweep.proofs.sweep_all.Given as goal

abbrev pub invariant-loop-line : goal.invariant-loop-line
invariant-loop-line l = SweptSoFar l.g.unit (held_from l.g l.holder l.fn.map 0 l.g.zones) (held_lines l.holder (lines_left l.line-iterator)) l.initial.stretch l.count l.stretch
