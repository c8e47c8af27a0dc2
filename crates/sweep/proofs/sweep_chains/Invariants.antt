-- What is swept so far, with the free spans that are left swept after it, is all of free space swept.
use Rattle.chain.specs.SpansLeft.{spans_left}
use Rattle.walk.specs.HeldBy.{held_from}
use Rattle.sweep.proofs.SweptOn.{SweptSoFar}
use Rattle.sweep.proofs.sweep_chains.Given as goal

abbrev pub invariant-loop-span : goal.invariant-loop-span
invariant-loop-span l = SweptSoFar l.g.unit (held_from l.g 0 l.fn.map 0 l.g.zones) (spans_left l.span-iterator) l.initial.stretch l.count l.stretch
