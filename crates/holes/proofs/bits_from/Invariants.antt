-- The bits so far and those of the holes that are left are those of all, each time of the holes that are long enough.
use mathlib.Core.Path.{◌≡◌}
use Prim.Native.Nat.{◌+◌}
use Rattle.chain.specs.SpansLeft.{spans_left}
use Rattle.split.specs.Threshold.{at_least}
use Rattle.holes.specs.Passes.{holes_on}
use Rattle.holes.proofs.bits_from.Given as goal

abbrev pub invariant-loop-hole : goal.invariant-loop-hole
invariant-loop-hole l = l.bits + at_least l.least (spans_left l.hole-iterator) ≡ at_least l.least (holes_on l.fn.g l.fn.map)
