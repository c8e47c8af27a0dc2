-- The bits so far and those of the holes that are left are the bits of all, and the longest so far, held against the holes that are left, is the
-- longest of all.
use mathlib.Core.Path.{◌≡◌}
use Prim.Native.Nat.{◌+◌}
use Rattle.model.specs.Chain.{pair}
use Rattle.chain.specs.SpansLeft.{span_pair, spans_left}
use Rattle.split.specs.Taken.{total}
use Rattle.split.specs.Threshold.{first_longest}
use Rattle.holes.specs.Passes.{holes_on}
use Rattle.holes.proofs.survey.Given as goal

abbrev pub invariant-loop-hole : goal.invariant-loop-hole
invariant-loop-hole l = record {
  bits : l.bits + total (spans_left l.hole-iterator) ≡ total (holes_on l.fn.g l.fn.map);
  longest : first_longest (span_pair l.longest) (spans_left l.hole-iterator) ≡ first_longest (pair 0 0) (holes_on l.fn.g l.fn.map);
}
