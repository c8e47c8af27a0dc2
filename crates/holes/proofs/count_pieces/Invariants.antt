-- The count so far and that of what the holes that are left give with the rest are together that of all.
use mathlib.Core.Path.{◌≡◌}
use Prim.Native.Nat.{◌+◌, ◌<◌}
use lib.ListN.{length}
use Rattle.chain.specs.SpansLeft.{spans_left}
use Rattle.split.specs.Threshold.{pick_from}
use Rattle.holes.specs.Passes.{pieces_by}
use Rattle.holes.proofs.count_pieces.Given as goal

abbrev pub invariant-loop-hole : goal.invariant-loop-hole
invariant-loop-hole l = record {
  small : l.rest < 4294967296;
  count : l.count + length (pick_from l.g.shortest l.threshold.len l.rest (spans_left l.hole-iterator)) ≡ length (pieces_by l.fn.g l.fn.map l.fn.threshold);
}
