-- What is left is merged as all was (`PairsMerged`). The measure is the pieces and pairs left.
use Prim.Native.Nat.{◌+◌, ◌/◌, ◌≤◌}
use lib.ListN.{length}
use Rattle.writer.proofs.PairsMerged.{MergedSo}
use Rattle.writer.proofs.merge_pairs.Given as goal

abbrev pub invariant-loop-pairs : goal.invariant-loop-pairs
invariant-loop-pairs l = record {
  in_list : l.pairs ≤ length l.list / 2;
  room : l.left + l.pairs ≤ length l.pieces;
  merged : MergedSo l.id l.list l.initial.pieces l.pieces l.left l.pairs;
}

abbrev pub decreases-loop-pairs : goal.decreases-loop-pairs
decreases-loop-pairs l = l.left + l.pairs
