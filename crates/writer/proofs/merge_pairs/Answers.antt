-- The last piece goes last, or the last pair does (`PairsMerged`).
use Prim.Native.Nat.{◌-◌, ◌<◌, ◌≤◌}
use native.Mathlib.Omega.{arith}
use lib.ListN.{get_or, length-set}
use Rattle.writer.proofs.PairsMerged.{none, merge_starts, merge_ends, merge_piece, merge_pair}
use Rattle.writer.proofs.merge_pairs.Goals as goal
use Rattle.writer.proofs.merge_pairs.Goals.{else-left-gt0-via-then-left-gt0+else-pair-pieces, else-left-gt0-via-else-left-gt0}

pub loop-pairs-init : goal.loop-pairs-init
loop-pairs-init c =
    let a = c.args in record { in_list = omega arith; room = omega arith; merged = merge_starts a.id a.list.now a.pieces.now c.requires }

pub loop-pairs-preserved-then-pair-pieces : goal.loop-pairs-preserved-then-pair-pieces
loop-pairs-preserved-then-pair-pieces c =
    let a = c.args in
    let l = c.loop-pairs in record {
      in_list = l.invariant.in_list;
      room = simp length-set (omega arith);
      merged = merge_piece a.id a.list.now a.pieces.now l.pieces l.left l.pairs l.invariant.merged c.loop-pairs-test.true l.invariant.in_list l.invariant.room c.pair_at-pair.ensures none c.if-left-gt0.true c.if-pair-pieces.true;
    }

pub loop-pairs-preserved : goal.loop-pairs-preserved
loop-pairs-preserved c =
    let a = c.args in
    let l = c.loop-pairs in
    let t : 0 < l.left → (get_or l.pieces (l.left - 1) none).start.0 ≤ c.pair_at-pair.result.start.0 =
    elim c.else-left-gt0.branch [
      | else-left-gt0-via-then-left-gt0+else-pair-pieces w ↦ λ h. w.if-pair-pieces.false
      | else-left-gt0-via-else-left-gt0 w ↦ λ h. absurd (omega arith)
    ] in record {
      in_list = omega arith;
      room = simp length-set (omega arith);
      merged = merge_pair a.id a.list.now a.pieces.now l.pieces l.left l.pairs l.invariant.merged c.loop-pairs-test.true l.invariant.in_list l.invariant.room c.pair_at-pair.ensures none t;
    }

pub returns : goal.returns
returns c =
    let a = c.args in
    let l = c.loop-pairs in merge_ends a.id a.list.now a.pieces.now l.pieces l.left l.pairs l.invariant.merged c.loop-pairs-test.false
