-- The zone is drawn from `to` on (`PiecesDrawn`).
use Prim.Native.Nat.{◌-◌}
use lib.ListN.{length}
use Rattle.bits.specs.Bits.{byte_bits}
use Rattle.writer.proofs.PiecesDrawn.{DrawnFrom}
use Rattle.writer.proofs.draw_pieces.Given as goal

abbrev pub invariant-loop-piece : goal.invariant-loop-piece
invariant-loop-piece l = DrawnFrom l.g l.z l.pieces (byte_bits l.initial.block) (byte_bits l.block) (length l.pieces - length l.yielded) l.to.0 l.next.0
