-- What is stored so far, with what the holes that are left give on the wanted side stored after it, is all of it stored. Those holes lie apart on the
-- map, so each one's zone can be told.
use Prim.Native.Nat.{◌<◌}
use Rattle.geometry.specs.Places.{disc_bits}
use Rattle.model.specs.Pieces.{keep}
use Rattle.chain.specs.SpansLeft.{spans_left}
use Rattle.listing.proofs.Ascend.{Apart}
use Rattle.listing.proofs.Stored.{StoredSoFar}
use Rattle.split.specs.Threshold.{pick_from}
use Rattle.holes.specs.Passes.{pieces_by, on_side}
use Rattle.holes.proofs.write_pieces.Given as goal

abbrev pub invariant-loop-hole : goal.invariant-loop-hole
invariant-loop-hole l = record {
  apart : Apart 0 (disc_bits l.g) (spans_left l.hole-iterator);
  small : l.rest < 4294967296;
  stored : StoredSoFar l.initial.pairs l.pairs l.at l.next (keep (on_side l.g l.zone l.late) (pieces_by l.fn.g l.fn.map l.fn.threshold))
      (keep (on_side l.g l.zone l.late) (pick_from l.g.shortest l.threshold.len l.rest (spans_left l.hole-iterator)));
}
