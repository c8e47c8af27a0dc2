-- A hole's piece is the first of what is left to store, if it is on the wanted side. The holes that are left lie apart, so its zone can be told.
use native.Mathlib.Omega.{arith}
use Rattle.geometry.specs.Places.{disc_bits}
use Rattle.listing.proofs.Ascend.{map_apart}
use Rattle.listing.proofs.Stored.{stored_starts, piece_room, piece_stored}
use Rattle.holes.proofs.Picked.{keep_turn}
use Rattle.holes.proofs.HoleBits.{apart_turn}
use Rattle.holes.proofs.write_pieces.Goals as goal

pub loop-hole-init : goal.loop-hole-init
loop-hole-init c = grind (arith, map_apart, stored_starts)

pub on_side-here-requires : goal.on_side-here-requires
on_side-here-requires c = (c.requires.0.readable.numbers, (apart_turn (disc_bits c.args.g) c.in-Some.ensures.steps c.loop-hole.invariant.apart).0)

pub put_if-next-requires : goal.put_if-next-requires
put_if-next-requires c = grind (arith, piece_room, keep_turn)

pub loop-hole-preserved-in-Some-piece : goal.loop-hole-preserved-in-Some-piece
loop-hole-preserved-in-Some-piece c = grind (arith, piece_stored, keep_turn, apart_turn (disc_bits c.args.g) c.in-Some.ensures.steps c.loop-hole.invariant.apart)

pub loop-hole-preserved : goal.loop-hole-preserved
loop-hole-preserved c = grind (arith, apart_turn (disc_bits c.args.g) c.in-Some.ensures.steps c.loop-hole.invariant.apart)
