-- The fragment read at the walk's place is the first span ahead, and its link leads to the next one, or on to the zones after this one.
use native.Mathlib.Omega.{arith}
use Rattle.bits.proofs.Bytes.{length_byte_bits}
use Rattle.model.specs.Rules.{zone_block}
use Rattle.chain.proofs.Ahead.{in_bits, closes_here, advances_here, advances_on}
use Rattle.chain.proofs.step.Goals as goal

pub whole_fragment-fragment-requires : goal.whole_fragment-fragment-requires
whole_fragment-fragment-requires c =
    let s = c.requires in
    grind (arith, in_bits s.ahead s.zone, length_byte_bits (zone_block c.args.g c.args.map.now c.args.w.zone), closes_here s)

pub overflow_cast-span : goal.overflow_cast-span
overflow_cast-span c = grind (arith, closes_here c.requires)

pub returns-in-Some : goal.returns-in-Some
returns-in-Some c = advances_here c.requires c.disc_bit.ensures (cc) (cc (c.in-Some.ensures.0)) c.in-Some.ensures.1

pub returns-in-None : goal.returns-in-None
returns-in-None c = advances_on c.requires c.disc_bit.ensures (cc) (cc (c.in-None.ensures)) c.from_zone.ensures
