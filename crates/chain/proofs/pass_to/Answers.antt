-- Where a link leads, the next free fragment stands, and one fewer lies ahead.
use native.Mathlib.Omega.{arith}
use borrow.Author.Rules.{rules}
use Rattle.bits.proofs.Bytes.{length_byte_bits}
use Rattle.model.specs.Rules.{zone_block}
use Rattle.chain.proofs.Ahead.{in_bits, closes_here, passes_none, next_free, one_fewer, passes_more}
use Rattle.chain.proofs.pass_to.Goals as goal

pub loop-linked-init : goal.loop-linked-init
loop-linked-init c = passes_none c.args.d.0 c.requires

pub number-requires : goal.number-requires
number-requires c =
    let s = c.loop-linked.invariant.stands in
    grind (arith, in_bits s.ahead s.zone, length_byte_bits (zone_block c.args.g c.args.map.now c.args.w.zone), closes_here s)

pub disc_bit-requires : goal.disc_bit-requires
disc_bit-requires c =
    let free = next_free c.loop-linked.invariant (cc (c.in-Some.ensures.0)) c.in-Some.ensures.1 in
    grind (arith, free)

pub loop-linked-smaller : goal.loop-linked-smaller
loop-linked-smaller c = one_fewer c.loop-linked.invariant (cc (c.in-Some.ensures.0)) c.in-Some.ensures.1

pub loop-linked-preserved : goal.loop-linked-preserved
loop-linked-preserved c = passes_more c.loop-linked.invariant (cc (c.in-Some.ensures.0)) c.in-Some.ensures.1 (search rules)
