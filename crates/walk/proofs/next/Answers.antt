-- The fragment read at the walk's place is the first line that remains, and the place after it is settled.
use mathlib.Core.Path.{◌≡◌}
use native.Mathlib.Omega.{arith}
use Rattle.bits.specs.Bits.{byte_bits}
use Rattle.geometry.specs.Places.{end_bit}
use Rattle.model.specs.Rules.{zone_block}
use Rattle.fragment.specs.Reading.{id_at, length_at}
use Rattle.fragment.proofs.Opened.{Opened}
use Rattle.walk.proofs.Remains.{in_bits, closes_here, opened_here, passes, advances}
use Rattle.walk.proofs.next.Goals as goal
use Rattle.walk.proofs.next.Goals.{After-whole_fragment-f}

-- the id and the length that were read, in the zone's block and up to the zone's end, and the fragment
id_is : (f : After-whole_fragment-f) → let a = f.args in
    f.whole_fragment-f.result.id ≡ id_at a.g.idlen a.w.at.0 (byte_bits (zone_block a.g a.map.now a.w.zone))
id_is f = rw f.block.ensures at f.whole_fragment-f.ensures.id

length_is : (f : After-whole_fragment-f) → let a = f.args in
    f.whole_fragment-f.result.len ≡ length_at a.g.idlen a.w.at.0 (end_bit a.g) (byte_bits (zone_block a.g a.map.now a.w.zone))
length_is f = rw (f.block.ensures, f.zone_end.ensures) at f.whole_fragment-f.ensures.len

read : (f : After-whole_fragment-f) → let a = f.args in
    Opened a.g.idlen a.w.at.0 (end_bit a.g) a.w.chain.0 (byte_bits (zone_block a.g a.map.now a.w.zone)) f.whole_fragment-f.result.id f.whole_fragment-f.result.len
read f = opened_here f.requires.0 f.requires.1 (id_is f) (length_is f)

pub whole_fragment-f-requires : goal.whole_fragment-f-requires
whole_fragment-f-requires c =
    rw (c.block.ensures, c.zone_end.ensures) (
      omega (arith, c.requires.1.ahead.numbers.idlen_high),
      in_bits c.requires.0 c.requires.1,
      closes_here c.requires.0 c.requires.1,
    )

pub overflow_cast-line : goal.overflow_cast-line
overflow_cast-line c = omega (arith, (read (goal.at.overflow_cast-line c).After-whole_fragment-f).within, c.requires.1.ahead.numbers.bits_high)

pub overflow_add-past : goal.overflow_add-past
overflow_add-past c = omega (arith, (read (goal.at.overflow_add-past c).After-whole_fragment-f).within, c.requires.1.ahead.numbers.bits_high)

pub settled-requires : goal.settled-requires
settled-requires c =
    let f = (goal.at.settled-requires c).After-whole_fragment-f in
    (c.requires.1.ahead, c.requires.0, rw c.next_after.ensures (passes c.requires.0 c.requires.1 (id_is f) (length_is f)))

pub returns : goal.returns
returns c =
    let f = (goal.at.returns c).After-whole_fragment-f in
    let settles = rw c.next_after.ensures at c.settled.ensures in
    advances c.requires.0 c.requires.1 (id_is f) (length_is f) c.holder.ensures c.disc_bit.ensures settles
