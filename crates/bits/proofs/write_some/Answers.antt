-- A byte stored, or one bit: the two ways of `Stored`.
use native.Mathlib.Omega.{arith}
use Rattle.bits.specs.Bits.{byte_bits}
use Rattle.bits.proofs.Stored.{byte_written, bit_written}
use Rattle.bits.proofs.write_some.Goals as goal

pub returns-then-n-ge8-clause-bits : goal.returns-then-n-ge8-clause-bits
returns-then-n-ge8-clause-bits c =
    let a = c.args in
    byte_written a.s.now a.b a.n a.w c.if-b-eq0.true c.if-n-ge8.true (omega arith)

pub returns-else-b-eq0-clause-bits : goal.returns-else-b-eq0-clause-bits
returns-else-b-eq0-clause-bits c =
    let a = c.args in
    bit_written (byte_bits a.s.now) (byte_bits c.write_bit.new.s) a.b a.n a.w (omega arith) c.write_bit.ensures
