-- The number of len - 1 bits, and the closing 1 set after it.
use mathlib.Core.Path.{ap, ◌∙◌}
use mathlib.Core.Bool.{Bool, true}
use mathlib.Core.List.{List}
use Prim.Native.Nat.{◌+◌, ◌-◌}
use native.Mathlib.Omega.{arith}
use lib.ListN.{set}
use Rattle.bits.specs.Bits.{byte_bits}
use Rattle.bits.proofs.Bytes.{length_byte_bits}
use Rattle.writer.proofs.FragmentWritten.{fragment_set}
use borrow.Author.Rules.{rules}
use Rattle.writer.proofs.write_fragment.Goals as goal

pub returns : goal.returns
returns c =
    let a = c.args in
    c.set_bit.ensures
    ∙ ap (λ (B : List Bool). set B (a.at.0 + (a.len - 1)) true) c.write_number.ensures
    ∙ fragment_set (byte_bits a.block.now) a.at.0 a.len a.id a.idlen (search rules) (omega (arith, length_byte_bits a.block.now)) (search rules)
