-- What the word has without the bits above the n.
use Prim.Native.Nat.{ℕ, ◌+◌, ◌*◌, ◌/◌, ◌%◌, ◌^◌}
use mathlib.Core.Path.{ap, ◌∙◌}
use native.Mathlib.Omega.{arith}
use Rattle.bits.specs.Bits.{byte_bits}
use Rattle.bits.proofs.Bytes.{length_byte_bits}
use Rattle.bits.proofs.BitRuns.{value_first}
use Rattle.bits.proofs.Words.{one_shifted}
use borrow.Author.Rules.{rules}
use Rattle.bits.proofs.number.Goals as goal

pub returns : goal.returns
returns c =
    let a = c.args in
    rw (one_shifted a.n (search rules)) (ap (λ (x : ℕ). x % 2 ^ a.n) c.word_from.ensures
    ∙ value_first (byte_bits a.s.now) a.at a.n (8 * (a.at / 8) + 64) (omega arith) (omega (arith, length_byte_bits a.s.now)))
