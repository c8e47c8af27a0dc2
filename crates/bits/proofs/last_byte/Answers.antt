-- The byte is all that is left, or nothing is.
use Prim.Native.Nat.{◌+◌, ◌*◌, ◌≤◌, ◌<◌}
use mathlib.Core.Path.{◌≡◌}
use lib.Dec.{ltb}
use lib.ListN.{length}
use native.Mathlib.Omega.{arith}
use borrow.Author.Rules.{rules}
use borrow.Author.Tests.{ltb-true, ltb-false}
use Rattle.std.proofs.lemmas.List.{get_or_past}
use Rattle.bits.specs.Bits.{byte_bits}
use Rattle.bits.proofs.Tests.{by_test}
use Rattle.bits.proofs.BitRuns.{value_end}
use Rattle.bits.proofs.Words.{byte_more}
use Rattle.bits.proofs.last_byte.Goals as goal

pub returns : goal.returns
returns c =
    let a = c.args in
    let s = a.s.now in
    by_test (ltb a.i (length s))
    (λ k. let h : a.i < length s = ltb-true a.i (length s) k in
    let e : 8 * (a.i + 1) ≡ 8 * length s = omega arith in
    let m = rw e at (byte_more s a.i (8 * length s) h (c.type_inv.s a.i).fits (omega arith)) in
    (omega (arith, value_end (byte_bits s) (8 * length s)), search rules))
    (λ k. let h : length s ≤ a.i = ltb-false a.i (length s) k in
    let e : 8 * a.i ≡ 8 * length s = omega arith in
    (rw e (omega (arith, get_or_past s a.i 0 h, value_end (byte_bits s) (8 * length s))), search rules))
