-- The two lowest bytes and those after them, which are all where there are fewer than two.
use Prim.Native.Nat.{◌+◌, ◌-◌, ◌*◌, ◌/◌}
use mathlib.Core.Path.{◌≡◌}
use lib.ListN.{length}
use native.Mathlib.Omega.{arith}
use Rattle.bits.proofs.Words.{byte_more}
use borrow.Author.Rules.{rules}
use Rattle.bits.proofs.last_bytes.Goals as goal

pub returns-then-left-lt2 : goal.returns-then-left-lt2
returns-then-left-lt2 c =
    let a = c.args in
    let e : a.i + (length a.s.now - a.i) / 2 * 2 ≡ a.i = omega arith in
    (rw e at c.last_byte-high.ensures.0, search rules)

pub returns-else-left-lt2 : goal.returns-else-left-lt2
returns-else-left-lt2 c =
    let a = c.args in
    let s = a.s.now in
    let t = 8 * length s in
    let e : a.i + (length s - a.i) / 2 * 2 ≡ a.i + 1 + 1 = omega arith in
    let high = rw e at c.last_byte-high.ensures.0 in
    let m0 = byte_more s a.i t (omega arith) (c.type_inv.s a.i).fits (omega arith) in
    let m1 = byte_more s (a.i + 1) t (omega arith) (c.type_inv.s (a.i + 1)).fits (omega arith) in
    (omega arith, search rules)
