-- The four lowest bytes and those after them, which are all where there are fewer than four.
use Prim.Native.Nat.{◌+◌, ◌-◌, ◌*◌, ◌/◌}
use mathlib.Core.Path.{◌≡◌, ◌∙◌, sym, ap}
use lib.ListN.{length}
use native.Mathlib.Omega.{arith}
use Rattle.bits.specs.Bits.{value}
use Rattle.bits.proofs.Words.{none_past_end, words_joined}
use Rattle.bits.proofs.last_word.Goals as goal

pub returns-then-left-lt4 : goal.returns-then-left-lt4
returns-then-left-lt4 c =
    let a = c.args in
    let s = a.s.now in
    let e : a.i + (length s - a.i) / 4 * 4 ≡ a.i = omega arith in
    rw (none_past_end s (8 * a.i) (8 * a.i + 64) (omega arith)) (rw e at c.last_bytes-high.ensures.0)

pub returns-else-left-lt4 : goal.returns-else-left-lt4
returns-else-left-lt4 c =
    let a = c.args in
    let s = a.s.now in
    let e : a.i + (length s - a.i) / 4 * 4 ≡ a.i + 4 = omega arith in
    let high = rw e at c.last_bytes-high.ensures.0 in
    let low = c.word32 in
    words_joined s (λ j. (c.type_inv.s j).fits) a.i low.result c.last_bytes-high.result low.ensures.1 (omega arith) low.ensures.0
    (high ∙ ap value (sym (none_past_end s (8 * (a.i + 4)) (8 * (a.i + 4) + 32) (omega arith))))
