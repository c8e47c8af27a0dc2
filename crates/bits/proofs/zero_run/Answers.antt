-- The zeros passed and those still ahead are all of them.
use Prim.Native.Nat.{ℕ, ◌-◌, ◌%◌, ◌≤◌, min}
use mathlib.Core.Path.{◌≡◌, ap, ◌∙◌}
use native.Mathlib.Omega.{arith}
use lib.Count.{count_trailing_zeros, trailing_of_zero}
use lib.Seq.{slice}
use Rattle.bits.specs.Bits.{byte_bits, zeros}
use Rattle.bits.proofs.BitRuns.{zeros_end}
use Rattle.bits.proofs.Words.{one_inside, word_found, word_passed}
use Rattle.bits.proofs.zero_run.Goals as goal
use Rattle.bits.proofs.zero_run.Goals.{else-some-via-then-some+else-zeros-end, else-some-via-else-some}

pub returns-then-zeros-end : goal.returns-then-zeros-end
returns-then-zeros-end c =
    let a = c.args in
    let s = a.s.now in
    let j = c.loop-j.j in
    let word = c.word_from-word in
    let inside = one_inside s j (λ q. c.if-some.true (word.ensures ∙ q)) in
    let same = ap (count_trailing_zeros 64) word.ensures in
    let z = word_found s j word.result (min (64 - j % 8) (a.end - j)) a.end (omega arith) (omega arith) (omega arith) word.ensures (omega (arith, inside, same)) in
    (omega arith, omega arith)

pub loop-j-preserved : goal.loop-j-preserved
loop-j-preserved c =
    let a = c.args in
    let word = c.word_from-word in
    let n = c.word_left.result in
    let passed : n ≤ count_trailing_zeros 64 word.result =
    elim c.else-some.branch [
      | else-some-via-then-some+else-zeros-end w ↦ omega arith
      | else-some-via-else-some w ↦
          rw (w.if-some.false, trailing_of_zero 64) (omega arith)
    ] in
    omega (arith, word_passed a.s.now c.loop-j.j word.result n a.end (omega arith) (omega arith) (omega arith) word.ensures passed)

pub returns : goal.returns
returns c =
    let a = c.args in
    let e : c.loop-j.j ≡ a.end = omega arith in
    omega (arith, zeros_end (byte_bits a.s.now) a.end, ap (λ (x : ℕ). zeros (slice x a.end (byte_bits a.s.now))) e)
