-- A word more, or fewer than four bytes left.
use mathlib.Core.Path.{◌≡◌, ap}
use native.Mathlib.Omega.{arith}
use lib.ListN.{length, length-append}
use borrow.Author.Rules.{rules}
use Rattle.std.specs.Slice.Iter.{chunks_exact_rest}
use Rattle.bits.proofs.Bytes.{all_bytes}
use Rattle.checks.proofs.Totals.{sum_short, word_turn}
use Rattle.checks.proofs.word_sum.Goals as goal

pub loop-word-init : goal.loop-word-init
loop-word-init c =
    let chunk = c.args.chunk.now in
    let e : chunks_exact_rest c.into_iter-word-iterator.result ≡ chunk = search rules in
    rw e (record { size = search rules; small = omega arith; bytes = all_bytes chunk (λ j. (c.type_inv.chunk j).fits); sum = omega arith })

pub loop-word-preserved : goal.loop-word-preserved
loop-word-preserved c =
    let step = c.in-Some.ensures.steps in
    let kept = c.loop-word.invariant in
    let word = c.in-Some.word.now in
    let rest = chunks_exact_rest c.next.new.self in
    let turn = word_turn (chunks_exact_rest c.loop-word.word-iterator) word rest kept.bytes (omega arith) step.1.0 in
    record { size = omega arith; small = omega (arith, ap length step.1.0, length-append word rest); bytes = turn.1; sum = omega arith }

pub returns : goal.returns
returns c =
    let none = sum_short (chunks_exact_rest c.loop-word.word-iterator) (omega (arith, c.in-None.ensures.steps)) in
    (omega arith, omega arith)
