-- A chunk more, or none left.
use Prim.Native.Nat.{ℕ, ◌-◌, ◌<◌}
use mathlib.Core.Path.{◌≡◌}
use native.Mathlib.Omega.{arith}
use borrow.Author.Rules.{rules}
use lib.ListN.{drop, get_or}
use Rattle.std.specs.Slice.Iter.{chunks_rest}
use Rattle.checks.specs.Words.{words_of}
use Rattle.checks.specs.Sums.{sum_of}
use Rattle.checks.proofs.Carries.{none_carried, carry_more}
use Rattle.checks.proofs.Totals.{sum_short, chunk_turn, first_word, check_end, check_short}
use Rattle.checks.proofs.zone_check.Goals as goal

pub returns-in_default : goal.returns-in_default
returns-in_default c = check_short c.args.block.now (search rules)

pub loop-chunk-init : goal.loop-chunk-init
loop-chunk-init c =
    let e : chunks_rest c.into_iter-chunk-iterator.result ≡ drop 4 c.args.block.now = search rules in
    rw e (record { size = search rules; small = omega arith; ahead = omega arith; carried = none_carried _ _ (omega arith) })

pub loop-chunk-preserved : goal.loop-chunk-preserved
loop-chunk-preserved c =
    let step = c.in-Some-chunk.ensures.steps in
    let turn = chunk_turn (chunks_rest c.loop-chunk.chunk-iterator) c.in-Some-chunk.chunk.now (chunks_rest c.next.new.self) step.1.0 (omega arith) in
    record {
      size = omega arith;
      small = omega arith;
      ahead = omega arith;
      carried = rw c.add_carry-t.ensures (carry_more _ _ c.word_sum.result _ c.loop-chunk.invariant.carried (omega arith));
    }

pub overflow_sub-first : goal.overflow_sub-first
overflow_sub-first c = omega (arith, first_word c.args.block.now c.in-Some.head.now (λ j. (c.type_inv.block j).fits) (search rules) (search rules))

pub returns : goal.returns
returns c =
    let s = c.args.block.now in
    let head = c.in-Some.head.now in
    let byte : (j : ℕ) → get_or s j 0 < 256 = λ j. (c.type_inv.block j).fits in
    let none = sum_short (chunks_rest c.loop-chunk.chunk-iterator) (omega (arith, c.in-None.ensures.steps)) in
    let all : sum_of (words_of (drop 4 s)) - sum_of (words_of (chunks_rest c.loop-chunk.chunk-iterator)) ≡ sum_of (words_of (drop 4 s)) = omega arith in
    rw (c.fold_bytes.ensures, c.add_carry-2.ensures, c.add_carry.ensures)
    (check_end s head c.loop-chunk.t (c.word32-word.result - c.from.result) byte (search rules) (omega arith)
    (rw all at c.loop-chunk.invariant.carried) (search rules) (omega (arith, first_word s head byte (search rules) (search rules))))
