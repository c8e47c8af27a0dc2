-- From the last whole word down: k has the column sums of the words passed.
use mathlib.Core.Path.{◌∙◌}
use native.Mathlib.Omega.{arith}
use borrow.Author.Rules.{rules}
use lib.ListN.{drop}
use Rattle.std.specs.Slice.Iter.{chunks_exact_rest}
use Rattle.std.specs.Iterator.Adapters.{rev_source}
use Rattle.checks.proofs.Sums.{summed_start, summed_turn, column_end, column_short}
use Rattle.checks.proofs.column_check.Goals as goal

pub returns-in_default : goal.returns-in_default
returns-in_default c = column_short c.args.block.now (search rules)

pub loop-word-init : goal.loop-word-init
loop-word-init c =
    let first = c.into_iter-word-iterator.result in
    record {
      size = search rules;
      summed = summed_start (drop 4 c.args.block.now) (chunks_exact_rest (rev_source first)) c.default-k.result (search rules) (search rules);
    }

pub loop-word-preserved : goal.loop-word-preserved
loop-word-preserved c =
    let step = c.in-Some-word.ensures.steps in
    let before = chunks_exact_rest (rev_source c.loop-word.word-iterator) in
    let after = chunks_exact_rest (rev_source c.next.new.self) in
    record {
      size = search rules;
      summed =
          summed_turn (drop 4 c.args.block.now) before c.in-Some-word.word.now step.2.0 after c.loop-word.k c.add-k.result
          (search rules) (search rules) (search rules) (search rules) c.loop-word.invariant.summed step.2.1 (search rules) (search rules) c.add-k.ensures;
    }

pub returns : goal.returns
returns c =
    c.fold.ensures
    ∙ column_end c.args.block.now c.in-Some.head.now (chunks_exact_rest (rev_source c.loop-word.word-iterator)) c.loop-word.k c.add.result (search rules) (omega (arith, c.in-None.ensures.steps)) c.loop-word.invariant.summed
    (search rules) c.add.ensures
