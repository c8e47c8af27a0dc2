-- The pairs that pass the test are those that lead (`PairLists`).
use mathlib.Core.Path.{◌≡◌, ap, ◌∙◌}
use mathlib.Core.Logic.{inl}
use Prim.Native.Nat.{◌*◌}
use native.Mathlib.Omega.{arith}
use lib.ListN.{length}
use borrow.Author.Tests.{tests}
use Rattle.std.proofs.Common.{rules}
use Rattle.std.proofs.lemmas.Iterator.Consumers.{YieldsList-from_first, count_from_yields_List}
use Rattle.std.proofs.lemmas.Iterator.Search.{YieldsList-from_take_while}
use Rattle.edits.specs.Judge.{pairs_from}
use Rattle.writer.specs.Parts.{leading}
use Rattle.writer.specs.Listed.{as_pair}
use Rattle.writer.proofs.PairLists.{between, length_pairs, length_leading, leading_fits}
use Rattle.writer.proofs.leading.Goals as goal

pub count-requires-clause-fits : goal.count-requires-clause-fits
count-requires-clause-fits c =
    let e = c.take_while.ensures.source in
    inl (rw (e, c.pairs.ensures) (omega (arith, length_pairs c.args.list.now)))

count : (c : goal.After-count) → c.count.result ≡ length (leading c.args.low.0 c.args.high.0 (pairs_from c.args.list.now))
count c =
    let a = c.args in
    let test = between a.low.0 a.high.0 in
    count_from_yields_List c.take_while.result _ c.count.ensures.ran
    (YieldsList-from_take_while _ test (YieldsList-from_first as_pair (λ s. pairs_from s.0.now) (pairs_from a.list.now) (ap (λ s. pairs_from s.0.now) c.take_while.ensures.source ∙ ap pairs_from c.pairs.ensures)) c.take_while.ensures.closure c.take_while.ensures.done (λ x b q k. search (rules, tests)))
    ∙ length_leading a.low.0 a.high.0 (pairs_from a.list.now)

pub overflow_mul-result : goal.overflow_mul-result
overflow_mul-result c =
    let a = c.args in
    omega (arith, count c, leading_fits a.low.0 a.high.0 a.list.now)

pub returns : goal.returns
returns c =
    let a = c.args in
    let e = count c in (ap (λ n. 2 * n) e, omega (arith, e, leading_fits a.low.0 a.high.0 a.list.now))
