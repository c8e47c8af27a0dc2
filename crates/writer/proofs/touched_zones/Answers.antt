-- As many parts have pairs as zones are touched (`PartPairs`).
use mathlib.Core.Path.{refl, ap, ◌∙◌}
use mathlib.Core.Logic.{inl}
use native.Mathlib.Omega.{arith}
use lib.ListN.{length}
use borrow.Author.Tests.{tests}
use Rattle.std.specs.List.{filter}
use Rattle.std.proofs.Common.{rules}
use Rattle.std.proofs.lemmas.Iterator.Consumers.{YieldsList-from_first, YieldsList-from_filter, count_from_yields_List}
use Rattle.writer.specs.PartsLeft.{parts_left}
use Rattle.writer.proofs.PartPairs.{some_in, all_parts_touched, length_parts}
use Rattle.writer.proofs.touched_zones.Goals as goal

pub count-requires-clause-fits : goal.count-requires-clause-fits
count-requires-clause-fits c =
    let a = c.args in
    inl (omega (arith, ap length (ap parts_left c.filter.ensures.source ∙ c.parts.ensures), length_parts a.g a.list.now, c.requires.0.zones_high))

pub returns : goal.returns
returns c =
    let a = c.args in
    count_from_yields_List c.filter.result _ c.count.ensures.ran
    (YieldsList-from_filter _ some_in (YieldsList-from_first (λ x. x.now) parts_left _ refl) c.filter.ensures.closure (λ x b q k. search (rules, tests)))
    ∙ ap (λ ps. length (filter some_in ps)) (ap parts_left c.filter.ensures.source ∙ c.parts.ensures) ∙ all_parts_touched a.g a.list.now
