-- The lines that pass the test are as many as the holder has in all zones.
use mathlib.Core.Path.{refl, ap, ◌∙◌}
use native.Mathlib.Omega.{arith}
use lib.Dec.{eqb}
use borrow.Author.Tests.{tests}
use Rattle.std.proofs.Common.{rules}
use Rattle.std.proofs.lemmas.Iterator.Consumers.{YieldsList-from_first, YieldsList-from_filter, count_from_yields_List}
use mathlib.Core.Logic.{inl}
use Rattle.walk.specs.LinesLeft.{lines_left}
use Rattle.walk.proofs.LinesOf.{few_left}
use Rattle.walk.proofs.HeldLines.{counted_whole}
use Rattle.listing.proofs.count_held.Goals as goal

pub count-requires-clause-fits : goal.count-requires-clause-fits
count-requires-clause-fits c =
    inl (omega (arith, few_left c.requires.readable (omega arith) (ap lines_left c.filter.ensures.source ∙ c.lines.ensures)))

pub returns : goal.returns
returns c =
    let a = c.args in
    count_from_yields_List c.filter.result _ c.count.ensures.ran
    (YieldsList-from_filter _ (λ l. eqb l.holder a.holder) (YieldsList-from_first (λ x. x) lines_left _ refl) c.filter.ensures.closure (λ x b q k. search (rules, tests)))
    ∙ counted_whole a.holder a.g a.map.now a.g.zones (ap lines_left c.filter.ensures.source ∙ c.lines.ensures)
