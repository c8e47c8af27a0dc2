-- The first row whose limit holds the capacity gives its unit.
use borrow.Author.Rules.{rules}
use borrow.Author.Tests.{tests}
use Rattle.std.proofs.lemmas.Iterator.{YieldsList-from_slice}
use Rattle.std.proofs.lemmas.Iterator.Search.{find_from_yields_List}
use Rattle.format.proofs.Units.{unit_table, holds, unit_found}
use Rattle.format.proofs.unit_for.Goals as goal

pub returns : goal.returns
returns c =
    unit_found c.args.capacity c.find.result
    (find_from_yields_List (holds c.args.capacity) _ _ c.find.result c.find.ensures.ran (YieldsList-from_slice unit_table c.iter.ensures.rest) (λ x b q k. search (rules, tests)))
    (search rules)
