-- By the test: what is taken of one hole, or of several.
use Rattle.holes.specs.Passes.{holes_on}
use Rattle.claim.proofs.TakenListed.{one_listed, several_listed}
use Rattle.claim.proofs.list_taken.Goals as goal

pub returns-then-need-first : goal.returns-then-need-first
returns-then-need-first c =
    let a = c.args in
    one_listed a.g a.id a.need a.first.start.0 (holes_on a.g a.map.now) c.if-need-first.true c.cut_of.ensures c.list_one.ensures

pub returns-else-need-first : goal.returns-else-need-first
returns-else-need-first c =
    let a = c.args in
    several_listed a.g a.id a.need a.first.start.0 (holes_on a.g a.map.now) c.if-need-first.false c.list_several.ensures
