-- The refusals 8, 10 and 17, or the pieces of the zones from the start zone on stored, and then those of the zones before it.
use mathlib.Core.Path.{sym, ◌∙◌}
use native.Mathlib.Omega.{arith}
use Rattle.listing.proofs.Answers.{start_refused, Object, start_inside, no_object, few_for_object, late_fits, early_fits, object_listed}
use Rattle.listing.proofs.list_object.Goals as goal
use Rattle.listing.proofs.list_object.Goals.{After-count_held-n}

object : (c : After-count_held-n) → let a = c.args in Object a.map.now a.g 1 a.id c.in_ok-start.start c.count_held-n.result
object c =
    record { accepted = c.requires; some = omega arith; starts = sym c.start_zone.ensures.answer ∙ c.in_ok-start.was; count = c.count_held-n.ensures }

pub returns-in_err-start : goal.returns-in_err-start
returns-in_err-start c = start_refused c.requires c.args.id (sym c.start_zone.ensures.answer ∙ c.in_err-start.was) c.from_residual.ensures

pub returns-then-n-eq0 : goal.returns-then-n-eq0
returns-then-n-eq0 c =
    no_object (object (goal.at.returns-then-n-eq0 c).After-count_held-n) c.args.pairs.now c.if-n-eq0.true c.into.ensures

pub returns-then-pairs-n : goal.returns-then-pairs-n
returns-then-pairs-n c =
    few_for_object (object (goal.at.returns-then-pairs-n c).After-count_held-n) c.args.pairs.now c.if-n-eq0.false c.if-pairs-n.true c.into-then-pairs-n.ensures

pub write_held-at-requires : goal.write_held-at-requires
write_held-at-requires c =
    let o = object (goal.at.write_held-at-requires c).After-count_held-n in
    (c.requires, start_inside o, omega arith, late_fits o c.args.pairs.now c.if-n-eq0.false c.if-pairs-n.false)

pub write_held-requires : goal.write_held-requires
write_held-requires c =
    let o = object (goal.at.write_held-requires c).After-count_held-n in
    (c.requires, omega arith, start_inside o, early_fits o c.args.pairs.now c.if-n-eq0.false c.if-pairs-n.false c.write_held-at.new.pairs c.write_held-at.auto.pairs c.write_held-at.ensures.next)

pub returns : goal.returns
returns c =
    object_listed (object (goal.at.returns c).After-count_held-n) c.args.pairs.now c.if-n-eq0.false c.if-pairs-n.false c.write_held-at.ensures.list c.write_held-at.ensures.next c.write_held.ensures.list
