-- The answers of `AddressAnswers`: 8, 10, 16, and the byte sought.
use mathlib.Core.Path.{sym, ◌∙◌}
use Prim.Native.Nat.{◌/◌}
use native.Mathlib.Omega.{arith}
use Rattle.listing.proofs.Answers.{Object, start_inside}
use Rattle.address.proofs.AddressAnswers.{edition_refused, number_high, start_refused, no_object, past_object, object_sought}
use Rattle.address.proofs.address_in.Goals as goal
use Rattle.address.proofs.address_in.Goals.{After-count_held, then-g-eq-PLUS-via-then-g-eq-PLUS, then-g-eq-PLUS-via-else-g-eq-PLUS+then-n-ge-NUMBERS}

pub returns-then-g-eq-PLUS : goal.returns-then-g-eq-PLUS
returns-then-g-eq-PLUS c =
    let a = c.args in
    elim c.then-g-eq-PLUS.branch [
      | then-g-eq-PLUS-via-then-g-eq-PLUS w ↦ edition_refused c.requires a.n a.position w.if-g-eq-PLUS.true c.into.ensures
      | then-g-eq-PLUS-via-else-g-eq-PLUS+then-n-ge-NUMBERS w ↦ number_high c.requires a.n a.position w.if-g-eq-PLUS.false w.if-n-ge-NUMBERS.true c.into.ensures
    ]

object : (c : After-count_held) → let a = c.args in Object a.map.now a.g 2 (a.n / 256) c.in_ok-start.start c.count_held.result
object c =
    record { accepted = c.requires; some = omega arith; starts = sym c.start_zone.ensures.answer ∙ c.in_ok-start.was; count = c.count_held.ensures }

pub returns-in_err-start : goal.returns-in_err-start
returns-in_err-start c =
    let a = c.args in
    start_refused c.requires a.n a.position c.if-g-eq-PLUS.false c.if-n-ge-NUMBERS.false (sym c.start_zone.ensures.answer ∙ c.in_err-start.was) c.from_residual.ensures

pub returns-then-count_held-eq0 : goal.returns-then-count_held-eq0
returns-then-count_held-eq0 c =
    let a = c.args in
    no_object a.n a.position (object (goal.at.returns-then-count_held-eq0 c).After-count_held) c.if-g-eq-PLUS.false c.if-n-ge-NUMBERS.false c.if-count_held-eq0.true c.into-then-count_held-eq0.ensures

pub returns-then-position-ge-LONGEST : goal.returns-then-position-ge-LONGEST
returns-then-position-ge-LONGEST c =
    let a = c.args in
    past_object a.n a.position (object (goal.at.returns-then-position-ge-LONGEST c).After-count_held) c.if-g-eq-PLUS.false c.if-n-ge-NUMBERS.false c.if-count_held-eq0.false
    c.if-position-ge-LONGEST.true c.into-then-position-ge-LONGEST.ensures

pub locate-requires : goal.locate-requires
locate-requires c = (c.requires, start_inside (object (goal.at.locate-requires c).After-count_held))

pub returns : goal.returns
returns c =
    let a = c.args in
    object_sought a.n a.position (object (goal.at.returns c).After-count_held) c.if-g-eq-PLUS.false c.if-n-ge-NUMBERS.false c.if-count_held-eq0.false
    c.start_offset.ensures.0 c.locate.ensures
