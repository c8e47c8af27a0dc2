-- The refusals of the check, 8, 9, 11, 12 and 13, or the map edited: what was judged is what the edit asks.
use mathlib.Core.Path.{sym, ◌∙◌}
use native.Mathlib.Omega.{arith}
use borrow.Author.Rules.{rules}
use Rattle.bits.proofs.Bytes.{all_bytes}
use Rattle.map.specs.Accepted.{AcceptedMap}
use Rattle.listing.proofs.Answers.{accepted_by}
use Rattle.edits.proofs.EditableMap.{map_editable}
use Rattle.place.specs.Asked.{PlaceAsks}
use Rattle.place.proofs.Answers.{check_refuses, start_refuses, touching_refuses, Counted, object_refuses, list_refuses, place_asks, no_room, edit_asks, done_places}
use Rattle.place.proofs.place.Goals as goal
use Rattle.place.proofs.place.Goals.{In_ok-g, After-count_held, Else-not-list_fits}

accepted : (c : In_ok-g) → AcceptedMap c.args.map.now c.in_ok-g.g
accepted c = accepted_by c.check.ensures.answer c.in_ok-g.was

-- no free fragments touch
counted : (c : After-count_held) → Counted c.args.map.now c.in_ok-g.g c.args.id c.in_ok-start.start c.count_held.result
counted c = record {
  sound = map_editable (accepted_by c.check.ensures.answer c.in_ok-g.was) (all_bytes c.args.map.now (λ j. grind arith)) (sym c.first_touching.ensures ∙ c.in_default.is);
  starts = sym c.start_zone.ensures.answer ∙ c.in_ok-start.was;
  count = c.count_held.ensures;
}

asks : (c : Else-not-list_fits) → Counted c.args.map.now c.in_ok-g.g c.args.id c.in_ok-start.start c.count_held.result → PlaceAsks c.args.map.now c.in_ok-g.g c.args.id c.args.list.now
asks c k = place_asks k c.args.list.now c.if-count_held-ne0.false c.list_fits.ensures c.if-not-list_fits.false

pub returns-in_err-g : goal.returns-in_err-g
returns-in_err-g c =
    let a = c.args in
    check_refuses a.map.now a.id a.list.now c.check.ensures.answer c.in_err-g.was c.from_residual.ensures

pub returns-in_err-start : goal.returns-in_err-start
returns-in_err-start c =
    let a = c.args in
    start_refuses (accepted (goal.at.returns-in_err-start c).In_ok-g) a.id a.list.now (sym c.start_zone.ensures.answer ∙ c.in_err-start.was) c.from_residual-in_err-start.ensures

pub first_touching-requires : goal.first_touching-requires
first_touching-requires c = accepted (goal.at.first_touching-requires c).In_ok-g

pub returns-in-Some : goal.returns-in-Some
returns-in-Some c =
    let a = c.args in
    touching_refuses (accepted (goal.at.returns-in-Some c).In_ok-g) a.id a.list.now (sym c.start_zone.ensures.answer ∙ c.in_ok-start.was) c.in-Some.zone (sym c.first_touching.ensures ∙ c.in-Some.is)

pub count_held-requires : goal.count_held-requires
count_held-requires c = accepted (goal.at.count_held-requires c).In_ok-g

pub returns-then-count_held-ne0 : goal.returns-then-count_held-ne0
returns-then-count_held-ne0 c =
    object_refuses (counted (goal.at.returns-then-count_held-ne0 c).After-count_held) c.args.list.now c.if-count_held-ne0.true c.into.ensures

pub list_fits-requires : goal.list_fits-requires
list_fits-requires c = (accepted (goal.at.list_fits-requires c).In_ok-g).readable.numbers

pub returns-then-not-list_fits : goal.returns-then-not-list_fits
returns-then-not-list_fits c =
    list_refuses (counted (goal.at.returns-then-not-list_fits c).After-count_held) c.args.list.now c.if-count_held-ne0.false c.list_fits.ensures c.if-not-list_fits.true c.into-then-not-list_fits.ensures

pub zones_fit-requires : goal.zones_fit-requires
zones_fit-requires c =
    let d = goal.at.zones_fit-requires c in
    (asks d.Else-not-list_fits (counted d.After-count_held), search rules)

pub returns-then-not-zones_fit : goal.returns-then-not-zones_fit
returns-then-not-zones_fit c =
    let d = goal.at.returns-then-not-zones_fit c in
    no_room (asks d.Else-not-list_fits (counted d.After-count_held)) c.zones_fit.ensures c.if-not-zones_fit.true c.into-then-not-zones_fit.ensures

pub edit_map-requires : goal.edit_map-requires
edit_map-requires c =
    let d = goal.at.edit_map-requires c in
    (edit_asks (asks d.Else-not-list_fits (counted d.After-count_held)) c.zones_fit.ensures c.if-not-zones_fit.false, omega (arith, c.zones_fit.auto.buffer))

pub returns : goal.returns
returns c =
    let d = goal.at.returns c in
    done_places (asks d.Else-not-list_fits (counted d.After-count_held)) c.zones_fit.ensures c.if-not-zones_fit.false c.edit_map.new.map c.edit_map.ensures
