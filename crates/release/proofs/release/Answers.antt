-- The refusals of the check, 8, 9 and those of the listing, or the object leaves the zones in which the listed pairs lie: these are its own.
use mathlib.Core.Path.{◌≡◌, sym, ◌∙◌}
use mathlib.Core.Bool.{true}
use native.Mathlib.Omega.{arith}
use lib.Seq.{length-take-le}
use borrow.Author.Rules.{rules}
use Rattle.bits.proofs.Bytes.{all_bytes}
use Rattle.map.specs.Accepted.{AcceptedMap}
use Rattle.listing.proofs.Answers.{accepted_by}
use Rattle.edits.specs.Judge.{editable}
use Rattle.edits.proofs.EditableMap.{map_editable}
use Rattle.release.proofs.Answers.{check_refuses, not_named, touching_refuses, Listing, listing_refuses, pairs_inside, edit_asks, listing_releases}
use Rattle.release.proofs.release.Goals as goal
use Rattle.release.proofs.release.Goals.{In_ok-g, Else-not-is_id, After-list_object}

accepted : (c : In_ok-g) → AcceptedMap c.args.map.now c.in_ok-g.g
accepted c = accepted_by c.check.ensures.answer c.in_ok-g.was

named : (c : Else-not-is_id) → editable c.in_ok-g.g c.args.id ≡ true
named c = sym c.is_id.ensures ∙ c.if-not-is_id.false

-- no free fragments touch
listed : (c : After-list_object) → let a = c.args in Listing a.map.now c.in_ok-g.g a.id a.pairs.now c.list_object.new.pairs c.list_object.result
listed c = record {
  sound = map_editable (accepted_by c.check.ensures.answer c.in_ok-g.was) (all_bytes c.args.map.now (λ j. grind arith)) (sym c.first_touching.ensures ∙ c.in_default.is);
  named = sym c.is_id.ensures ∙ c.if-not-is_id.false;
  lists = c.list_object.ensures;
}

pub returns-in_err-g : goal.returns-in_err-g
returns-in_err-g c =
    let a = c.args in
    check_refuses a.map.now a.id a.pairs.now c.check.ensures.answer c.in_err-g.was c.from_residual.ensures

pub is_id-requires : goal.is_id-requires
is_id-requires c = (accepted c).readable.numbers

pub returns-then-not-is_id : goal.returns-then-not-is_id
returns-then-not-is_id c =
    let a = c.args in
    not_named (accepted (goal.at.returns-then-not-is_id c).In_ok-g) a.id a.pairs.now c.into.ensures (sym c.is_id.ensures ∙ c.if-not-is_id.true)

pub first_touching-requires : goal.first_touching-requires
first_touching-requires c = accepted (goal.at.first_touching-requires c).In_ok-g

pub returns-in-Some : goal.returns-in-Some
returns-in-Some c =
    let a = c.args in
    let d = goal.at.returns-in-Some c in
    touching_refuses (accepted d.In_ok-g) a.id a.pairs.now (named d.Else-not-is_id) c.in-Some.zone (sym c.first_touching.ensures ∙ c.in-Some.is)

pub list_object-requires : goal.list_object-requires
list_object-requires c = accepted (goal.at.list_object-requires c).In_ok-g

pub returns-in_err-n : goal.returns-in_err-n
returns-in_err-n c =
    listing_refuses (listed (goal.at.returns-in_err-n c).After-list_object) c.in_err-n.was c.from_residual-in_err-n.ensures

pub overflow_mul-n : goal.overflow_mul-n
overflow_mul-n c = omega (arith, pairs_inside (listed (goal.at.overflow_mul-n c).After-list_object) c.in_ok-n.was)

pub slice_bounds-edit_map-end : goal.slice_bounds-edit_map-end
slice_bounds-edit_map-end c = pairs_inside (listed (goal.at.slice_bounds-edit_map-end c).After-list_object) c.in_ok-n.was

pub edit_map-requires : goal.edit_map-requires
edit_map-requires c =
    (edit_asks (listed (goal.at.edit_map-requires c).After-list_object) c.in_ok-n.was, search rules)

pub returns : goal.returns
returns c =
    listing_releases (listed (goal.at.returns c).After-list_object) c.in_ok-n.was c.edit_map.new.map c.edit_map.ensures

pub slice_bounds-edit_map-end-2 : goal.slice_bounds-edit_map-end-2
slice_bounds-edit_map-end-2 c =
    sym (length-take-le _ c.list_object.new.pairs (pairs_inside (listed (goal.at.slice_bounds-edit_map-end-2 c).After-list_object) c.in_ok-n.was))
