-- The choice of `Choosing`: 15, or the list of what is taken with the id for the first hole's zone.
use mathlib.Core.Path.{sym, ◌∙◌, subst}
use Prim.Native.Nat.{ℕ, ◌<◌}
use Rattle.geometry.specs.Places.{zone_of}
use Rattle.model.specs.Chain.{pair}
use Rattle.model.specs.Shown.{pieces_on}
use Rattle.claim.specs.Unused.{IdChosen}
use Rattle.claim.proofs.HoleFound.{no_hole, hole_at}
use Rattle.claim.proofs.Choosing.{none_chosen, FirstFound, start_inside, start_on_disc, several_taken, id_low, refusal_chosen, list_chosen}
use Rattle.claim.proofs.choose.Goals as goal
use Rattle.claim.proofs.choose.Goals.{In-Some, In-Some-id_for}

-- the first hole
first : (c : In-Some) → let a = c.args in FirstFound a.map.now a.g a.size a.parent c.need_of-bits.result (pair c.in-Some.first.start.0 c.in-Some.first.len)
first c =
    record { editable = c.requires.0; inside = c.requires.1; bits_are = c.need_of-bits.ensures; first = hole_at _ c.in-Some.first (sym c.first_taken.ensures ∙ c.in-Some.is) }

-- the id for its zone
id : (c : In-Some-id_for) → let a = c.args in IdChosen a.g (pieces_on a.g a.map.now) (zone_of a.g c.in-Some.first.start.0) c.in-Some-id_for.id
id c =
    let a = c.args in
    subst (λ (z : ℕ). IdChosen a.g (pieces_on a.g a.map.now) z c.in-Some-id_for.id) c.zone_of-zone.ensures c.in-Some-id_for.ensures

pub returns-in_default : goal.returns-in_default
returns-in_default c =
    none_chosen c.requires.0 c.args.size c.args.parent c.need_of-bits.ensures (no_hole _ (sym c.first_taken.ensures ∙ c.in_default.is)) c.args.list.now c.into.ensures

pub zone_of-zone-requires : goal.zone_of-zone-requires
zone_of-zone-requires c =
    let f = first (goal.at.zone_of-zone-requires c).In-Some in
    (f.editable.accepted.readable.numbers, start_on_disc f)

pub id_for-requires : goal.id_for-requires
id_for-requires c =
    let f = first (goal.at.id_for-requires c).In-Some in
    (f.editable, subst (λ (z : ℕ). z < c.args.g.zones) (sym c.zone_of-zone.ensures) (start_inside f))

pub list_taken-requires : goal.list_taken-requires
list_taken-requires c =
    let f = first (goal.at.list_taken-requires c).In-Some in
    (f.editable, id_low f (id (goal.at.list_taken-requires c).In-Some-id_for), several_taken f)

pub returns-in_err-pairs : goal.returns-in_err-pairs
returns-in_err-pairs c =
    refusal_chosen (first (goal.at.returns-in_err-pairs c).In-Some) (id (goal.at.returns-in_err-pairs c).In-Some-id_for) c.list_taken.ensures c.in_err-pairs.was c.from_residual.ensures

pub returns : goal.returns
returns c =
    list_chosen (first (goal.at.returns c).In-Some) (id (goal.at.returns c).In-Some-id_for) c.list_taken.ensures c.in_ok-pairs.was
