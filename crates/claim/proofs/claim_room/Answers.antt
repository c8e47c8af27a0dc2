-- The answers of `Answers`: a refusal, or the list that the place of it gives.
use native.Mathlib.Omega.{arith}
use Rattle.claim.proofs.Answers.{ClaimChosen, refusal_claims, pairs_in_law, list_fits, list_claims}
use Rattle.claim.proofs.claim_room.Goals as goal
use Rattle.claim.proofs.claim_room.Goals.{After-choose}

chosen : (c : After-choose) → let a = c.args in
    ClaimChosen a.map.now a.g a.size a.parent a.list.now c.choose.result c.choose.new.list
chosen c =
    record { editable = c.requires.0; some = c.requires.1; inside = c.requires.2; chooses = c.choose.ensures }

pub returns-in_err-chosen : goal.returns-in_err-chosen
returns-in_err-chosen c = refusal_claims (chosen (goal.at.returns-in_err-chosen c).After-choose) c.in_err-chosen.was c.from_residual.ensures

pub overflow_mul-chosen : goal.overflow_mul-chosen
overflow_mul-chosen c = record { fits = omega (arith, pairs_in_law (chosen (goal.at.overflow_mul-chosen c).After-choose) c.in_ok-chosen.was) }

pub slice_bounds-give-end : goal.slice_bounds-give-end
slice_bounds-give-end c = omega (arith, pairs_in_law (chosen (goal.at.slice_bounds-give-end c).After-choose) c.in_ok-chosen.was)

pub give-requires : goal.give-requires
give-requires c = list_fits (chosen (goal.at.give-requires c).After-choose) c.in_ok-chosen.was

pub returns : goal.returns
returns c =
    list_claims (chosen (goal.at.returns c).After-choose) c.in_ok-chosen.was c.give.new.map c.give.ensures
