-- The check's refusal, or the accepted map's answer.
use Rattle.listing.proofs.Answers.{accepted_by, refused_by_check}
use Rattle.listing.proofs.list.Goals as goal

pub returns-in_err-g : goal.returns-in_err-g
returns-in_err-g c =
    let a = c.args in
    refused_by_check a.map.now a.pairs.now _ c.check.ensures.answer c.in_err-g.was c.from_residual.ensures

pub list_object-requires : goal.list_object-requires
list_object-requires c = accepted_by c.check.ensures.answer c.in_ok-g.was
