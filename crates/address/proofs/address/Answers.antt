-- The check's refusal, or the answer on an accepted map.
use Rattle.listing.proofs.Answers.{accepted_by}
use Rattle.address.proofs.AddressAnswers.{check_refuses}
use Rattle.address.proofs.address.Goals as goal

pub returns-in_err-g : goal.returns-in_err-g
returns-in_err-g c =
    let a = c.args in
    check_refuses a.map.now a.n a.position c.check.ensures.answer c.in_err-g.was c.from_residual.ensures

pub address_in-requires : goal.address_in-requires
address_in-requires c = accepted_by c.check.ensures.answer c.in_ok-g.was
