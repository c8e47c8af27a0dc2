-- The check's refusal, or the answer on an accepted map.
use Rattle.listing.proofs.Answers.{accepted_by}
use Rattle.sweep.proofs.SweepAnswers.{check_refuses}
use Rattle.sweep.proofs.sweep_object.Goals as goal

pub returns-in_err-g : goal.returns-in_err-g
returns-in_err-g c =
    let a = c.args in
    check_refuses a.map.now a.image.now a.first a.fill _ c.check.ensures.answer c.in_err-g.was c.from_residual.ensures

pub sweep_id-requires : goal.sweep_id-requires
sweep_id-requires c = accepted_by c.check.ensures.answer c.in_ok-g.was
