-- The check's refusal, or the accepted map's answer.
use mathlib.Core.Path.{sym, ◌∙◌}
use Rattle.map.proofs.Accepts.{accepts}
use Rattle.claim.proofs.Answers.{check_refuses}
use Rattle.claim.proofs.claim.Goals as goal

pub returns-in_err-g : goal.returns-in_err-g
returns-in_err-g c =
    check_refuses c.args.map.now c.args.size c.args.parent c.args.list.now (sym c.check.ensures.answer ∙ c.in_err-g.was) c.from_residual.ensures

pub claim_checked-requires : goal.claim_checked-requires
claim_checked-requires c = accepts c.args.map.now c.in_ok-g.g (sym c.check.ensures.answer ∙ c.in_ok-g.was)
