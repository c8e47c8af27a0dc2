-- The answers of `Answers`: 9, 12, or what a map gives that edits work on.
use Rattle.claim.proofs.Answers.{touching_refuses, unfit_refused}
use Rattle.claim.proofs.claim_checked.Goals as goal

pub returns-in_err-editable : goal.returns-in_err-editable
returns-in_err-editable c = touching_refuses c.requires c.args.size c.args.parent c.args.list.now c.in_err-editable.ensures c.from_residual.ensures

pub returns-then-not-parent-g : goal.returns-then-not-parent-g
returns-then-not-parent-g c = unfit_refused c.in_ok-editable.ensures c.args.size c.args.parent c.args.list.now c.into.ensures c.if-not-parent-g.either
