-- The check's refusal, 1 for another length, or the source in the place of all that the target held.
use Rattle.copies.proofs.Answers.{source_refused, other_length, copy_done}
use Rattle.copies.proofs.copy_over.Goals as goal

pub returns-in_err-check : goal.returns-in_err-check
returns-in_err-check c = source_refused c.args.source.now c.args.target.now c.check.ensures.answer c.in_err-check.was c.from_residual.ensures

pub returns-then-target-source : goal.returns-then-target-source
returns-then-target-source c =
    other_length c.args.source.now c.args.target.now c.check.ensures.answer c.in_ok-check.was c.into.ensures c.if-target-source.true

pub returns : goal.returns
returns c =
    let a = c.args in
    copy_done a.source.now a.target.now c.check.ensures.answer c.in_ok-check.was c.if-target-source.false c.copy_from_slice.ensures.after
