-- The check's refusal, or the sweep of holder 0.
use lib.ListN.{length}
use borrow.Author.Rules.{rules}
use Rattle.listing.proofs.Answers.{accepted_by}
use Rattle.sweep.proofs.SweepAnswers.{as_found, check_refuses, free_swept_law}
use Rattle.sweep.proofs.sweep_free.Goals as goal

pub returns-in_err-g : goal.returns-in_err-g
returns-in_err-g c =
    let a = c.args in
    check_refuses a.map.now a.image.now a.first a.fill _ c.check.ensures.answer c.in_err-g.was c.from_residual.ensures

pub sweep_class-requires : goal.sweep_class-requires
sweep_class-requires c = accepted_by c.check.ensures.answer c.in_ok-g.was

pub returns : goal.returns
returns c =
    let a = c.args in
    as_found (free_swept_law {m = a.map.now} (accepted_by c.check.ensures.answer c.in_ok-g.was) a.first (length a.image.now)) (search rules)
