-- The check's refusal, 17, or the pairs of holder 0 stored.
use native.Mathlib.Omega.{arith}
use Rattle.map.specs.Accepted.{AcceptedMap}
use Rattle.listing.proofs.Answers.{accepted_by, refused_by_check, few_for_free, free_fits, free_listed}
use Rattle.listing.proofs.free.Goals as goal
use Rattle.listing.proofs.free.Goals.{In_ok-g}

accepted : (c : In_ok-g) → AcceptedMap c.args.map.now c.in_ok-g.g
accepted c = accepted_by c.check.ensures.answer c.in_ok-g.was

pub returns-in_err-g : goal.returns-in_err-g
returns-in_err-g c =
    let a = c.args in
    refused_by_check a.map.now a.pairs.now _ c.check.ensures.answer c.in_err-g.was c.from_residual.ensures

pub count_held-spans-requires : goal.count_held-spans-requires
count_held-spans-requires c = accepted c

pub returns-then-pairs-spans : goal.returns-then-pairs-spans
returns-then-pairs-spans c =
    few_for_free (accepted (goal.at.returns-then-pairs-spans c).In_ok-g) c.args.pairs.now c.count_held-spans.ensures c.if-pairs-spans.true c.into.ensures

pub write_held-requires : goal.write_held-requires
write_held-requires c =
    let a = accepted (goal.at.write_held-requires c).In_ok-g in
    (a, omega arith, omega arith, free_fits a c.args.pairs.now c.count_held-spans.ensures c.if-pairs-spans.false)

pub returns : goal.returns
returns c =
    free_listed (accepted (goal.at.returns c).In_ok-g) c.args.pairs.now c.count_held-spans.ensures c.if-pairs-spans.false c.write_held.ensures.list
