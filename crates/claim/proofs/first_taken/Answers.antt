-- The nearest hole that is long enough, or what the survey found of all.
use Rattle.claim.proofs.HoleFound.{nearest_taken, too_few_taken, longest_taken}
use Rattle.claim.proofs.first_taken.Goals as goal

pub returns-in-Some : goal.returns-in-Some
returns-in-Some c =
    let a = c.args in
    nearest_taken a.g a.map.now a.need a.parent c.nearest_hole.ensures c.in-Some.hole c.in-Some.is

pub returns-then-all-need : goal.returns-then-all-need
returns-then-all-need c =
    let a = c.args in
    too_few_taken a.g a.map.now a.need a.parent c.nearest_hole.ensures c.in_default.is c.survey-all.ensures c.if-all-need.true

pub returns : goal.returns
returns c =
    let a = c.args in
    longest_taken a.g a.map.now a.need a.parent c.nearest_hole.ensures c.in_default.is c.survey-all.ensures c.if-all-need.false
