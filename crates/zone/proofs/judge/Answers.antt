-- The walk of `JudgeWalk`: at every place what was found and what is to come give the zone's verdict.
use Rattle.std.proofs.Common.{◌+◌, ◌<◌, ◌≤◌, arith, rules}
use Rattle.zone.proofs.AllocBits.{fits_here}
use Rattle.zone.proofs.JudgeWalk.{judge_starts, judge_turn, judge_breaks}
use Rattle.zone.proofs.judge.Goals as goal
use Rattle.zone.proofs.judge.Goals.{In-Some}

-- the fragment that a turn has found fits the zone
turn_fits : (c : In-Some) → (0 < c.in-Some.f.len) × (c.loop-g.at.0 + c.in-Some.f.len ≤ c.zone_end-end.result.0)
turn_fits c = fits_here c.loop-g.invariant.block c.loop-g.at.0 (search rules) c.in-Some.ensures

pub loop-g-init : goal.loop-g-init
loop-g-init c =
    judge_starts (record { numbers = c.requires.0; sized = c.requires.2; ends = c.zone_end-end.ensures }) c.zone_first-start.ensures c.free_link-link.ensures c.first_free-next.ensures.0

pub returns-in_default : goal.returns-in_default
returns-in_default c = let j = judge_breaks c.loop-g.invariant (search rules) c.in_default.ensures in cc

pub overflow_add-to : goal.overflow_add-to
overflow_add-to c = omega (arith, turn_fits (goal.at.overflow_add-to c).In-Some)

pub entry_holds-owners-requires : goal.entry_holds-owners-requires
entry_holds-owners-requires c = omega (arith, turn_fits (goal.at.entry_holds-owners-requires c).In-Some)

pub loop-g-smaller : goal.loop-g-smaller
loop-g-smaller c = omega (arith, turn_fits (goal.at.loop-g-smaller c).In-Some)

pub loop-g-preserved : goal.loop-g-preserved
loop-g-preserved c =
    let j = judge_turn c.loop-g.invariant (search rules) c.in-Some.ensures in
    rw (c.entry_holds-owners.ensures, c.then_some-owner.ensures, c.ne.ensures, c.eq.ensures, c.next_after-next.ensures) j
