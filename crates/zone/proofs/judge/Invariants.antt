-- The walk of `JudgeWalk`: at every place what was found and what is to come give the zone's verdict. The measure is what
-- is left of the zone.
use Rattle.std.proofs.Common.{◌-◌}
use Rattle.zone.proofs.JudgeWalk.{JudgedSoFar}
use Rattle.zone.proofs.judge.Given as goal

abbrev pub invariant-loop-g : goal.invariant-loop-g
invariant-loop-g l = JudgedSoFar l.block l.z l.g l.start.0 l.end.0 l.link l.at.0 l.next.0 l.owners

abbrev pub decreases-loop-g : goal.decreases-loop-g
decreases-loop-g l = l.end.0 - l.at.0
