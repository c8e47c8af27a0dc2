-- From zone z on the answer is that of all zones.
use mathlib.Core.Path.{◌≡◌}
use Rattle.map.proofs.ZonesJudged.{answer_from}
use Rattle.map.proofs.judge_zones.Given as goal

abbrev pub invariant-loop-z : goal.invariant-loop-z
invariant-loop-z l = answer_from l.map l.g l.z ≡ answer_from l.map l.g 0
