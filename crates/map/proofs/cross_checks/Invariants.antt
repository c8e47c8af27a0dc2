-- From the last zone down, the sum so far is that of the blocks from zone z on.
use mathlib.Core.Path.{◌≡◌}
use Rattle.model.specs.Check.{cross_sum}
use Rattle.model.proofs.ByPlace.{rest_from}
use Rattle.map.proofs.cross_checks.Given as goal

abbrev pub invariant-loop-z : goal.invariant-loop-z
invariant-loop-z l = l.sum ≡ cross_sum (rest_from l.map l.g.zones l.g.sector l.z)
