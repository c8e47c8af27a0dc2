-- From zone z on the first zone check that differs is that of the whole map.
use mathlib.Core.Path.{◌≡◌}
use Rattle.model.specs.Blocks.{blocks}
use Rattle.model.specs.Check.{differing}
use Rattle.model.proofs.ByPlace.{rest_from}
use Rattle.map.proofs.first_differing.Given as goal

abbrev pub invariant-loop-z : goal.invariant-loop-z
invariant-loop-z l = differing l.z (rest_from l.map l.g.zones l.g.sector l.z) ≡ differing 0 (blocks l.g.sector l.g.zones l.map)
