-- The numbers of an accepted record fit 32 bits.
use mathlib.Core.Path.{sym, ◌∙◌}
use borrow.Author.Rules.{rules}
use Rattle.geometry.specs.Accepted.{AcceptedGeometry}
use Rattle.map.proofs.Accepts.{accepts}
use Rattle.shoalswift.proofs.shoalswift_geometry.Goals as goal
use Rattle.shoalswift.proofs.shoalswift_geometry.Goals.{In-Ok}

accepted : (d : In-Ok) → AcceptedGeometry d.in-Ok.g
accepted d = (accepts d.args.map.now d.in-Ok.g (sym d.check.ensures.answer ∙ d.in-Ok.is)).readable.numbers

pub overflow_cast-sector : goal.overflow_cast-sector
overflow_cast-sector c = let h = accepted (goal.at.overflow_cast-sector c).In-Ok in search rules

pub overflow_cast-unit : goal.overflow_cast-unit
overflow_cast-unit c = let h = accepted (goal.at.overflow_cast-unit c).In-Ok in search rules

pub overflow_cast-zones : goal.overflow_cast-zones
overflow_cast-zones c = let h = accepted (goal.at.overflow_cast-zones c).In-Ok in search rules

pub overflow_cast-ids : goal.overflow_cast-ids
overflow_cast-ids c = let h = accepted (goal.at.overflow_cast-ids c).In-Ok in search rules
