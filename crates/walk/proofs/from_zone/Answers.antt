-- At the first bit of a zone, where the zone's FreeLink leads, all its fragments remain.
use mathlib.Core.Path.{ap, ◌∙◌}
use Rattle.model.specs.Blocks.{link_in}
use Rattle.model.specs.Chain.{onward}
use Rattle.walk.proofs.Remains.{starts_past, starts_at}
use Rattle.walk.proofs.from_zone.Goals as goal

pub returns-then-g-z : goal.returns-then-g-z
returns-then-g-z c = starts_past c.args.z c.requires c.if-g-z.true

pub returns : goal.returns
returns c =
    starts_at c.args.z c.requires c.if-g-z.false _ _ c.zone_first.ensures.0
    (c.first_free.ensures.0 ∙ ap (λ b. onward 8 (link_in b)) c.block.ensures)
