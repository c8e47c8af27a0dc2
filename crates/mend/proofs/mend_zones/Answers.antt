-- The zones below z are mended (`ZonesInTurn`).
use mathlib.Core.Path.{◌∙◌}
use native.Mathlib.Omega.{arith}
use Rattle.edits.proofs.WrittenBelow.{written_starts}
use Rattle.mended.specs.Mended.{mended}
use Rattle.mend.proofs.ZonesInTurn.{next_mend, mending_turn, mending_ends}
use borrow.Author.Rules.{rules}
use Rattle.mend.proofs.mend_zones.Goals as goal

pub loop-z-init : goal.loop-z-init
loop-z-init c =
    let a = c.args in
    (search rules, written_starts a.g.sector a.g.zones (mended a.map.now) a.map.now)

pub mend_zone-requires : goal.mend_zone-requires
mend_zone-requires c =
    next_mend c.requires c.cross_lack-lack.ensures.bytes c.loop-z.invariant.1 c.loop-z-test.true (omega (arith, c.loop-z.invariant.0))

pub loop-z-preserved : goal.loop-z-preserved
loop-z-preserved c = (
  c.mend_zone.auto.pieces ∙ c.loop-z.invariant.0,
  mending_turn c.requires c.cross_lack-lack.ensures.bytes c.loop-z.invariant.1 c.loop-z-test.true c.cross_lack-lack.ensures.lack c.change_of.ensures c.mend_zone.ensures,
)

pub returns : goal.returns
returns c =
    mending_ends c.requires c.cross_lack-lack.ensures.bytes c.loop-z.invariant.1 (omega arith)
