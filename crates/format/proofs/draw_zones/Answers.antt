-- The zones below z are drawn (`ZonesDrawn`).
use Rattle.format.proofs.ZonesDrawn.{numbers, next_blank, drawing_turn, drawing_ends}
use Rattle.format.proofs.draw_zones.Goals as goal

pub object_two-two-requires : goal.object_two-two-requires
object_two-two-requires c = numbers c.requires

pub object_one-requires : goal.object_one-requires
object_one-requires c = (numbers c.requires, c.object_two-two.ensures)

pub draw_blank_zone-requires : goal.draw_blank_zone-requires
draw_blank_zone-requires c = (next_blank c.requires c.loop-z.invariant c.loop-z-test.true, cc)

pub loop-z-preserved : goal.loop-z-preserved
loop-z-preserved c = drawing_turn c.requires c.loop-z.invariant c.loop-z-test.true c.draw_blank_zone.ensures

pub returns : goal.returns
returns c = drawing_ends c.requires c.loop-z.invariant c.loop-z-test.false
