-- The plan's refusal, 1 where the buffer's length is wrong, or the map drawn (`MapFormatted`).
use Rattle.format.proofs.MapFormatted.{format_refused, disc_blank, disc_accepted, wrong_length, formatted}
use Rattle.format.proofs.format.Goals as goal

pub returns-in_err-disc : goal.returns-in_err-disc
returns-in_err-disc c =
    let a = c.args in
    format_refused a.log2secsize a.capacity a.idlen c.plan.ensures c.in_err-disc.was a.map.now c.from_residual.ensures

pub map_length-requires : goal.map_length-requires
map_length-requires c = let a = c.args in disc_accepted a.log2secsize a.capacity a.idlen c.plan.ensures c.in_ok-disc.was

pub returns-then-map-map_length : goal.returns-then-map-map_length
returns-then-map-map_length c =
    let a = c.args in
    wrong_length a.log2secsize a.capacity a.idlen c.plan.ensures c.in_ok-disc.was a.map.now c.map_length.ensures.0 c.if-map-map_length.true c.into.ensures

pub draw_map-requires : goal.draw_map-requires
draw_map-requires c =
    let a = c.args in
    (disc_blank a.log2secsize a.capacity a.idlen c.plan.ensures c.in_ok-disc.was, cc)

pub returns : goal.returns
returns c =
    let a = c.args in
    formatted a.log2secsize a.capacity a.idlen c.plan.ensures c.in_ok-disc.was a.map.now c.map_length.ensures.0 c.if-map-map_length.false c.draw_map.ensures
