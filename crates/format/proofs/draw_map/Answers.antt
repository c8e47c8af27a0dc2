-- The record is written, and the zones are drawn (`MapFormatted`).
use Rattle.format.proofs.MapFormatted.{record_asks, zones_ask, map_drawn}
use Rattle.format.proofs.draw_map.Goals as goal

pub write_record-requires : goal.write_record-requires
write_record-requires c = record_asks c.requires.0 c.args.map.now c.requires.1

pub draw_zones-requires : goal.draw_zones-requires
draw_zones-requires c = zones_ask c.requires.0 c.args.map.now c.requires.1 c.write_record.ensures

pub returns : goal.returns
returns c = map_drawn c.requires.0 c.args.map.now c.requires.1 c.write_record.ensures c.draw_zones.ensures
