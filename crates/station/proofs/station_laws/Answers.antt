-- The laws of `Laws`.
use Rattle.station.proofs.CutOff.{yields, edits_yield}
use Rattle.station.proofs.BlockEdge.{half_edit_accepted, even_written}
use Rattle.station.proofs.station_laws.Goals as goal

pub returns : goal.returns
returns c = record { cut_off = yields; edits_cut_off = edits_yield; at_block_edge = half_edit_accepted; even_written = even_written }
