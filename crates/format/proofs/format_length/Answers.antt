-- The plan's refusal, or the length of the map (`MapFormatted`).
use Rattle.format.proofs.MapFormatted.{length_refused, disc_accepted, length_is}
use Rattle.format.proofs.format_length.Goals as goal

pub returns-in_err-disc : goal.returns-in_err-disc
returns-in_err-disc c = let a = c.args in length_refused a.log2secsize a.capacity a.idlen c.plan.ensures c.in_err-disc.was c.from_residual.ensures

pub map_length-requires : goal.map_length-requires
map_length-requires c = let a = c.args in disc_accepted a.log2secsize a.capacity a.idlen c.plan.ensures c.in_ok-disc.was

pub returns : goal.returns
returns c = let a = c.args in length_is a.log2secsize a.capacity a.idlen c.plan.ensures c.in_ok-disc.was c.map_length.ensures.0
