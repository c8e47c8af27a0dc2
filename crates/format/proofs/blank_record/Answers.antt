-- The fields are the definition's.
use Rattle.format.proofs.Units.{record_is}
use Rattle.format.proofs.blank_record.Goals as goal

pub returns : goal.returns
returns c =
    let a = c.args in
    record_is a.logsector a.capacity a.idlen c.requires.0 c.requires.2 c.requires.3 c.power.ensures.0 c.div_ceil.ensures c.div_ceil-2.ensures
