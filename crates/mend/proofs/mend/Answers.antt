-- The check's refusal, or every zone mended.
use Rattle.mend.proofs.Answers.{mendable_by, mend_refused, mend_done}
use Rattle.mend.proofs.mend.Goals as goal

pub returns-in-Err : goal.returns-in-Err
returns-in-Err c = mend_refused c.args.map.now c.check_zones.ensures c.in-Err.is

pub mend_zones-requires : goal.mend_zones-requires
mend_zones-requires c = mendable_by c.args.map.now c.check_zones.ensures c.in-Ok.is

pub returns-in-Ok : goal.returns-in-Ok
returns-in-Ok c = mend_done c.args.map.now c.check_zones.ensures c.in-Ok.is c.mend_zones.ensures
