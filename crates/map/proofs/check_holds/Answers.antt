-- The block's own check byte against what the words give.
use mathlib.Core.Path.{ap}
use lib.Dec.{eqb}
use lib.ListN.{get_or}
use Rattle.map.proofs.check_holds.Goals as goal

pub returns : goal.returns
returns c = ap (eqb (get_or c.args.block.now 0 0)) c.zone_check.ensures
