-- The zones whose parts are left fit just where all do.
use lib.ListN.{length}
use Rattle.model.specs.Shown.{pieces_on}
use Rattle.edits.specs.Edits.{give}
use Rattle.edits.specs.Judge.{pairs_from}
use Rattle.place.proofs.ZonesJudged.{JudgedTo}
use Rattle.place.proofs.zones_fit.Given as goal

abbrev pub invariant-loop-z : goal.invariant-loop-z
invariant-loop-z l = JudgedTo l.g (give l.id (pairs_from l.list) (pieces_on l.g l.map)) (length l.yielded)
