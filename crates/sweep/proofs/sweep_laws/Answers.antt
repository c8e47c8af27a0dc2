-- The laws of `Laws`.
use Rattle.sweep.proofs.Laws.{sweep_laws}
use Rattle.sweep.proofs.sweep_laws.Goals as goal

pub returns : goal.returns
returns c = sweep_laws
