-- The laws of `Laws`.
use Rattle.copies.proofs.Laws.{copy_laws}
use Rattle.copies.proofs.copy_laws.Goals as goal

pub returns : goal.returns
returns c = copy_laws
