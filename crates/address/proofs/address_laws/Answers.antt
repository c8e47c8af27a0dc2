-- The laws of `Laws`.
use Rattle.address.proofs.Laws.{address_laws}
use Rattle.address.proofs.address_laws.Goals as goal

pub returns : goal.returns
returns c = address_laws
