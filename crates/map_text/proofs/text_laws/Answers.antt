-- The laws of `Laws`.
use Rattle.map_text.proofs.Laws.{text_laws}
use Rattle.map_text.proofs.text_laws.Goals as goal

pub returns : goal.returns
returns c = text_laws
