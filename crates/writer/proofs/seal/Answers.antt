-- The header stored byte by byte is the sealed one (`Sealed`).
use mathlib.Core.Path.{◌∙◌}
use Rattle.writer.proofs.Sealed.{seal_is}
use Rattle.writer.proofs.seal.Goals as goal

pub returns : goal.returns
returns c =
    let a = c.args in
    seal_is a.block.now c.copy_from_slice.new.self a.change a.first.0 c.saturating_sub.result c.zone_check.result c.requires.0 c.requires.1 c.saturating_sub.ensures (c.copy_from_slice.ensures.after ∙ c.to_le_bytes.ensures) c.zone_check.ensures
