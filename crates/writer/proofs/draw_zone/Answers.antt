-- The pieces drawn from the zone's first bit to its end, and sealed (`WholeZone`).
use mathlib.Core.Path.{◌∙◌}
use borrow.Author.Rules.{rules}
use Rattle.bits.proofs.Bytes.{all_bytes}
use Rattle.writer.proofs.WholeZone.{zone_written}
use Rattle.writer.proofs.draw_zone.Goals as goal

pub returns : goal.returns
returns c =
    let first = c.draw_pieces-first in
    c.seal.ensures ∙ zone_written c.requires first.new.block c.args.change first.auto.block (all_bytes c.args.block.now (λ j. search rules)) first.ensures.bytes first.ensures.bits
