-- The five pieces, one after another.
use Rattle.map_text.specs.Text.{pair_text}
use Rattle.map_text.proofs.Added.{adds_then}
use Rattle.map_text.proofs.Text.push_pair.Goals as goal

pub returns : goal.returns
unfolding pair_text
returns c =
    adds_then c.push.ensures (adds_then c.push_number.ensures (adds_then c.push-2.ensures (adds_then c.push_number-2.ensures c.push-3.ensures)))
