-- The word, then the two numbers.
use Rattle.map_text.specs.Text.{refusal_text}
use Rattle.map_text.proofs.Added.{adds_then}
use Rattle.map_text.proofs.Text.push_refusal.Goals as goal

pub returns : goal.returns
unfolding refusal_text
returns c = adds_then c.push.ensures (rw (← c.number.ensures) c.push_pair.ensures)
