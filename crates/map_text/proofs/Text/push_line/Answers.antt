-- The owner, then the two numbers.
use Rattle.map_text.specs.Text.{line_text}
use Rattle.map_text.proofs.Added.{adds_then}
use Rattle.map_text.proofs.Text.push_line.Goals as goal

pub returns : goal.returns
unfolding line_text
returns c = adds_then c.push_owner.ensures c.push_pair.ensures
