-- From the first fragment of a zone on, the lines that remain up to another are those of the zones between.
use Rattle.walk.specs.LinesLeft.{lines_left}
use Rattle.walk.proofs.lines.Goals as goal

pub returns : goal.returns
unfolding lines_left
returns c = c.from_zone.ensures.all c.args.to c.requires.1
