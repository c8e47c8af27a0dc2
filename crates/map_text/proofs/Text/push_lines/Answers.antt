-- Line after line.
use Rattle.std.proofs.Common.{ap, arith}
use Rattle.map_text.specs.Text.{lines_text}
use Rattle.map_text.proofs.Added.{moves_none, moves_then}
use Rattle.map_text.proofs.Text.push_lines.Goals as goal

pub loop-line-init : goal.loop-line-init
loop-line-init c = (moves_none _ _ (omega arith), c.requires)

pub returns-then-self-lt-LONGEST_LINE-clause-moved : goal.returns-then-self-lt-LONGEST_LINE-clause-moved
returns-then-self-lt-LONGEST_LINE-clause-moved c = moves_then c.loop-line.invariant.0 (ap lines_text c.in-Some.ensures.steps) c.push_line.ensures

pub loop-line-preserved : goal.loop-line-preserved
loop-line-preserved c = (moves_then c.loop-line.invariant.0 (ap lines_text c.in-Some.ensures.steps) c.push_line.ensures, omega arith)
