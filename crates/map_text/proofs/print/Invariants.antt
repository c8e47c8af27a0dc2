-- What is written and what is left are together the text. The measure is how much is left.
use Rattle.std.proofs.Common.{length, take}
use Rattle.map_text.specs.Parts.{left_text}
use Rattle.map_text.proofs.Written.{Written}
use Rattle.map_text.proofs.print.Given as goal

abbrev pub invariant-loop-left : goal.invariant-loop-left
invariant-loop-left g l = Written (take l.fn.n l.fn.buffer) l.left

abbrev pub decreases-loop-left : goal.decreases-loop-left
decreases-loop-left g l = length (left_text l.left)
