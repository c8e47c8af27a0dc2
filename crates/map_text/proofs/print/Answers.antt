-- A part that is written comes after those before it.
use Rattle.std.proofs.Common.{◌≡◌, [], take}
use Rattle.map_text.specs.Text.{program_text}
use Rattle.map_text.proofs.Written.{written_on, all_written}
use Rattle.map_text.proofs.print.Given.{Over}
use Rattle.map_text.proofs.print.Goals as goal
use Rattle.map_text.proofs.print.Goals.{Then-len-eq0}

-- at the return the parts written are the whole text
text_written : (g : Over) (c : Then-len-eq0 g) → c.loop-left.invariant.bytes ≡ program_text (take c.args.n c.args.buffer.now)
text_written g c = all_written c.next_part-len.ensures c.if-len-eq0.true c.loop-left.invariant

pub loop-left-init : goal.loop-left-init
loop-left-init g c = record { bytes = []; whole = c.begin-left.ensures }

pub loop-left-preserved : goal.loop-left-preserved
loop-left-preserved g c = written_on c.next_part-len.ensures c.loop-left.invariant
