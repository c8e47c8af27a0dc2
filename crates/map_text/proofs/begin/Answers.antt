-- By the two answers of the check.
use Rattle.std.proofs.Common.{arith, sym}
use Rattle.map_text.proofs.Begun.{begins_accepted, begins_refused, begins_lines}
use Rattle.map_text.proofs.begin.Goals as goal

pub lines-requires : goal.lines-requires
lines-requires c = ((begins_accepted c.args.input.now (sym c.in-Ok.ensures)).readable, omega arith)

pub returns-in-Ok : goal.returns-in-Ok
returns-in-Ok c = begins_lines c.args.input.now (sym c.in-Ok.ensures) c.lines.ensures

pub returns-in-Err : goal.returns-in-Err
returns-in-Err c = begins_refused c.args.input.now (sym c.in-Err.ensures)
