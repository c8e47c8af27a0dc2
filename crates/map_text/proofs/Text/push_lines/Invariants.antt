-- The lines passed are moved, and there is room for one more.
use Rattle.std.proofs.Common.{◌+◌, ◌≤◌, length}
use Rattle.walk.specs.LinesLeft.{lines_left}
use Rattle.map_text.specs.declared.TheConstants.{LONGEST_LINE}
use Rattle.map_text.specs.Text.{lines_text}
use Rattle.map_text.specs.Parts.{Moves}
use Rattle.map_text.proofs.Text.push_lines.Given as goal

abbrev pub invariant-loop-line : goal.invariant-loop-line
invariant-loop-line l =
    Moves (lines_text (lines_left l.initial.lines)) l.initial.self l.self (lines_text (lines_left l.lines)) × (l.self.len + LONGEST_LINE ≤ length l.self.buffer.now)
