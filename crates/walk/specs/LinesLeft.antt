-- What is left of the lines that an iterator goes over. Assumes nothing.
use Rattle.std.specs.Prelude.{List}
use Rattle.walk.specs.declared.iter.Lines.{Lines}
use Rattle.walk.specs.declared.Line.{Line}
use Rattle.walk.specs.Remaining.{remaining}

unfoldable pub lines_left : Lines → List Line
lines_left it = remaining it.map.now it.geometry it.to it.at
