-- What is left of the parts that an iterator goes over. Assumes nothing.
use Rattle.std.specs.Prelude.{List, ℕ}
use Rattle.writer.specs.declared.iter.Parts.{Parts}
use Rattle.writer.specs.Parts.{zone_parts}

unfoldable pub parts_left : Parts → List (List ℕ)
parts_left it = zone_parts it.geometry it.list.now it.zone
