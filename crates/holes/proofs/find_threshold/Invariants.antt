-- Halving: the holes of at least `low` bits have enough, those of at least `high` bits, which have `above` together, do not. Where the two
-- lengths are next to each other, the lower is the threshold. The measure is their distance.
use mathlib.Core.Path.{◌≡◌}
use Prim.Native.Nat.{◌+◌, ◌-◌, ◌<◌, ◌≤◌}
use Rattle.split.specs.Threshold.{at_least}
use Rattle.holes.specs.Passes.{holes_on}
use Rattle.holes.proofs.find_threshold.Given as goal

abbrev pub invariant-loop-low : goal.invariant-loop-low
invariant-loop-low l = record {
  apart : l.low < l.high;
  small : l.high ≤ l.longest + 1;
  enough : l.need ≤ at_least l.low (holes_on l.g l.map);
  too_few : l.above < l.need;
  above : l.above ≡ at_least l.high (holes_on l.g l.map);
}

abbrev pub decreases-loop-low : goal.decreases-loop-low
decreases-loop-low l = l.high - l.low
