-- Zones in which nothing is free are passed over.
use Prim.Native.Nat.{◌-◌}
use mathlib.Core.Path.{◌≡◌}
use Rattle.map.specs.Accepted.{ReadableFrom}
use Rattle.walk.specs.HeldBy.{held_between}
use Rattle.chain.proofs.from_zone.Given as goal

abbrev pub invariant-loop-zone : goal.invariant-loop-zone
invariant-loop-zone l = record {
  readable : ReadableFrom l.map l.g l.zone;
  full : held_between l.g 0 l.map l.z l.g.zones ≡ held_between l.g 0 l.map l.zone l.g.zones;
}

abbrev pub decreases-loop-zone : goal.decreases-loop-zone
decreases-loop-zone l = l.g.zones - l.zone
