-- The overhang, object 2 and what object 1 may reach back to end by the map's last bit, whether or not both fit.
use mathlib.Core.Path.{◌≡◌, ap}
use Prim.Native.Nat.{ℕ, ◌+◌, ◌-◌, ◌/◌, ◌≤◌, max}
use native.Mathlib.Nat.{mul-le-mul_right}
use native.Mathlib.Omega.{arith}
use lib.Dec.{ltb}
use borrow.Author.Tests.{ltb-false}
use Rattle.bits.proofs.Tests.{by_test}
use Rattle.geometry.specs.declared.Geometry.{Geometry}
use Rattle.geometry.specs.Places.{zone_from, disc_bits}
use Rattle.split.specs.Taken.{cut_bits}
use Rattle.writer.specs.declared.Piece as code
use Rattle.formatted.specs.Drawn.{overhang_from, middle_room, copies_need, object_two}
use Rattle.format.specs.Zones.{two_of}

-- what is taken of n bits is at most those
cut_within : (m need n : ℕ) → cut_bits m need n ≤ n
cut_within m need n = by_test (ltb n (max need m + m)) (λ t. rw t (omega arith)) (λ t. rw t (omega (arith, ltb-false n (max need m + m) t)))

module _ (g : Geometry) where
  pub over_in_map : overhang_from g ≤ disc_bits g
  over_in_map = by_test (ltb g.end.0 (disc_bits g)) (λ t. rw t (omega arith)) (λ t. rw t (omega arith))

  zone_in_map : (z : ℕ) → z ≤ g.zones → zone_from g z ≤ disc_bits g
  zone_in_map z h = omega (arith, mul-le-mul_right g.bits h)

  pub last_in_map : zone_from g (g.zones - 1) ≤ disc_bits g
  last_in_map = zone_in_map (g.zones - 1) (omega arith)

  two_ends : (object_two g).start + (object_two g).len ≤ disc_bits g
  two_ends = omega (arith, cut_within g.shortest (copies_need g) (middle_room g), over_in_map, zone_in_map (g.zones / 2) (omega arith))

  pub two_in_map : {two : code.Piece} → two ≡ two_of g → two.start.0 + two.len ≤ disc_bits g
  two_in_map e = omega (arith, two_ends, ap (λ (x : code.Piece). x.start.0 + x.len) e)
