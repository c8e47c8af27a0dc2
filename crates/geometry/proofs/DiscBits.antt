-- Block bits and disc bits: the formula z*Z + b - 512 loses nothing on a zone's bits, so the conversions undo each other,
-- the zone is found again by division, and every bit of a zone is on the map.
use mathlib.Core.Path.{◌≡◌, refl}
use Prim.Native.Nat.{ℕ, zero, suc, ◌+◌, ◌*◌, ◌<◌, ◌≤◌}
use native.Mathlib.Nat.{mul-le-mul, mul-le-mul_right, div-mul-le_self, div-eq_of_lt-le, suc-mul}
use native.Mathlib.Numerals.{add-one}
use native.Mathlib.Omega.{arith}
use borrow.Author.Tests.{eq-eqb, ne_eqb}
use Rattle.geometry.specs.declared.Geometry.{Geometry}
use Rattle.geometry.specs.Accepted.{AcceptedGeometry}
use Rattle.geometry.specs.Places.{first_bit, end_bit, disc_bit, block_bit, zone_of, zone_from, zone_end, disc_bits}

-- where a zone's bits begin
pub first_of_zero : (z : ℕ) → z ≡ 0 → first_bit z ≡ 512
first_of_zero z e = rw (eq-eqb z 0 e)

pub first_of_other : (z : ℕ) → (z ≡ 0 → ⊥) → first_bit z ≡ 32
first_of_other z n = rw (ne_eqb z 0 n)

pub first_low : (z : ℕ) → 32 ≤ first_bit z
first_low zero = rw (first_of_zero 0 refl) (omega arith)
first_low (suc z) = rw (first_of_other (suc z) (λ e. omega arith)) (omega arith)

-- a zone's disc bits, by its first and its last
pub zone_starts : (g : Geometry) (z : ℕ) → zone_from g z ≡ disc_bit g z (first_bit z)
zone_starts g zero = rw (first_of_zero 0 refl) (omega arith)
zone_starts g (suc z) = rw (first_of_other (suc z) (λ e. omega arith)) (omega arith)

pub zone_ends : (g : Geometry) (z : ℕ) → zone_end g z ≡ disc_bit g z (end_bit g)
zone_ends g z = rw suc-mul (omega arith)

module _ (g : Geometry) (ok : AcceptedGeometry g) where
  -- the map's bits are few enough to be counted
  pub zone_bits_small : (z : ℕ) → z ≤ 65536 → z * g.bits ≤ 534773760
  zone_bits_small z h = mul-le-mul h ok.bits_high

  pub disc_bits_small : disc_bits g ≤ 534773760
  disc_bits_small = omega (arith, zone_bits_small g.zones (omega (arith, ok.zones_high)))

  -- zone 0 alone has room for the disc record
  pub map_bits_low : 480 ≤ g.zones * g.bits
  map_bits_low =
      let l : 1 * g.bits ≤ g.zones * g.bits = mul-le-mul_right g.bits ok.zones_low in
      omega (arith, ok.bits_low)

  -- no bit of a zone lies before disc bit 0
  pub from_zero_on : (z b : ℕ) → first_bit z ≤ b → 512 ≤ z * g.bits + b
  from_zero_on zero b h = let l : 512 ≤ b = rw (first_of_zero 0 refl) at h in omega arith
  from_zero_on (suc z) b h =
      let l : 32 ≤ b = rw (first_of_other (suc z) (λ e. omega arith)) at h in
      rw suc-mul (omega (arith, ok.bits_low))

  pub block_of_disc : (z b : ℕ) → first_bit z ≤ b → b < end_bit g → block_bit g z (disc_bit g z b) ≡ b
  block_of_disc z b l h = omega (arith, from_zero_on z b l)

  pub disc_of_block : (d : ℕ) → disc_bit g (zone_of g d) (block_bit g (zone_of g d) d) ≡ d
  disc_of_block d = omega (arith, div-mul-le_self (d + 480) g.bits)

  pub zone_of_disc : (z b : ℕ) → first_bit z ≤ b → b < end_bit g → zone_of g (disc_bit g z b) ≡ z
  zone_of_disc z b l h =
      let some : 512 ≤ z * g.bits + b = from_zero_on z b l in
      let low : 32 ≤ b = omega (arith, first_low z) in
      let next : (z + 1) * g.bits ≡ z * g.bits + g.bits = rw (add-one, suc-mul) in
      div-eq_of_lt-le g.bits (omega arith) (omega arith)

  pub on_the_map : (z b : ℕ) → z < g.zones → first_bit z ≤ b → b < end_bit g → disc_bit g z b < disc_bits g
  on_the_map z b n l h =
      let some : 512 ≤ z * g.bits + b = from_zero_on z b l in
      let next : suc z * g.bits ≡ z * g.bits + g.bits = suc-mul z g.bits in
      let up : suc z * g.bits ≤ g.zones * g.bits = mul-le-mul_right g.bits n in
      omega arith

-- the bytes of a map
pub map_small : (g : Geometry) → AcceptedGeometry g → g.zones * g.sector ≤ 67107840
map_small g ok = let h : g.zones ≤ 65535 = omega (arith, ok.zones_high) in mul-le-mul h ok.sector_high
