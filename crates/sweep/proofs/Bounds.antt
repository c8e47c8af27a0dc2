-- The disc is small, and the test of a stretch's end without a sum is that of the definition.
use mathlib.Core.Path.{◌≡◌}
use Prim.Native.Nat.{ℕ, ◌+◌, ◌/◌, ◌≤◌}
use native.Mathlib.Nat.{mul-le-mul, mul_comm, div-mul-le_self, div-le_of_le-mul, le-div_iff_mul-le}
use native.Mathlib.Omega.{arith}
use Rattle.geometry.specs.declared.Geometry.{Geometry}
use Rattle.geometry.specs.Accepted.{AcceptedGeometry}
use Rattle.geometry.specs.Places.{zone_of, zone_from, disc_bits}
use Rattle.geometry.proofs.DiscBits.{disc_bits_small, map_bits_low}

-- the disc's bytes
pub size_small : (g : Geometry) → AcceptedGeometry g → g.size ≤ 2190433320960
size_small g ok = omega (arith, ok.size_high, mul-le-mul (disc_bits_small g ok) ok.unit_high)

-- the bit of an address lies on the map or just past it, and so does its zone, which starts at the bit or before it
pub bit_on_map : (g : Geometry) → AcceptedGeometry g → (address : ℕ) → address ≤ g.size → address / g.unit ≤ disc_bits g
bit_on_map g ok address h =
    let l : address / g.unit ≤ g.size / g.unit =
    (le-div_iff_mul-le {k = g.unit} {x = address / g.unit} {y = g.size} (omega (arith, ok.unit_low))).1 (omega (arith, div-mul-le_self address g.unit)) in
    omega (arith, l, ok.end_is, ok.end_high)

pub zone_on_map : (g : Geometry) → AcceptedGeometry g → (d : ℕ) → d ≤ disc_bits g → zone_of g d ≤ g.zones
zone_on_map g ok d h = div-le_of_le-mul g.bits (omega (arith, h, map_bits_low g ok, mul_comm g.bits g.zones))

pub zone_before : (g : Geometry) (d z : ℕ) → z ≡ zone_of g d → zone_from g (0 + z) ≤ d
zone_before g d z e = let f : 0 + z ≡ (d + 480) / g.bits = omega (arith, e) in rw f (omega (arith, div-mul-le_self (d + 480) g.bits))
