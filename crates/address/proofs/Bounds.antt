-- The numbers that the code computes with are small.
use mathlib.Core.Path.{◌≡◌}
use Prim.Native.Nat.{ℕ, ◌-◌, ◌*◌, ◌%◌, ◌<◌, ◌≤◌}
use native.Mathlib.Nat.{mul-le-mul}
use native.Mathlib.Omega.{arith}
use Rattle.geometry.specs.declared.Geometry.{Geometry}
use Rattle.geometry.specs.Accepted.{AcceptedGeometry}
use Rattle.address.specs.Address.{start_offset}

-- so many map bits, at most 4,096 bytes each
pub bytes_small : (x unit : ℕ) → x < 4294967296 → unit ≤ 4096 → x * unit ≤ 17592186044416
bytes_small x unit h k = let l : x ≤ 4294967296 = omega arith in omega (arith, mul-le-mul l k)

-- the start offset of a whole object
pub whole_object : (g : Geometry) (id : ℕ) → start_offset g (id * 256) ≡ 0
whole_object g id = let e : id * 256 % 256 ≡ 0 = omega arith in rw e

pub offset_small : (g : Geometry) → AcceptedGeometry g → (n : ℕ) → (n % 256 - 1) * g.sector < 262144
offset_small g ok n = let l : n % 256 - 1 ≤ 254 = omega arith in omega (arith, mul-le-mul l ok.sector_high)
