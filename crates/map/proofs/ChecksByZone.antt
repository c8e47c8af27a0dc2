-- The zone checks and the cross checks, zone by zone: what they give from zone z on, one zone more at a time.
use mathlib.Core.Path.{◌≡◌}
use mathlib.Core.Bool.{true, false}
use mathlib.Core.List.{List}
use mathlib.Core.Option.{none, some}
use Prim.Native.Nat.{ℕ, suc, ◌+◌, ◌-◌, ◌<◌, ◌≤◌}
use native.Mathlib.Omega.{arith}
use lib.Bits.{bit_xor}
use lib.Dec.{eqb}
use lib.ListN.{get_or}
use Rattle.checks.specs.Words.{zone_check}
use Rattle.checks.specs.Cross.{cross_of}
use Rattle.model.specs.Blocks.{block_at}
use Rattle.model.specs.Check.{differing, cross_sum}
use Rattle.model.proofs.ByPlace.{rest_from, rest_cons, rest_none}

module _ (m : List ℕ) (zones size : ℕ) where
  pub checks_turn : (z : ℕ) → z < zones → eqb (get_or (block_at size z m) 0 0) (zone_check (block_at size z m)) ≡ true
      → differing z (rest_from m zones size z) ≡ differing (z + 1) (rest_from m zones size (z + 1))
  checks_turn z h t = let e : suc z ≡ z + 1 = omega arith in rw (rest_cons m zones size z h, t, e)

  pub checks_stop : (z : ℕ) → z < zones → eqb (get_or (block_at size z m) 0 0) (zone_check (block_at size z m)) ≡ false → differing z (rest_from m zones size z) ≡ some z
  checks_stop z h t = rw (rest_cons m zones size z h, t)

  pub checks_end : (z : ℕ) → zones ≤ z → differing z (rest_from m zones size z) ≡ none
  checks_end z h = rw (rest_none m zones size z h)

  -- from the last zone down
  pub cross_turn : (z x : ℕ) → 0 < z → z ≤ zones → x ≡ cross_sum (rest_from m zones size z) → bit_xor (cross_of (block_at size (z - 1) m)) x ≡ cross_sum (rest_from m zones size (z - 1))
  cross_turn z x h k e =
      let f : z - 1 + 1 ≡ z = omega arith in
      let l : z - 1 < zones = omega arith in
      rw (rest_cons m zones size (z - 1) l, f, e)

  pub cross_none : 0 ≡ cross_sum (rest_from m zones size zones)
  cross_none = rw (rest_none m zones size zones (omega arith))
