-- The zones that a claim tries, one distance after the other: each is a zone of the disc, at its distance below or above the parent.
use mathlib.Core.Path.{◌≡◌, refl}
use mathlib.Core.Bool.{Bool, true, false, ◌&&◌}
use mathlib.Core.Logic.{◌⊎◌, inl, inr}
use Prim.Native.Nat.{ℕ, zero, suc, ◌+◌, ◌-◌, ◌<◌, ◌≤◌}
use native.Mathlib.Omega.{arith}
use lib.Dec.{ltb, leb}
use borrow.Author.Tests.{ltb-true, leb-true}
use Rattle.bits.proofs.Tests.{both}
use Rattle.edits.specs.Near.{zone_if, zones_at, zones_from, zones_near}
use Rattle.edits.specs.Room.{In}
use Rattle.edits.proofs.Entries.{in_append}

pub in_zone_if : (b : Bool) (x z : ℕ) → In z (zone_if b x) → (b ≡ true) × (z ≡ x)
in_zone_if true x z (inl e) = (refl, e)
in_zone_if true x z (inr i) = absurd i
in_zone_if false x z i = absurd i

-- a zone of the disc at distance d from the parent
abbrev pub AtDistance : ℕ → ℕ → ℕ → ℕ → Type 0
AtDistance zones p d z = (z < zones) × ((z + d ≡ p) ⊎ ((z ≡ p + d) × (0 < d)))

module _ (zones p : ℕ) (k : p < zones) where
  pub in_at : (d z : ℕ) → In z (zones_at zones p d) → AtDistance zones p d z
  in_at d z i = go (in_append z (zone_if (leb d p) (p - d)) (zone_if (ltb 0 d && ltb (p + d) zones) (p + d)) i)
    where
      go : In z (zone_if (leb d p) (p - d)) ⊎ In z (zone_if (ltb 0 d && ltb (p + d) zones) (p + d)) → AtDistance zones p d z
      go (inl j) =
          let a = in_zone_if (leb d p) (p - d) z j in
          let b = leb-true d p a.0 in
          (omega arith, inl (omega arith))
      go (inr j) =
          let a = in_zone_if (ltb 0 d && ltb (p + d) zones) (p + d) z j in
          let b = both (ltb 0 d) (ltb (p + d) zones) a.0 in
          (omega (arith, ltb-true (p + d) zones b.1), inr (a.1, ltb-true 0 d b.0))

  pub in_from : (d n z : ℕ) → In z (zones_from zones p d n) → (e : ℕ) × (d ≤ e) × (e < d + n) × AtDistance zones p e z
  in_from d zero z i = absurd i
  in_from d (suc n) z i = go (in_append z (zones_at zones p d) (zones_from zones p (suc d) n) i) (in_from (suc d) n z)
    where
      go : In z (zones_at zones p d) ⊎ In z (zones_from zones p (suc d) n) → (In z (zones_from zones p (suc d) n) → (e : ℕ) × (suc d ≤ e) × (e < suc d + n) × AtDistance zones p e z)
          → (e : ℕ) × (d ≤ e) × (e < d + suc n) × AtDistance zones p e z
      go (inl j) ih = (d, omega arith, omega arith, in_at d z j)
      go (inr j) ih = let r = ih j in (r.0, omega arith, omega arith, r.3)

  pub near_exists : (z : ℕ) → In z (zones_near zones p) → z < zones
  near_exists z i = (in_from 0 zones z i).3.0
