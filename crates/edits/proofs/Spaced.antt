-- The pieces of a fit map lie one after another on the disc, each within its zone: neighbours in one zone are apart, and a later
-- zone starts where an earlier one ends, or after.
use mathlib.Core.Path.{◌≡◌, refl, sym, ap, subst}
use mathlib.Core.Bool.{Bool, true}
use mathlib.Core.List.{List, [], ◌∷◌}
use Prim.Native.Nat.{ℕ, suc, ◌+◌, ◌*◌, ◌<◌, ◌≤◌}
use native.Mathlib.Nat.{mul-le-mul_right, div-lt_iff_lt-mul}
use native.Mathlib.Omega.{arith}
use lib.Dec.{eqb, ltb, leb}
use borrow.Author.Tests.{eqb-false, eq-eqb, le-leb, leb-true, ltb-true}
use Rattle.bits.proofs.Tests.{by_test, both}
use Rattle.geometry.specs.declared.Geometry.{Geometry}
use Rattle.geometry.specs.Accepted.{AcceptedGeometry}
use Rattle.geometry.specs.Places.{zone_of, zone_from, zone_end, disc_bits}
use Rattle.model.specs.Pieces.{Piece, keep}
use Rattle.model.proofs.ChainDrawn.{Lies}
use Rattle.edits.specs.Edits.{in_zone}
use Rattle.edits.specs.Holes.{gap_fits, apart}
use Rattle.edits.proofs.Kept.{All, all_keep}
use Rattle.edits.proofs.ByPlace.{Weak}
use Rattle.edits.proofs.Gaps.{gap_of_test, gap_le, gap_over, is_long, apart_le, apart_keep}
use Rattle.edits.proofs.Invariant.{FitPieces, some_bits, some_zone}

-- a piece keeps to its zone
abbrev pub is_within : Geometry → Piece → Bool
is_within g p = leb (p.at.start + p.at.len) (zone_end g (zone_of g p.at.start))

-- the pieces of all zones lie one after another
module _ (g : Geometry) (ok : AcceptedGeometry g) where
  abbrev Parts : List Piece → Type 0
  Parts l = (z : ℕ) → z < g.zones → apart g.shortest (zone_from g z) (zone_end g z) (in_zone g z l) ≡ true

  abbrev Zoned : List Piece → Type 0
  Zoned l = All (λ p. ltb (zone_of g p.at.start) g.zones) l

  -- the first piece lies in its zone
  first_part : (x : Piece) (l : List Piece) → Parts (x ∷ l) → ltb (zone_of g x.at.start) g.zones ≡ true
      → (zone_from g (zone_of g x.at.start) ≤ x.at.start) × (apart g.shortest (x.at.start + x.at.len) (zone_end g (zone_of g x.at.start)) (in_zone g (zone_of g x.at.start) l) ≡ true)
  first_part x l h t =
      let z = zone_of g x.at.start in
      let a : apart g.shortest (zone_from g z) (zone_end g z) (x ∷ in_zone g z l) ≡ true = simp (eq-eqb z z refl) at (h z (ltb-true z g.zones t)) in
      let b = both (gap_fits g.shortest (zone_from g z) x.at.start) (apart g.shortest (x.at.start + x.at.len) (zone_end g z) (in_zone g z l)) a in
      (gap_le g.shortest (zone_from g z) x.at.start (gap_of_test g.shortest (zone_from g z) x.at.start b.0), b.1)

  keep_all_true : (l : List Piece) → keep (λ p. true) l ≡ l
  keep_all_true [] = refl
  keep_all_true (x ∷ xs) = ap (λ (r : List Piece). x ∷ r) (keep_all_true xs)

  -- without its first piece a zone's gaps fit still
  apart_tail : (at end : ℕ) (x : Piece) (l : List Piece) → is_long g.shortest x ≡ true → All (is_long g.shortest) l → apart g.shortest at end (x ∷ l) ≡ true → apart g.shortest at end l ≡ true
  apart_tail at end x l w ws h =
      let b = both (gap_fits g.shortest at x.at.start) (apart g.shortest (x.at.start + x.at.len) end l) h in
      let k = gap_le g.shortest at x.at.start (gap_of_test g.shortest at x.at.start b.0) in
      subst (λ (r : List Piece). apart g.shortest at end r ≡ true) (keep_all_true l)
      (apart_keep g.shortest at (x.at.start + x.at.len) end (λ p. true) l ws (gap_over g.shortest at x.at.start x.at.len k (leb-true g.shortest x.at.len w)) b.1)

  parts_tail : (x : Piece) (l : List Piece) → All (is_long g.shortest) (x ∷ l) → Parts (x ∷ l) → Parts l
  parts_tail x l w h z k =
      by_test (eqb (zone_of g x.at.start) z)
      (λ t. apart_tail (zone_from g z) (zone_end g z) x (in_zone g z l) w.0 (all_keep (is_long g.shortest) _ l w.1) (simp t at (h z k)))
      (λ t. simp t at (h z k))

  zone_ends : (z : ℕ) → z < g.zones → zone_end g z ≤ disc_bits g
  zone_ends z h = omega (arith, mul-le-mul_right g.bits h)

  -- a later zone starts where an earlier one ends, or after
  zone_order : (d e : ℕ) → d ≤ e → (zone_of g d ≡ zone_of g e → ⊥) → zone_end g (zone_of g d) ≤ zone_from g (zone_of g e)
  zone_order d e h n =
      let u = (div-lt_iff_lt-mul {x = d + 480} {y = suc (zone_of g e)} (some_zone g ok)).1 (omega (arith, upper)) in
      omega (arith, mul-le-mul_right g.bits (lower u))
    where
      upper : e + 480 < suc (zone_of g e) * g.bits
      upper = (div-lt_iff_lt-mul (some_zone g ok)).0 (omega arith)

      lower : zone_of g d < suc (zone_of g e) → suc (zone_of g d) ≤ zone_of g e
      lower u = omega (arith, u, n)

  spaced : (f : ℕ) (l : List Piece) → f ≤ disc_bits g → Weak f l → All (is_long g.shortest) l → Zoned l → Parts l → Lies f (disc_bits g) l
  spaced f [] h w long z parts = h
  spaced f (x ∷ []) h w long z parts =
      let p = first_part x [] parts z.0 in
      let e = apart_le g.shortest (x.at.start + x.at.len) (zone_end g (zone_of g x.at.start)) (in_zone g (zone_of g x.at.start) []) p.1 in
      (w.0, omega (arith, leb-true g.shortest x.at.len long.0, some_bits g ok), omega (arith, zone_ends (zone_of g x.at.start) (ltb-true (zone_of g x.at.start) g.zones z.0)))
  spaced f (x ∷ y ∷ l) h w long z parts = (
    w.0,
    omega (arith, leb-true g.shortest x.at.len long.0, some_bits g ok),
    spaced (x.at.start + x.at.len) (y ∷ l) fits (next, w.1.1) long.1 z.1 (parts_tail x (y ∷ l) long parts),
  )
    where
      zx : ℕ
      zx = zone_of g x.at.start

      p : (zone_from g (zone_of g x.at.start) ≤ x.at.start) × (apart g.shortest (x.at.start + x.at.len) (zone_end g (zone_of g x.at.start)) (in_zone g (zone_of g x.at.start) (y ∷ l)) ≡ true)
      p = first_part x (y ∷ l) parts z.0

      in_end : x.at.start + x.at.len ≤ zone_end g (zone_of g x.at.start)
      in_end = apart_le g.shortest (x.at.start + x.at.len) (zone_end g (zone_of g x.at.start)) (in_zone g (zone_of g x.at.start) (y ∷ l)) p.1

      fits : x.at.start + x.at.len ≤ disc_bits g
      fits = omega (arith, in_end, zone_ends (zone_of g x.at.start) (ltb-true (zone_of g x.at.start) g.zones z.0))

      next : x.at.start + x.at.len ≤ y.at.start
      next =
          by_test (eqb (zone_of g y.at.start) (zone_of g x.at.start))
          (λ t. let a : apart g.shortest (x.at.start + x.at.len) (zone_end g (zone_of g x.at.start)) (y ∷ in_zone g (zone_of g x.at.start) l) ≡ true = simp t at p.1 in
          let b = both (gap_fits g.shortest (x.at.start + x.at.len) y.at.start) _ a in
          gap_le g.shortest (x.at.start + x.at.len) y.at.start (gap_of_test g.shortest (x.at.start + x.at.len) y.at.start b.0))
          (λ t. omega (arith, in_end, zone_order x.at.start y.at.start w.1.0 (λ e. eqb-false _ _ t (sym e)), (first_part y l (parts_tail x (y ∷ l) long parts) z.1.0).0))

  pub fit_lies : (l : List Piece) → FitPieces g l → Lies 0 (disc_bits g) l
  fit_lies l k = spaced 0 l (omega arith) k.weak k.long k.zoned k.parts

  pub within_zones : (l : List Piece) → All (is_long g.shortest) l → Zoned l → Parts l → All (is_within g) l
  within_zones [] long z parts = tt
  within_zones (x ∷ l) long z parts =
      let p = first_part x l parts z.0 in (
        le-leb _ _ (apart_le g.shortest (x.at.start + x.at.len) (zone_end g (zone_of g x.at.start)) (in_zone g (zone_of g x.at.start) l) p.1),
        within_zones l long.1 z.1 (parts_tail x l long parts),
      )
