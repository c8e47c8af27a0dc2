-- The zones that a claim tries are ranked by `Nearer`: those at one distance the lower first, and after them those further away. A zone's distance is
-- below the number of zones, so each is named, and a ranked list names none twice.
use mathlib.Core.Path.{◌≡◌, refl, sym, ap, subst}
use mathlib.Core.Bool.{Bool, true, false, ◌&&◌}
use mathlib.Core.List.{List, [], ◌∷◌, ◌++◌}
use mathlib.Core.Logic.{◌⊎◌, inl, inr}
use Prim.Native.Nat.{ℕ, zero, suc, ◌+◌, ◌-◌, ◌<◌, ◌≤◌}
use native.Mathlib.Omega.{arith}
use lib.Dec.{eqb, ltb, leb}
use borrow.Author.Tests.{eqb-true, eqb-false, ltb-true, ltb-false, lt-ltb, leb-true, leb-false, le-leb}
use Rattle.bits.proofs.Tests.{by_test, both, and_true}
use Rattle.edits.specs.Near.{zone_if, zones_at, zones_from, zones_near}
use Rattle.edits.specs.Room.{In, Earlier}
use Rattle.edits.proofs.Entries.{in_append, in_left, in_right, one_earlier}
use Rattle.edits.proofs.ZonesNear.{in_zone_if, AtDistance, in_at, in_from, near_exists}
use Rattle.runs.specs.ZonesTried.{distance, Nearer, times, ZonesTried}

-- the order
module _ (p : ℕ) where
  pub nearer_asym : (y z : ℕ) → Nearer p y z → Nearer p z y → ⊥
  nearer_asym y z (inl a) (inl b) = omega arith
  nearer_asym y z (inl a) (inr b) = omega (arith, b.0)
  nearer_asym y z (inr a) (inl b) = omega (arith, a.0)
  nearer_asym y z (inr a) (inr b) = omega (arith, a.1, b.1)

  pub nearer_total : (y z : ℕ) → (y ≡ z) ⊎ (Nearer p y z ⊎ Nearer p z y)
  nearer_total y z =
      by_test (ltb (distance p y) (distance p z))
      (λ t. inr (inl (inl (ltb-true (distance p y) (distance p z) t))))
      (λ t. by_test (ltb (distance p z) (distance p y))
      (λ u. inr (inr (inl (ltb-true (distance p z) (distance p y) u))))
      (λ u. let e : distance p y ≡ distance p z = omega (arith, ltb-false (distance p y) (distance p z) t, ltb-false (distance p z) (distance p y) u) in
      by_test (ltb y z)
      (λ v. inr (inl (inr (e, ltb-true y z v))))
      (λ v. by_test (ltb z y)
      (λ w. inr (inr (inr (sym e, ltb-true z y w))))
      (λ w. inl (omega (arith, ltb-false y z v, ltb-false z y w))))))

  -- ranked lists
  abbrev pub Ranked : List ℕ → Type 0
  Ranked [] = Unit {0}
  Ranked (z ∷ zs) = ((y : ℕ) → In y zs → Nearer p z y) × Ranked zs

  ranked_append : (xs ys : List ℕ) → Ranked xs → Ranked ys → ((x y : ℕ) → In x xs → In y ys → Nearer p x y) → Ranked (xs ++ ys)
  ranked_append [] ys a b h = b
  ranked_append (x ∷ xs) ys a b h = (λ y i. go y (in_append y xs ys i), ranked_append xs ys a.1 b (λ u v i j. h u v (inr i) j))
    where
      go : (y : ℕ) → In y xs ⊎ In y ys → Nearer p x y
      go y (inl i) = a.0 y i
      go y (inr j) = h x y (inl refl) j

  ranked_if : (b : Bool) (z : ℕ) → Ranked (zone_if b z)
  ranked_if true z = (λ y i. absurd i, tt)
  ranked_if false z = tt

  ranked_once : (zs : List ℕ) → Ranked zs → (z : ℕ) → In z zs → times z zs ≡ 1
  ranked_once [] r z i = absurd i
  ranked_once (x ∷ xs) r z i =
      by_test (eqb x z)
      (λ t. simp t (ap suc (none_again xs (λ j. let n = r.0 z j in let m : Nearer p z z = subst (λ (y : ℕ). Nearer p y z) (eqb-true x z t) n in nearer_asym z z m m))))
      (λ t. simp t (ranked_once xs r.1 z (later i (eqb-false x z t))))
    where
      none_again : (xs : List ℕ) → (In z xs → ⊥) → times z xs ≡ 0
      none_again [] n = refl
      none_again (x ∷ xs) n =
          by_test (eqb x z)
          (λ t. absurd (n (inl (sym (eqb-true x z t)))))
          (λ t. simp t (none_again xs (λ j. n (inr j))))

      later : (z ≡ x) ⊎ In z xs → (x ≡ z → ⊥) → In z xs
      later (inl e) n = absurd (n (sym e))
      later (inr j) n = j

  ranked_earlier : (zs : List ℕ) → Ranked zs → (y z : ℕ) → Earlier y z zs → Nearer p y z
  ranked_earlier [] r y z k = absurd k
  ranked_earlier (x ∷ xs) r y z (inl k) = subst (λ (u : ℕ). Nearer p u z) (sym k.0) (r.0 z k.1)
  ranked_earlier (x ∷ xs) r y z (inr k) = ranked_earlier xs r.1 y z k

-- the zones tried
module _ (zones p : ℕ) (k : p < zones) where
  at_distance : (d z : ℕ) → AtDistance zones p d z → distance p z ≡ d
  at_distance d z a = go a.1
    where
      go : (z + d ≡ p) ⊎ ((z ≡ p + d) × (0 < d)) → distance p z ≡ d
      go (inl e) = omega arith
      go (inr e) = omega (arith, e.0)

  ranked_at : (d : ℕ) → Ranked p (zones_at zones p d)
  ranked_at d =
      let below = zone_if (leb d p) (p - d) in
      let above = zone_if (ltb 0 d && ltb (p + d) zones) (p + d) in
      ranked_append p below above (ranked_if p (leb d p) (p - d)) (ranked_if p (ltb 0 d && ltb (p + d) zones) (p + d))
      (λ x y i j.
      (let a = in_zone_if (leb d p) (p - d) x i in
      let b = in_zone_if (ltb 0 d && ltb (p + d) zones) (p + d) y j in
      let lo = leb-true d p a.0 in
      let some = ltb-true 0 d (both (ltb 0 d) (ltb (p + d) zones) b.0).0 in
      inr (omega (arith, a.1, b.1), omega (arith, a.1, b.1))))

  ranked_from : (d n : ℕ) → Ranked p (zones_from zones p d n)
  ranked_from d zero = tt
  ranked_from d (suc n) =
      ranked_append p (zones_at zones p d) (zones_from zones p (suc d) n) (ranked_at d) (ranked_from (suc d) n)
      (λ x y i j.
      (let a = at_distance d x (in_at zones p k d x i) in
      let r = in_from zones p k (suc d) n y j in
      let b = at_distance r.0 y r.3 in
      inl (omega (arith, a, b, r.1))))

  pub ranked_near : Ranked p (zones_near zones p)
  ranked_near = ranked_from 0 zones

  -- every zone is named
  at_named : (d z : ℕ) → z < zones → distance p z ≡ d → In z (zones_at zones p d)
  at_named d z h e =
      by_test (leb z p)
      (λ t. let s : z ≡ p - d = omega (arith, leb-true z p t) in
      in_left z (zone_if (leb d p) (p - d)) (zone_if (ltb 0 d && ltb (p + d) zones) (p + d)) (simp (le-leb d p (omega (arith, leb-true z p t))) (inl s)))
      (λ t. let s : z ≡ p + d = omega (arith, leb-false z p t) in
      let a : ltb 0 d && ltb (p + d) zones ≡ true = and_true (ltb 0 d) (ltb (p + d) zones) (lt-ltb 0 d (omega (arith, leb-false z p t))) (lt-ltb (p + d) zones (omega arith)) in
      in_right z (zone_if (leb d p) (p - d)) (zone_if (ltb 0 d && ltb (p + d) zones) (p + d)) (simp a (inl s)))

  from_named : (d n z : ℕ) → z < zones → d ≤ distance p z → distance p z < d + n → In z (zones_from zones p d n)
  from_named d zero z h lo hi = absurd (omega arith)
  from_named d (suc n) z h lo hi =
      by_test (eqb (distance p z) d)
      (λ t. in_left z (zones_at zones p d) (zones_from zones p (suc d) n) (at_named d z h (eqb-true (distance p z) d t)))
      (λ t. in_right z (zones_at zones p d) (zones_from zones p (suc d) n) (from_named (suc d) n z h (omega (arith, eqb-false (distance p z) d t)) (omega arith)))

  pub near_named : (z : ℕ) → z < zones → In z (zones_near zones p)
  near_named z h = from_named 0 zones z h (omega arith) (omega arith)

  pub zones_tried : ZonesTried zones p
  zones_tried = record {
    once = λ z h. ranked_once p (zones_near zones p) ranked_near z (near_named z h);
    no_other = near_exists zones p k;
    in_order = λ y z a b. (ranked_earlier p (zones_near zones p) ranked_near y z, λ n. go y z n (one_earlier y z (zones_near zones p) (near_named y a) (near_named z b)));
  }
    where
      go : (y z : ℕ) → Nearer p y z → (y ≡ z) ⊎ (Earlier y z (zones_near zones p) ⊎ Earlier z y (zones_near zones p)) → Earlier y z (zones_near zones p)
      go y z n (inl e) = let m : Nearer p z z = subst (λ (u : ℕ). Nearer p u z) e n in absurd (nearer_asym p z z m m)
      go y z n (inr (inl i)) = i
      go y z n (inr (inr i)) = absurd (nearer_asym p y z n (ranked_earlier p (zones_near zones p) ranked_near z y i))
