-- Refusal 12 in the paper's words: a list passes the test exactly when it keeps the rules. The test asks that each pair ends
-- at or before the next one's place in object order, counted round the end of the disc map; for pairs on the map this is to
-- come in that order.
use mathlib.Core.Path.{◌≡◌, refl, sym, subst}
use mathlib.Core.Bool.{true, ◌&&◌}
use mathlib.Core.List.{List, [], ◌∷◌}
use mathlib.Core.Logic.{inl, inr}
use Prim.Native.Nat.{ℕ, suc, ◌+◌, ◌-◌, ◌*◌, ◌%◌, ◌<◌, ◌≤◌}
use native.Mathlib.Nat.{div-lt_iff_lt-mul}
use native.Mathlib.Omega.{arith}
use lib.Dec.{eqb, ltb, leb}
use lib.ListN.{length}
use borrow.Author.Tests.{eqb-true, eq-eqb, ltb-true, lt-ltb, leb-true, leb-false, le-leb, lt-leb}
use Rattle.bits.proofs.Tests.{by_test, both}
use Rattle.geometry.specs.declared.Geometry.{Geometry}
use Rattle.geometry.specs.Accepted.{AcceptedGeometry}
use Rattle.geometry.specs.Places.{zone_of, zone_end, disc_bits, start_zone}
use Rattle.model.specs.Chain.{Pair}
use Rattle.model.specs.Pieces.{late, InObjectOrder, wrapped, both_late, both_early}
use Rattle.edits.specs.Order.{rank}
use Rattle.edits.specs.Edits.{own}
use Rattle.edits.specs.Judge.{pairs_from, pair_fits, pairs_fit, list_fits}
use Rattle.edits.specs.Room.{In, Earlier}
use Rattle.runs.specs.ListRules.{PairRules, ListRules}
use Rattle.edits.proofs.Invariant.{some_bits, some_zone, PairTested, pair_tested}
use Rattle.edits.proofs.FreeBits.{bit_zone}
use Rattle.runs.proofs.Thirteen.{pairs_in_law, in_order_separate}

-- a pair that passes keeps the rules
pair_rules : (g : Geometry) (q : Pair) → PairTested g q → PairRules g q
pair_rules g q r = record {
  long = r.size;
  start_clusters = r.start_clusters;
  length_clusters = r.length_clusters;
  on_map = r.below;
  one_zone = λ d w. bit_zone g q d r.in_zone_end w;
}

-- in a list that passes, an earlier pair ends at or before a later one's place
ends_before : (g : Geometry) (id from : ℕ) (qs : List Pair) → pairs_fit g id from qs ≡ true → (q p : Pair) → Earlier q p qs
    → PairTested g q × PairTested g p × (rank (late g id) (disc_bits g) (own id q) + q.len ≤ rank (late g id) (disc_bits g) (own id p))
ends_before g id from [] h q p i = absurd i
ends_before g id from (x ∷ xs) h q p (inl i) =
    let r = rank (late g id) (disc_bits g) (own id x) in
    let a = both (pair_fits g x && leb from r) (pairs_fit g id (r + x.len) xs) h in
    let k = pairs_in_law g id (r + x.len) xs a.1 p i.1 in
    subst (λ (y : Pair). PairTested g y × PairTested g p × (rank (late g id) (disc_bits g) (own id y) + y.len ≤ rank (late g id) (disc_bits g) (own id p))) (sym i.0)
    (pair_tested g x (both (pair_fits g x) (leb from r) a.0).0, k.0, k.1)
ends_before g id from (x ∷ xs) h q p (inr i) =
    let r = rank (late g id) (disc_bits g) (own id x) in
    ends_before g id (r + x.len) xs (both (pair_fits g x && leb from r) (pairs_fit g id (r + x.len) xs) h).1 q p i

-- so it comes before it in object order: the place of a pair of the zones before the start zone is past the disc map, where
-- none from the start zone on has its own
comes_before : (g : Geometry) → AcceptedGeometry g → (id : ℕ) (q p : Pair) → PairTested g q → PairTested g p
    → rank (late g id) (disc_bits g) (own id q) + q.len ≤ rank (late g id) (disc_bits g) (own id p) → InObjectOrder g (start_zone g id) q p
comes_before g ok id q p a b h =
    by_test (late g id (own id q))
    (λ s. by_test (late g id (own id p))
    (λ t. both_late (leb-true _ _ s) (leb-true _ _ t) (simp (s, t) at h))
    (λ t. wrapped (leb-true _ _ s) (leb-false _ _ t)))
    (λ s. by_test (late g id (own id p))
    (λ t. let k : disc_bits g + q.start + q.len ≤ p.start = simp (s, t) at h in absurd (omega (arith, a.size, b.below, some_bits g ok)))
    (λ t. let k : disc_bits g + q.start + q.len ≤ disc_bits g + p.start = simp (s, t) at h in both_early (leb-false _ _ s) (leb-false _ _ t) (omega arith)))

pub fits_gives_rules : (g : Geometry) → AcceptedGeometry g → (id : ℕ) (list : List ℕ) → list_fits g id list ≡ true → ListRules g id list
fits_gives_rules g ok id list h =
    let a = both (ltb 0 (length list) && eqb (length list % 2) 0) (pairs_fit g id 0 (pairs_from list)) h in
    let b = both (ltb 0 (length list)) (eqb (length list % 2) 0) a.0 in
    record {
      some = ltb-true 0 (length list) b.0;
      even = eqb-true (length list % 2) 0 b.1;
      pairs = λ q i. pair_rules g q (pairs_in_law g id 0 (pairs_from list) a.1 q i).0;
      in_order = λ q p i. let k = ends_before g id 0 (pairs_from list) a.1 q p i in comes_before g ok id q p k.0 k.1 k.2;
      separate = λ q p i. let k = ends_before g id 0 (pairs_from list) a.1 q p i in in_order_separate g id q p k.0 k.1 k.2;
    }

module _ (g : Geometry) (ok : AcceptedGeometry g) where
  some_len : (q : Pair) → PairRules g q → 0 < q.len
  some_len q r = omega (arith, r.long, some_bits g ok)

  -- the last bit of a pair lies in the zone of the first, so the pair ends in it
  zone_end_law : (q : Pair) → PairRules g q → q.start + q.len ≤ zone_end g (zone_of g q.start)
  zone_end_law q r =
      let s = some_len q r in
      let z = zone_of g q.start in
      let last : ℕ = q.start + q.len - 1 in
      let e : zone_of g last ≡ z = r.one_zone last (omega arith, omega arith) in
      let h : last + 480 < suc z * g.bits = (div-lt_iff_lt-mul (some_zone g ok)).0 (omega (arith, e)) in
      omega (arith, h)

  pair_fits_law : (q : Pair) → PairRules g q → pair_fits g q ≡ true
  pair_fits_law q r = simp (le-leb _ _ r.long, eq-eqb _ _ r.start_clusters, eq-eqb _ _ r.length_clusters, le-leb _ _ r.on_map, le-leb _ _ (zone_end_law q r))

  -- of two pairs in object order, the later has its place at or after the other's end: from the start zone on the other ends
  -- on the disc map, and the places of the zones before it are counted on from there
  comes_after : (id : ℕ) (q p : Pair) → PairRules g q → InObjectOrder g (start_zone g id) q p
      → rank (late g id) (disc_bits g) (own id q) + q.len ≤ rank (late g id) (disc_bits g) (own id p)
  comes_after id q p r (wrapped s t) = simp (le-leb _ _ s, lt-leb _ _ t) (omega (arith, r.on_map))
  comes_after id q p r (both_late s t h) = simp (le-leb _ _ s, le-leb _ _ t) h
  comes_after id q p r (both_early s t h) = simp (lt-leb _ _ s, lt-leb _ _ t) (omega (arith, h))

  -- pairs that keep the rules pass, by induction over them, where none has its place before `from`
  pairs_fit_law : (id from : ℕ) (qs : List Pair) → ((q : Pair) → In q qs → PairRules g q) → ((q : Pair) → In q qs → from ≤ rank (late g id) (disc_bits g) (own id q))
      → ((q p : Pair) → Earlier q p qs → InObjectOrder g (start_zone g id) q p) → pairs_fit g id from qs ≡ true
  pairs_fit_law id from [] rules low order = refl
  pairs_fit_law id from (x ∷ xs) rules low order =
      let r = rank (late g id) (disc_bits g) (own id x) in
      simp (pair_fits_law x (rules x (inl refl)), le-leb from r (low x (inl refl)))
      (pairs_fit_law id (r + x.len) xs (λ q i. rules q (inr i))
      (λ q i. comes_after id x q (rules x (inl refl)) (order x q (inl (refl, i))))
      (λ q p i. order q p (inr i)))

pub rules_give_fits : (g : Geometry) → AcceptedGeometry g → (id : ℕ) (list : List ℕ) → ListRules g id list → list_fits g id list ≡ true
rules_give_fits g ok id list r =
    simp (lt-ltb 0 (length list) r.some, eq-eqb (length list % 2) 0 r.even)
    (pairs_fit_law g ok id 0 (pairs_from list) r.pairs (λ q i. omega arith) r.in_order)
