-- A list that fits falls into two parts: the pairs from a start zone on, ascending, then those of the zones before it, ascending.
-- Once a pair is counted on round the end of the disc, no pair from the start zone on can follow it. The first pair's zone will do
-- for the start zone: no pair from the object's start zone on lies before it.
use mathlib.Core.Path.{◌≡◌, refl, sym, ap, subst}
use mathlib.Core.Bool.{true, ◌&&◌}
use mathlib.Core.List.{List, [], ◌∷◌, ◌++◌, append-nil}
use Prim.Native.Nat.{ℕ, ◌+◌, ◌<◌, ◌≤◌}
use native.Mathlib.Nat.{div-mul-le_self, div-lt_iff_lt-mul, le-div_iff_mul-le}
use native.Mathlib.Omega.{arith}
use lib.Dec.{ltb, leb}
use borrow.Author.Tests.{lt-ltb, ltb-true, ltb-false, le-leb, lt-leb, leb-true}
use Rattle.bits.proofs.Tests.{by_test, both, and_true}
use Rattle.geometry.specs.declared.Geometry.{Geometry}
use Rattle.geometry.specs.Accepted.{AcceptedGeometry}
use Rattle.geometry.specs.Places.{zone_of, zone_from, disc_bits}
use Rattle.model.specs.Chain.{Pair}
use Rattle.edits.specs.Judge.{pair_fits}
use Rattle.edits.proofs.Invariant.{pair_tested, some_zone, some_bits}
use Rattle.writer.specs.Parts.{order_place, fits_from, leading, Rising, Before}
use Rattle.writer.proofs.ZoneParts.{before_higher, zones_ordered}

-- the two parts, where the first of them starts from bit f on
pub record Cut (g : Geometry) (start f : ℕ) (qs : List Pair) : Type 0 where
  pub lates : List Pair
  pub earlies : List Pair
  pub whole : qs ≡ lates ++ earlies
  pub late : Rising g f lates
  pub early : Rising g 0 earlies
  pub before : Before (zone_from g start) earlies

-- the first part is what leads
pub leads : (g : Geometry) → AcceptedGeometry g → (low at : ℕ) (ls es : List Pair) → Rising g at ls → low ≤ at → Before low es → leading low (disc_bits g) (ls ++ es) ≡ ls
leads g ok low at [] [] r h b = refl
leads g ok low at [] (q ∷ es) r h b = simp (lt-leb low q.start b.0)
leads g ok low at (q ∷ ls) es r h b =
    let k = pair_tested g q r.1 in
    simp (le-leb low q.start (omega (arith, r.0)), lt-ltb q.start (disc_bits g) (omega (arith, k.below, k.size, some_bits g ok)))
    (ap (λ (x : List Pair). q ∷ x) (leads g ok low (q.start + q.len) ls es r.2 (omega (arith, r.0)) b))

module _ (g : Geometry) (ok : AcceptedGeometry g) (start : ℕ) where
  late_order : (d : ℕ) → zone_from g start ≤ d → order_place g start d ≡ d
  late_order d h =
      let k : start ≤ zone_of g d = (le-div_iff_mul-le (some_zone g ok)).1 (omega arith) in
      rw (le-leb start (zone_of g d) k)

  early_order : (d : ℕ) → d < zone_from g start → order_place g start d ≡ disc_bits g + d
  early_order d h =
      let k : zone_of g d < start = (div-lt_iff_lt-mul (some_zone g ok)).1 (omega arith) in
      rw (lt-leb start (zone_of g d) k)

  -- after a pair before the start zone
  early_rest : (f : ℕ) (qs : List Pair) → fits_from g start (disc_bits g + f) qs ≡ true → Rising g f qs × Before (zone_from g start) qs
  early_rest f [] h = (tt, tt)
  early_rest f (q ∷ qs) h =
      let a = both (pair_fits g q && leb (disc_bits g + f) (order_place g start q.start)) (fits_from g start (order_place g start q.start + q.len) qs) h in
      let b = both (pair_fits g q) (leb (disc_bits g + f) (order_place g start q.start)) a.0 in
      let k = pair_tested g q b.0 in
      let l = leb-true (disc_bits g + f) (order_place g start q.start) b.1 in
      by_test (ltb q.start (zone_from g start))
      (λ t. let e = early_order q.start (ltb-true q.start (zone_from g start) t) in
      let s : order_place g start q.start + q.len ≡ disc_bits g + (q.start + q.len) = omega (arith, e) in
      let r = early_rest (q.start + q.len) qs (subst (λ (x : ℕ). fits_from g start x qs ≡ true) s a.1) in
      ((omega (arith, e, l), b.0, r.0), (ltb-true q.start (zone_from g start) t, r.1)))
      (λ t. let e = late_order q.start (ltb-false q.start (zone_from g start) t) in absurd (omega (arith, e, l, k.below, k.size, some_bits g ok)))

  -- a pair from the start zone on, and what comes after it
  goes_on : (f : ℕ) (q : Pair) (qs : List Pair) → fits_from g start f (q ∷ qs) ≡ true → zone_from g start ≤ q.start
      → (f ≤ q.start) × (pair_fits g q ≡ true) × (fits_from g start (q.start + q.len) qs ≡ true)
  goes_on f q qs h d =
      let at = order_place g start q.start in
      let a = both (pair_fits g q && leb f at) (fits_from g start (at + q.len) qs) h in
      let b = both (pair_fits g q) (leb f at) a.0 in
      let e = late_order q.start d in
      (omega (arith, e, leb-true f at b.1), b.0, subst (λ (x : ℕ). fits_from g start (x + q.len) qs ≡ true) e a.1)

  -- a pair before it
  stops : (f : ℕ) (q : Pair) (qs : List Pair) → fits_from g start f (q ∷ qs) ≡ true → q.start < zone_from g start → Rising g 0 (q ∷ qs) × Before (zone_from g start) (q ∷ qs)
  stops f q qs h d =
      let at = order_place g start q.start in
      let a = both (pair_fits g q && leb f at) (fits_from g start (at + q.len) qs) h in
      let b = both (pair_fits g q) (leb f at) a.0 in
      early_rest 0 (q ∷ qs) (and_true (pair_fits g q && leb (disc_bits g + 0) at) _ (and_true (pair_fits g q) _ b.0 (le-leb (disc_bits g + 0) at (omega (arith, early_order q.start d)))) a.1)

  cut : (f : ℕ) (qs : List Pair) → fits_from g start f qs ≡ true → Cut g start f qs
  cut f [] h = record { lates = []; earlies = []; whole = refl; late = tt; early = tt; before = tt }
  cut f (q ∷ qs) h =
      by_test (ltb q.start (zone_from g start))
      (λ t. let r = stops f q qs h (ltb-true q.start (zone_from g start) t) in record { lates = []; earlies = q ∷ qs; whole = refl; late = tt; early = r.0; before = r.1 })
      (λ t. let r = goes_on f q qs h (ltb-false q.start (zone_from g start) t) in
      let c = cut (q.start + q.len) qs r.2 in
      record { lates = q ∷ c.lates; earlies = c.earlies; whole = ap (λ (x : List Pair). q ∷ x) c.whole; late = (r.0, r.1, c.late); early = c.early; before = c.before })

  pub cut_there : (q : Pair) (qs : List Pair) → fits_from g start 0 (q ∷ qs) ≡ true → Cut g (zone_of g q.start) (zone_from g (zone_of g q.start)) (q ∷ qs)
  cut_there q qs h =
      let t = zone_of g q.start in
      let low : zone_from g t ≤ q.start = omega (arith, div-mul-le_self (q.start + 480) g.bits) in
      by_test (ltb q.start (zone_from g start))
      (λ u. let r = (stops 0 q qs h (ltb-true q.start (zone_from g start) u)).0 in
      record { lates = q ∷ qs; earlies = []; whole = sym (append-nil (q ∷ qs)); late = (low, r.1, r.2); early = tt; before = tt })
      (λ u. let d = ltb-false q.start (zone_from g start) u in
      let r = goes_on 0 q qs h d in
      let c = cut (q.start + q.len) qs r.2 in
      let k : start ≤ t = (le-div_iff_mul-le (some_zone g ok)).1 (omega arith) in
      record {
        lates = q ∷ c.lates;
        earlies = c.earlies;
        whole = ap (λ (x : List Pair). q ∷ x) c.whole;
        late = (low, r.1, c.late);
        early = c.early;
        before = before_higher (zone_from g start) (zone_from g t) c.earlies (zones_ordered g start t k) c.before;
      })
