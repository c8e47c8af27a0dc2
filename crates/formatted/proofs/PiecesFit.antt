-- The pieces that are drawn on a blank disc. First where they lie, in plain numbers: the overhang from bit o on, object 2 of t bits from the
-- middle zone's first on, object 1 from bit p on. So they lie as the request says, and an accepted map can hold them.
use mathlib.Core.Path.{◌≡◌, refl, sym, ap, ◌∙◌, subst, subst⁻¹}
use mathlib.Core.Bool.{Bool, true, cond, ◌&&◌, ◌||◌}
use mathlib.Core.List.{List, [], ◌∷◌}
use mathlib.Core.Logic.{◌⊎◌, inl, inr}
use Prim.Native.Nat.{ℕ, zero, suc, ◌+◌, ◌-◌, ◌*◌, ◌/◌, ◌%◌, ◌<◌, ◌≤◌, min, max}
use native.Mathlib.Nat.{mul-le-mul, mul-le-mul_right}
use native.Mathlib.Omega.{arith}
use lib.Bits.{bit_xor}
use lib.Dec.{eqb, ltb, leb}
use lib.ListN.{replicate, length-replicate}
use borrow.Author.Tests.{ltb-true, ltb-false, leb-true, leb-false, eqb-true, eqb-false, eq-eqb, lt-ltb, le-leb}
use Rattle.bits.proofs.Tests.{by_test, and_true, or_left}
use Rattle.checks.specs.Cross.{xor_sum}
use Rattle.geometry.specs.declared.Geometry.{Geometry}
use Rattle.geometry.specs.Accepted.{AcceptedGeometry}
use Rattle.geometry.specs.Places.{zone_of, zone_from, zone_end, disc_bits}
use Rattle.model.specs.Pieces.{Piece}
use Rattle.split.specs.Taken.{cut_bits}
use Rattle.edits.specs.Edits.{own, in_zone}
use Rattle.edits.specs.Holes.{gap_fits, apart}
use Rattle.edits.proofs.Kept.{All}
use Rattle.edits.proofs.ByPlace.{Weak}
use Rattle.edits.proofs.Gaps.{Gap, is_long, test_of_gap}
use Rattle.edits.proofs.Invariant.{in_zone_law, some_bits}
use Rattle.edits.proofs.Chosen.{need_long}
use Rattle.edits.proofs.Clusters.{sub_whole, is_whole_law, from_whole, to_whole}
use Rattle.edits.proofs.ClustersKept.{need_clusters}
use Rattle.edits.proofs.NeedRules.{need_enough, need_least}
use Rattle.edits.proofs.ObjectRules.{gap_ends_by, one_from_end, two_first, ends_by}
use Rattle.edits.proofs.PiecesKept.{AcceptedPieces}
use Rattle.edits.proofs.DiscKept.{AcceptedDisc}
use Rattle.edits.proofs.Returned.{is_whole}
use Rattle.formatted.specs.Drawn.{map_length, overhang_from, middle_bit, middle_room, copies_need, both_fit, object_two, last_from, object_one_from, object_one, blank_pieces, blank_disc}
use Rattle.formatted.specs.Laws.{HoldsCopies, PiecesLie}
use Rattle.formatted.proofs.BlankMap.{bytes_zero}

-- the overhang of a disc that ends at bit e of d, in the last zone
record OverhangLies (m from e d o : ℕ) : Type 0 where
  low : from ≤ o
  high : o ≤ d
  none : e ≡ d → o ≡ d
  over : e < d → (o ≤ e) × (o + m ≤ d)
  short : e < d → (o ≡ e) ⊎ (o + m ≡ d)

overhang_lies : (m from e d : ℕ) → from + m ≤ d → from ≤ e → e ≤ d → OverhangLies m from e d (cond (ltb e d) (min e (d - m)) d)
overhang_lies m from e d room low high = by_test (ltb e d)
    (λ t. let h = ltb-true e d t in rw t (record {
      low = omega arith;
      high = omega arith;
      none = λ k. omega arith;
      over = λ k. omega arith;
      short = λ k. by_test (leb e (d - m)) (λ u. inl (omega (arith, leb-true))) (λ u. inr (omega (arith, leb-false)));
    }))
    (λ t. let h = ltb-false e d t in rw t (record {
      low = omega arith;
      high = omega arith;
      none = λ k. refl;
      over = λ k. absurd (omega arith);
      short = λ k. absurd (omega arith);
    }))

-- object 2 of at least n bits, from bit a on up to bit b at most
record TwoLies (m n a b t : ℕ) : Type 0 where
  enough : n ≤ t
  within : a + t ≤ b
  gap : Gap m (a + t) b
  short : (t ≡ n) ⊎ ((t < n + m) × (a + t ≡ b))

two_lies : (m n a b : ℕ) → 0 < n → m ≤ n → n ≤ b - a → TwoLies m n a b (cut_bits m n (b - a))
two_lies m n a b z l h = by_test (ltb (b - a) (max n m + m))
    (λ t. let k = ltb-true (b - a) (max n m + m) t in rw t (record {
      enough = h;
      within = omega arith;
      gap = inl (omega arith);
      short = inr (omega arith);
    }))
    (λ t. let k = ltb-false (b - a) (max n m + m) t in rw t (record {
      enough = omega arith;
      within = omega arith;
      gap = inr (omega arith);
      short = inl (omega arith);
    }))

-- object 1 from bit o on, or from bit f on if less than m bits lie between
record OneLies (m f o p : ℕ) : Type 0 where
  low : f ≤ p
  high : p ≤ o
  gap : Gap m f p
  short : (p ≡ o) ⊎ ((p ≡ f) × (o < f + m))

one_lies : (m f o : ℕ) → f ≤ o → OneLies m f o (cond (ltb (o - f) m) f o)
one_lies m f o h = by_test (ltb (o - f) m)
    (λ t. let k = ltb-true (o - f) m t in rw t (record {
      low = omega arith;
      high = h;
      gap = inl refl;
      short = inr (omega arith);
    }))
    (λ t. let k = ltb-false (o - f) m t in rw t (record {
      low = h;
      high = omega arith;
      gap = inr (omega arith);
      short = inl refl;
    }))

pub min_whole : (k a b : ℕ) → a % k ≡ 0 → b % k ≡ 0 → min a b % k ≡ 0
min_whole k a b h j =
    by_test (leb a b)
    (λ t. let e : min a b ≡ a = omega (arith, leb-true) in ap (λ (x : ℕ). x % k) e ∙ h)
    (λ t. let e : min a b ≡ b = omega (arith, leb-false) in ap (λ (x : ℕ). x % k) e ∙ j)

sum_zero : (n : ℕ) → xor_sum (replicate n 0) ≡ 0
sum_zero zero = refl
sum_zero (suc n) = ap (bit_xor 0) (sum_zero n)

-- the pieces of a zone: object 1 is in the last one, if it has bits
abbrev pub NotOne : Geometry → ℕ → Type 0
NotOne g z = (z < g.zones - 1) ⊎ (object_one_from g ≡ disc_bits g)

pub data ZoneHolds (g : Geometry) (z : ℕ) : List Piece → Type 0 where
  neither : (g.zones / 2 ≡ z → ⊥) → NotOne g z → ZoneHolds g z []
  only_two : g.zones / 2 ≡ z → NotOne g z → ZoneHolds g z (own 2 (object_two g) ∷ [])
  only_one : (g.zones / 2 ≡ z → ⊥) → g.zones - 1 ≡ z → object_one_from g < disc_bits g → ZoneHolds g z (own 1 (object_one g) ∷ [])
  two_and_one : g.zones / 2 ≡ z → g.zones - 1 ≡ z → object_one_from g < disc_bits g → ZoneHolds g z (own 2 (object_two g) ∷ own 1 (object_one g) ∷ [])

module _ (g : Geometry) (ok : AcceptedGeometry g) (reached : zone_from g (g.zones - 1) ≤ g.end.0) (whole : g.end.0 % g.cluster ≡ 0) (fits : both_fit g ≡ true) where
  abbrev m : ℕ
  m = g.shortest

  abbrev last : ℕ
  last = g.zones - 1

  abbrev middle : ℕ
  middle = g.zones / 2

  abbrev t : ℕ
  t = (object_two g).len

  abbrev p : ℕ
  p = object_one_from g

  -- zones
  zone_long : (z : ℕ) → zone_from g z + m ≤ zone_end g z
  zone_long z = omega (arith, ok.bits_low)

  zone_before : (z : ℕ) → z < last → zone_end g z ≤ zone_from g last
  zone_before z h = omega (arith, mul-le-mul_right {m = suc z} {n = last} g.bits h)

  last_ends : zone_end g last ≡ disc_bits g
  last_ends = let e : suc last ≡ g.zones = omega (arith, ok.zones_low) in ap (λ (n : ℕ). n * g.bits - 480) e

  -- the middle zone comes before the last one, or is it
  middle_or_last : (middle < last) ⊎ (middle ≡ last)
  middle_or_last = by_test (ltb middle last) (λ u. inl (ltb-true middle last u)) (λ u. inr (omega (arith, ok.zones_low, ltb-false middle last u)))

  middle_is_last : middle ≡ last → (middle_bit g ≡ zone_from g last) × (zone_end g middle ≡ disc_bits g)
  middle_is_last e = (ap (zone_from g) e, ap (zone_end g) e ∙ last_ends)

  over : OverhangLies m (zone_from g last) g.end.0 (disc_bits g) (overhang_from g)
  over = overhang_lies m (zone_from g last) g.end.0 (disc_bits g) (omega (arith, zone_long last, last_ends)) reached ok.end_high

  some : 0 < copies_need g
  some = omega (arith, some_bits g ok, need_long g (2 * map_length g))

  two : TwoLies m (copies_need g) (middle_bit g) (min (zone_end g middle) (overhang_from g)) t
  two = two_lies m (copies_need g) (middle_bit g) (min (zone_end g middle) (overhang_from g)) some (need_long g (2 * map_length g)) (leb-true (copies_need g) (middle_room g) fits)

  one : OneLies m (last_from g) (overhang_from g) p
  one = one_lies m (last_from g) (overhang_from g) (omega (arith, over.low, two.within))

  two_long : m ≤ t
  two_long = omega (arith, two.enough, need_long g (2 * map_length g))

  two_in_zone : middle_bit g + t ≤ zone_end g middle
  two_in_zone = omega (arith, two.within)

  two_before_one : middle_bit g + t ≤ p
  two_before_one = omega (arith, one.low)

  one_in_zone : (zone_from g last ≤ p) × (p ≤ disc_bits g)
  one_in_zone = omega (arith, one.low, one.high, over.high)

  one_over : g.end.0 < disc_bits g → (p ≤ g.end.0) × (p + m ≤ disc_bits g)
  one_over h = let k = over.over h in omega (arith, one.high)

  last_from_law : middle ≡ last → last_from g ≡ middle_bit g + t
  last_from_law h = omega (arith, (middle_is_last h).0)

  up_to : middle ≡ last → min (zone_end g middle) (overhang_from g) ≡ overhang_from g
  up_to h = omega (arith, (middle_is_last h).1, over.high)

  -- the gaps after object 2 and before object 1, in two zones or in one
  two_gaps : middle < last → Gap m (middle_bit g + t) (zone_end g middle) × Gap m (zone_from g last) p
  two_gaps h =
      let b = zone_before middle h in
      let e : min (zone_end g middle) (overhang_from g) ≡ zone_end g middle = omega (arith, over.low) in
      let f : last_from g ≡ zone_from g last = omega (arith, two_in_zone) in
      (subst (Gap m (middle_bit g + t)) e two.gap, subst (λ (x : ℕ). Gap m x p) f one.gap)

  one_gap : middle ≡ last → Gap m (middle_bit g + t) p
  one_gap h = subst (λ (x : ℕ). Gap m x p) (last_from_law h) one.gap

  -- object 1 starts with the overhang, but for a short stretch in a zone without object 2
  abbrev OneStarts : Type 0
  OneStarts = (p ≡ overhang_from g) ⊎ ((p ≡ zone_from g last) × (middle < last) × (overhang_from g < zone_from g last + m))

  one_starts : OneStarts
  one_starts = go middle_or_last one.short two.gap
    where
      no_part : (f x o : ℕ) → f ≡ x → o < f + m → Gap m x o → f ≡ o
      no_part f x o e h (inl k) = e ∙ k
      no_part f x o e h (inr k) = absurd (omega (arith, e, h, k))

      go : (middle < last) ⊎ (middle ≡ last) → (p ≡ overhang_from g) ⊎ ((p ≡ last_from g) × (overhang_from g < last_from g + m))
          → Gap m (middle_bit g + t) (min (zone_end g middle) (overhang_from g)) → OneStarts
      go c (inl e) k = inl e
      go (inl h) (inr e) k =
          let f : last_from g ≡ zone_from g last = omega (arith, two_in_zone, zone_before middle h) in
          inr (e.0 ∙ f, h, omega arith)
      go (inr h) (inr e) k = inl (e.0 ∙ no_part (last_from g) (middle_bit g + t) (overhang_from g) (last_from_law h) e.1 (subst (Gap m (middle_bit g + t)) (up_to h) k))

  one_none : g.end.0 ≡ disc_bits g → p ≡ disc_bits g
  one_none e = go one_starts
    where
      go : OneStarts → p ≡ disc_bits g
      go (inl h) = h ∙ over.none e
      go (inr h) = absurd (omega (arith, over.none e, zone_long last, last_ends, h))

  -- in whole clusters
  over_whole : overhang_from g % g.cluster ≡ 0
  over_whole = by_test (ltb g.end.0 (disc_bits g))
      (λ u. rw u (min_whole g.cluster g.end.0 (disc_bits g - m) whole (sub_whole g.cluster (disc_bits g) m (from_whole g ok g.zones) ok.shortest_clusters)))
      (λ u. rw u (from_whole g ok g.zones))

  two_whole : t % g.cluster ≡ 0
  two_whole = go two.short
    where
      end : ℕ
      end = min (zone_end g middle) (overhang_from g)

      go : (t ≡ copies_need g) ⊎ ((t < copies_need g + m) × (middle_bit g + t ≡ end)) → t % g.cluster ≡ 0
      go (inl e) = ap (λ (x : ℕ). x % g.cluster) e ∙ need_clusters g ok (2 * map_length g)
      go (inr e) =
          let f : t ≡ end - middle_bit g = omega (arith, e.1) in
          ap (λ (x : ℕ). x % g.cluster) f
          ∙ sub_whole g.cluster end (middle_bit g) (min_whole g.cluster (zone_end g middle) (overhang_from g) (to_whole g ok middle) over_whole) (from_whole g ok middle)

  one_whole : p % g.cluster ≡ 0
  one_whole = go one_starts
    where
      go : OneStarts → p % g.cluster ≡ 0
      go (inl e) = ap (λ (x : ℕ). x % g.cluster) e ∙ over_whole
      go (inr e) = ap (λ (x : ℕ). x % g.cluster) e.0 ∙ from_whole g ok last

  two_copies : 2 * map_length g ≤ t * g.unit
  two_copies = omega (arith, need_enough g ok (2 * map_length g), mul-le-mul_right g.unit two.enough)

  two_short : (n : ℕ) → HoldsCopies g n → (t ≤ n) ⊎ ((t < n + m) × ((middle_bit g + t ≡ zone_end g middle) ⊎ (middle_bit g + t ≡ p)))
  two_short n h = go two.short (need_least g ok (2 * map_length g) n h.long h.clusters h.copies)
    where
      ends : middle_bit g + t ≡ min (zone_end g middle) (overhang_from g) → (middle_bit g + t ≡ zone_end g middle) ⊎ (middle_bit g + t ≡ p)
      ends e =
          by_test (leb (zone_end g middle) (overhang_from g))
          (λ u. let k : min (zone_end g middle) (overhang_from g) ≡ zone_end g middle = omega (arith, leb-true) in inl (e ∙ k))
          (λ u. let k : min (zone_end g middle) (overhang_from g) ≡ overhang_from g = omega (arith, leb-false) in inr (squeezed (e ∙ k) two_before_one one.high))
        where
          squeezed : {a b c : ℕ} → a ≡ c → a ≤ b → b ≤ c → a ≡ b
          squeezed e l h = omega arith

      go : (t ≡ copies_need g) ⊎ ((t < copies_need g + m) × (middle_bit g + t ≡ min (zone_end g middle) (overhang_from g))) → copies_need g ≤ n
          → (t ≤ n) ⊎ ((t < n + m) × ((middle_bit g + t ≡ zone_end g middle) ⊎ (middle_bit g + t ≡ p)))
      go (inl e) l = inl (subst⁻¹ (λ (x : ℕ). x ≤ n) e l)
      go (inr e) l = inr (omega (arith, e.0, l), ends e.1)

  one_short : g.end.0 < disc_bits g → (p ≡ g.end.0) ⊎ (disc_bits g - p ≡ m)
      ⊎ ((p ≡ zone_from g last) × (middle < last) × ((g.end.0 < p + m) ⊎ (disc_bits g - p < 2 * m)))
  one_short h = go one_starts (over.short h)
    where
      go : OneStarts → (overhang_from g ≡ g.end.0) ⊎ (overhang_from g + m ≡ disc_bits g)
          → (p ≡ g.end.0) ⊎ (disc_bits g - p ≡ m) ⊎ ((p ≡ zone_from g last) × (middle < last) × ((g.end.0 < p + m) ⊎ (disc_bits g - p < 2 * m)))
      go (inl e) (inl k) = inl (e ∙ k)
      go (inl e) (inr k) = inr (inl (left e k))
        where
          left : {p o d : ℕ} → p ≡ o → o + m ≡ d → d - p ≡ m
          left e k = omega arith
      go (inr e) (inl k) = inr (inr (e.0, e.1, inl (near e.0 e.2 k)))
        where
          near : {p o f e : ℕ} → p ≡ f → o < f + m → o ≡ e → e < p + m
          near e l k = omega arith
      go (inr e) (inr k) = inr (inr (e.0, e.1, inr (few e.0 e.2 k)))
        where
          few : {p o f d : ℕ} → p ≡ f → o < f + m → o + m ≡ d → d - p < 2 * m
          few e l k = omega arith

  pub pieces_lie : PiecesLie g (object_two g) (object_one g)
  pieces_lie = record {
    two_starts = refl;
    two_holds = record { long = two_long; clusters = two_whole; copies = two_copies };
    two_short = two_short;
    one_ends = omega (arith, one_in_zone);
    none_over = λ e. omega (arith, one_none e);
    over = λ h. omega (arith, one_over h);
    one_short = one_short;
  }

  -- which zones they are in
  zone_of_two : zone_of g (middle_bit g) ≡ middle
  zone_of_two = in_zone_law g middle (middle_bit g) (omega arith) (omega (arith, some_bits g ok, two_long, two_in_zone))

  zone_of_one : p < disc_bits g → zone_of g p ≡ last
  zone_of_one h = in_zone_law g last p one_in_zone.0 (omega (arith, last_ends, h))

  pub zone_holds : (z : ℕ) → z < g.zones → ZoneHolds g z (in_zone g z (blank_pieces g))
  zone_holds z h = by_test (ltb 0 (disc_bits g - p))
      (λ u. let some : p < disc_bits g = omega (arith, ltb-true 0 (disc_bits g - p) u) in by_test (eqb last z)
      (λ v. let e = eqb-true last z v in by_test (eqb middle z)
      (λ w. simp (zone_of_two, zone_of_one some, u, v, w) (two_and_one (eqb-true middle z w) e some))
      (λ w. simp (zone_of_two, zone_of_one some, u, v, w) (only_one (eqb-false middle z w) e some)))
      (λ v. let less : z < last = omega (arith, eqb-false last z v) in by_test (eqb middle z)
      (λ w. simp (zone_of_two, zone_of_one some, u, v, w) (only_two (eqb-true middle z w) (inl less)))
      (λ w. simp (zone_of_two, zone_of_one some, u, v, w) (neither (eqb-false middle z w) (inl less)))))
      (λ u. let none : p ≡ disc_bits g = omega (arith, one_in_zone.1, ltb-false 0 (disc_bits g - p) u) in by_test (eqb middle z)
      (λ w. simp (zone_of_two, u, w) (only_two (eqb-true middle z w) (inr none)))
      (λ w. simp (zone_of_two, u, w) (neither (eqb-false middle z w) (inr none))))

  -- object 1 is there if there is an overhang
  over_of_one : p < disc_bits g → g.end.0 < disc_bits g
  over_of_one s =
      by_test (ltb g.end.0 (disc_bits g)) (λ u. ltb-true g.end.0 (disc_bits g) u)
      (λ u. let e : g.end.0 ≡ disc_bits g = omega (arith, ltb-false g.end.0 (disc_bits g) u, ok.end_high) in absurd (omega (arith, one_none e, s)))

  no_over : p ≡ disc_bits g → g.end.0 ≡ disc_bits g
  no_over e =
      by_test (ltb g.end.0 (disc_bits g))
      (λ u. let k = (one_over (ltb-true g.end.0 (disc_bits g) u)).1 in absurd (omega (arith, k, e, some_bits g ok)))
      (λ u. omega (arith, ltb-false g.end.0 (disc_bits g) u, ok.end_high))

  one_to_end : (z : ℕ) → last ≡ z → p + (disc_bits g - p) ≡ zone_end g z
  one_to_end z e = let k : p + (disc_bits g - p) ≡ disc_bits g = omega (arith, one_in_zone.1) in k ∙ sym last_ends ∙ ap (zone_end g) e

  -- a zone without object 1 ends by the disc's end
  on_disc_end : (z : ℕ) → z < g.zones → NotOne g z → zone_end g z ≤ g.end.0
  on_disc_end z h (inl k) = omega (arith, zone_before z k, reached)
  on_disc_end z h (inr k) = omega (arith, no_over k, mul-le-mul_right {m = suc z} {n = g.zones} g.bits h)

  -- no overlap, and no short hole
  apart_holds : (z : ℕ) {l : List Piece} → z < g.zones → ZoneHolds g z l → apart m (zone_from g z) (zone_end g z) l ≡ true
  apart_holds z h (neither n k) = test_of_gap m (zone_from g z) (zone_end g z) (inr (zone_long z))
  apart_holds z h (only_two e k) =
      and_true (gap_fits m (zone_from g z) (middle_bit g)) _ (test_of_gap m (zone_from g z) (middle_bit g) (inl (ap (zone_from g) (sym e))))
      (test_of_gap m (middle_bit g + t) (zone_end g z) (subst (λ (x : ℕ). Gap m (middle_bit g + t) (zone_end g x)) e (after_two (subst (NotOne g) (sym e) k))))
    where
      after_two : NotOne g middle → Gap m (middle_bit g + t) (zone_end g middle)
      after_two k = go k middle_or_last
        where
          go : NotOne g middle → (middle < last) ⊎ (middle ≡ last) → Gap m (middle_bit g + t) (zone_end g middle)
          go k (inl c) = (two_gaps c).0
          go (inl k) (inr c) = absurd (omega (arith, k, c))
          go (inr k) (inr c) = subst (Gap m (middle_bit g + t)) (k ∙ sym (middle_is_last c).1) (one_gap c)
  apart_holds z h (only_one n e s) =
      let c : middle < last = omega (arith, ok.zones_low, n, e) in
      and_true (gap_fits m (zone_from g z) p) _ (test_of_gap m (zone_from g z) p (subst (λ (x : ℕ). Gap m (zone_from g x) p) e (two_gaps c).1))
      (test_of_gap m (p + (disc_bits g - p)) (zone_end g z) (inl (one_to_end z e)))
  apart_holds z h (two_and_one e f s) =
      and_true (gap_fits m (zone_from g z) (middle_bit g)) _ (test_of_gap m (zone_from g z) (middle_bit g) (inl (ap (zone_from g) (sym e))))
      (and_true (gap_fits m (middle_bit g + t) p) _ (test_of_gap m (middle_bit g + t) p (one_gap (e ∙ sym f)))
      (test_of_gap m (p + (disc_bits g - p)) (zone_end g z) (inl (one_to_end z f))))

  -- what ends past the disc's end is object 1's
  two_on_disc : middle_bit g + t ≤ g.end.0
  two_on_disc = omega (arith, two.within, over_high)
    where
      over_high : overhang_from g ≤ g.end.0
      over_high = by_test (ltb g.end.0 (disc_bits g)) (λ u. (over.over (ltb-true g.end.0 (disc_bits g) u)).0)
          (λ u. let e : g.end.0 ≡ disc_bits g = omega (arith, ltb-false g.end.0 (disc_bits g) u, ok.end_high) in omega (arith, over.none e, e))

  one_more : (at end : ℕ) (q : Piece) (qs : List Piece) → q.at.start ≤ g.end.0 → eqb q.owner 1 || leb (q.at.start + q.at.len) g.end.0 ≡ true
      → one_from_end g.end.0 (q.at.start + q.at.len) end qs ≡ true → one_from_end g.end.0 at end (q ∷ qs) ≡ true
  one_more at end q qs l o k =
      and_true (gap_ends_by g.end.0 at q.at.start && (eqb q.owner 1 || leb (q.at.start + q.at.len) g.end.0)) _
      (and_true (gap_ends_by g.end.0 at q.at.start) _ (ends_by g.end.0 at q.at.start l) o) k

  with_two : (z : ℕ) (qs : List Piece) → one_from_end g.end.0 (middle_bit g + t) (zone_end g z) qs ≡ true
      → one_from_end g.end.0 (zone_from g z) (zone_end g z) (own 2 (object_two g) ∷ qs) ≡ true
  with_two z qs k = one_more (zone_from g z) (zone_end g z) (own 2 (object_two g)) qs (omega (arith, two_on_disc)) (le-leb (middle_bit g + t) g.end.0 two_on_disc) k

  with_one : (at z : ℕ) → last ≡ z → p < disc_bits g → one_from_end g.end.0 at (zone_end g z) (own 1 (object_one g) ∷ []) ≡ true
  with_one at z e s =
      one_more at (zone_end g z) (own 1 (object_one g)) [] (one_over (over_of_one s)).0 refl
      (or_left (eqb (p + (disc_bits g - p)) (zone_end g z)) _ (eq-eqb (p + (disc_bits g - p)) (zone_end g z) (one_to_end z e)))

  one_holds : (z : ℕ) {l : List Piece} → z < g.zones → ZoneHolds g z l → one_from_end g.end.0 (zone_from g z) (zone_end g z) l ≡ true
  one_holds z h (neither n k) = ends_by g.end.0 (zone_from g z) (zone_end g z) (on_disc_end z h k)
  one_holds z h (only_two e k) = with_two z [] (ends_by g.end.0 (middle_bit g + t) (zone_end g z) (on_disc_end z h k))
  one_holds z h (only_one n e s) = with_one (zone_from g z) z e s
  one_holds z h (two_and_one e f s) = with_two z (own 1 (object_one g) ∷ []) (with_one (middle_bit g + t) z f s)

  two_holds : (z : ℕ) {l : List Piece} → middle ≡ z → ZoneHolds g z l → two_first (middle_bit g) l ≡ true
  two_holds z h (neither n k) = absurd (n h)
  two_holds z h (only_two e k) = and_true (eqb (middle_bit g) (middle_bit g)) true (eq-eqb (middle_bit g) (middle_bit g) refl) refl
  two_holds z h (only_one n e s) = absurd (n h)
  two_holds z h (two_and_one e f s) = and_true (eqb (middle_bit g) (middle_bit g)) true (eq-eqb (middle_bit g) (middle_bit g) refl) refl

  -- an accepted map can hold them
  if_any : (u : Piece → Bool) → u (own 2 (object_two g)) ≡ true → (p < disc_bits g → u (own 1 (object_one g)) ≡ true) → All u (blank_pieces g)
  if_any u h k = by_test (ltb 0 (disc_bits g - p)) (λ v. simp v (h, (k (omega (arith, ltb-true 0 (disc_bits g - p) v)), tt))) (λ v. simp v (h, tt))

  ids : 25 * 1 ≤ g.ids * g.zones
  ids = mul-le-mul ok.ids_low ok.zones_low

  weak : Weak 0 (blank_pieces g)
  weak = by_test (ltb 0 (disc_bits g - p)) (λ v. simp v (omega arith, (omega (arith, two_before_one), tt))) (λ v. simp v (omega arith, tt))

  accepted : AcceptedPieces g (blank_pieces g)
  accepted = record {
    fit = record {
      weak = weak;
      long = if_any (is_long m) (le-leb m t two_long) (λ s. le-leb m (disc_bits g - p) (omega (arith, (one_over (over_of_one s)).1)));
      zoned = if_any (λ q. ltb (zone_of g q.at.start) g.zones) (lt-ltb (zone_of g (middle_bit g)) g.zones (omega (arith, zone_of_two, ok.zones_low)))
          (λ s. lt-ltb (zone_of g p) g.zones (omega (arith, zone_of_one s, ok.zones_low)));
      named = if_any (λ q. ltb q.owner (g.ids * g.zones)) (lt-ltb 2 (g.ids * g.zones) (omega (arith, ids))) (λ s. lt-ltb 1 (g.ids * g.zones) (omega (arith, ids)));
      parts = λ z h. apart_holds z h (zone_holds z h);
    };
    objects = record {
      one = λ z h. one_holds z h (zone_holds z h);
      two = two_holds middle refl (zone_holds middle (omega (arith, ok.zones_low)));
    };
    clusters = if_any (is_whole g.cluster) (is_whole_law g.cluster (own 2 (object_two g)) (from_whole g ok middle) two_whole)
        (λ s. is_whole_law g.cluster (own 1 (object_one g)) one_whole (sub_whole g.cluster (disc_bits g) p (from_whole g ok g.zones) one_whole));
    numbered = if_any (λ q. leb 1 q.owner) refl (λ s. refl);
  }

  pub blank_accepted : AcceptedDisc g (blank_disc g)
  blank_accepted = record {
    pieces = accepted;
    count = omega (arith, length-replicate {A = ℕ} last 0, ok.zones_low);
    sum = ap (bit_xor 255) (sum_zero last);
    bytes = (omega arith, bytes_zero last);
  }
