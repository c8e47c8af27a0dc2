-- A stretch swept by the pairs of one part, and then by those of the next, is swept by all: a fill over a fill is the same fill.
-- The counts of the pairs one by one add up.
use mathlib.Core.Path.{◌≡◌, refl, sym, ap, ap₂, ◌∙◌, subst⁻¹}
use mathlib.Core.Bool.{Bool, true, false, cond, ◌||◌, false≢true}
use mathlib.Core.List.{List, [], ◌∷◌, ◌++◌, append-nil, append_assoc}
use Prim.Native.Nat.{ℕ, zero, suc, ◌+◌, ◌<◌, ◌≤◌}
use native.Mathlib.Omega.{arith}
use lib.ListN.{length}
use Rattle.bits.proofs.Tests.{by_test}
use Rattle.model.specs.Chain.{Pair}
use Rattle.sweep.specs.declared.Stretch.{Stretch}
use Rattle.sweep.specs.Sweep.{in_pair, covers, swept_bytes, covered_count, pair_counts}
use Rattle.sweep.specs.Stretch.{StretchSwept}

covered_by_either : (x y : Bool) (fill b : ℕ) → cond (x || y) fill b ≡ cond y fill (cond x fill b)
covered_by_either true true fill b = refl
covered_by_either true false fill b = refl
covered_by_either false y fill b = refl

or_assoc : (x y z : Bool) → (x || y) || z ≡ x || (y || z)
or_assoc true y z = refl
or_assoc false y z = refl

neither : (x y : Bool) → (x || y) ≡ false → ((x || false) ≡ false) × (y ≡ false)
neither true y e = absurd (false≢true (sym e))
neither false y e = (refl, e)

module _ (unit : ℕ) where
  covers_append : (ps qs : List Pair) (a : ℕ) → covers unit (ps ++ qs) a ≡ covers unit ps a || covers unit qs a
  covers_append [] qs a = refl
  covers_append (p ∷ ps) qs a = ap (λ (x : Bool). in_pair unit p a || x) (covers_append ps qs a) ∙ sym (or_assoc (in_pair unit p a) (covers unit ps a) (covers unit qs a))

  pub swept_length : (qs : List Pair) (fill a : ℕ) (image : List ℕ) → length (swept_bytes unit qs fill a image) ≡ length image
  swept_length qs fill a [] = refl
  swept_length qs fill a (b ∷ bs) = ap suc (swept_length qs fill (suc a) bs)

  swept_append : (ps qs : List Pair) (fill a : ℕ) (image : List ℕ) → swept_bytes unit (ps ++ qs) fill a image ≡ swept_bytes unit qs fill a (swept_bytes unit ps fill a image)
  swept_append ps qs fill a [] = refl
  swept_append ps qs fill a (b ∷ bs) =
      ap₂ (λ (x : ℕ) (r : List ℕ). x ∷ r)
      (ap (λ (x : Bool). cond x fill b) (covers_append ps qs a) ∙ covered_by_either (covers unit ps a) (covers unit qs a) fill b)
      (swept_append ps qs fill (suc a) bs)

  -- counts
  pub count_most : (qs : List Pair) (a n : ℕ) → covered_count unit qs a n ≤ n
  count_most qs a zero = omega arith
  count_most qs a (suc n) =
      by_test (covers unit qs a)
      (λ t. rw t (omega (arith, count_most qs (suc a) n)))
      (λ t. rw t (omega (arith, count_most qs (suc a) n)))

  pub counts_append : (ps qs : List Pair) (a n : ℕ) → pair_counts unit (ps ++ qs) a n ≡ pair_counts unit ps a n + pair_counts unit qs a n
  counts_append [] qs a n = omega arith
  counts_append (p ∷ ps) qs a n = omega (arith, counts_append ps qs a n)

  -- no address of a stretch is covered
  abbrev pub Misses : List Pair → ℕ → ℕ → Type 0
  Misses qs a n = (x : ℕ) → a ≤ x → x < a + n → covers unit qs x ≡ false

  swept_nothing : (qs : List Pair) (fill a : ℕ) (image : List ℕ) → Misses qs a (length image) → swept_bytes unit qs fill a image ≡ image
  swept_nothing qs fill a [] h = refl
  swept_nothing qs fill a (b ∷ bs) h =
      rw (h a (omega arith) (omega arith)) (ap (λ (r : List ℕ). b ∷ r) (swept_nothing qs fill (suc a) bs (λ x l u. h x (omega arith) (omega arith))))

  pub counted_nothing : (qs : List Pair) (a n : ℕ) → Misses qs a n → covered_count unit qs a n ≡ 0
  counted_nothing qs a zero h = refl
  counted_nothing qs a (suc n) h = rw (h a (omega arith) (omega arith)) (omega (arith, counted_nothing qs (suc a) n (λ x l u. h x (omega arith) (omega arith))))

  counts_nothing : (qs : List Pair) (a n : ℕ) → Misses qs a n → pair_counts unit qs a n ≡ 0
  counts_nothing [] a n h = refl
  counts_nothing (q ∷ qs) a n h =
      let each = λ (x : ℕ) (l : a ≤ x) (u : x < a + n). neither (in_pair unit q x) (covers unit qs x) (h x l u) in
      omega (arith, counted_nothing (q ∷ []) a n (λ x l u. (each x l u).0), counts_nothing qs a n (λ x l u. (each x l u).1))

-- a stretch that some pairs miss, and one that is swept by some pairs and then by others
pub swept_past : {unit : ℕ} {qs : List Pair} (s : Stretch) → Misses unit qs s.first (length s.image.now) → StretchSwept unit qs s 0 s
swept_past {unit} {qs} s h = record {
  bytes = sym (swept_nothing unit qs s.fill s.first s.image.now h);
  count = sym (counts_nothing unit qs s.first (length s.image.now) h);
  image = refl;
  first = refl;
  fill = refl;
}

pub same_length : {unit : ℕ} {qs : List Pair} {s t : Stretch} {n : ℕ} → StretchSwept unit qs s n t → length t.image.now ≡ length s.image.now
same_length {unit} {qs} {s} p = ap length p.bytes ∙ swept_length unit qs s.fill s.first s.image.now

pub swept_then : {unit : ℕ} {ps qs : List Pair} {s t u : Stretch} {m n : ℕ} → StretchSwept unit ps s m t → StretchSwept unit qs t n u → StretchSwept unit (ps ++ qs) s (m + n) u
swept_then {unit} {ps} {qs} {s} p q = record {
  bytes =
      q.bytes ∙ (λ i. swept_bytes unit qs (p.fill i) (p.first i) (p.bytes i))
      ∙ sym (swept_append unit ps qs s.fill s.first s.image.now);
  count =
      ap₂ (λ (x y : ℕ). x + y) p.count (q.count ∙ ap₂ (pair_counts unit qs) p.first (same_length p))
      ∙ sym (counts_append unit ps qs s.first (length s.image.now));
  image = q.image ∙ p.image;
  first = q.first ∙ p.first;
  fill = q.fill ∙ p.fill;
}

-- a walk along the pairs `whole`: those of `done` are swept, and `rest` is to come
pub record SweptSoFar (unit : ℕ) (whole rest : List Pair) (s : Stretch) (count : ℕ) (t : Stretch) : Type 0 where
  pub done : List Pair
  pub parts : whole ≡ done ++ rest
  pub swept : StretchSwept unit done s count t

pub starts : {unit : ℕ} {whole rest : List Pair} (s : Stretch) → rest ≡ whole → SweptSoFar unit whole rest s 0 s
starts s e = record { done = []; parts = sym e; swept = swept_past s (λ x l u. refl) }

pub ends : {unit : ℕ} {whole rest : List Pair} {s t : Stretch} {count : ℕ} → SweptSoFar unit whole rest s count t → rest ≡ [] → StretchSwept unit whole s count t
ends {unit} {s = s} {t} {count} w e =
    subst⁻¹ (λ (x : List Pair). StretchSwept unit x s count t) (w.parts ∙ ap (λ (x : List Pair). w.done ++ x) e ∙ append-nil w.done) w.swept

pub goes_on : {unit : ℕ} {whole rest : List Pair} {s t u : Stretch} {count n : ℕ} (this others : List Pair) → SweptSoFar unit whole rest s count t
    → rest ≡ this ++ others → StretchSwept unit this t n u → SweptSoFar unit whole others s (count + n) u
goes_on this others w e p = record {
  done = w.done ++ this;
  parts = w.parts ∙ ap (λ (x : List Pair). w.done ++ x) e ∙ sym (append_assoc w.done this others);
  swept = swept_then w.swept p;
}
