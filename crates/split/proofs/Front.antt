-- What is taken from the front of a list of holes: by induction on the list, with what remains falling by each whole hole.
use mathlib.Core.Path.{◌≡◌, refl, sym, ap, ap₂, ◌∙◌}
use mathlib.Core.List.{List, [], ◌∷◌, ◌++◌}
use mathlib.Core.Option.{Option, none, some}
use mathlib.Core.Logic.{inl, inr}
use Prim.Native.Nat.{ℕ, ◌+◌, ◌-◌, ◌<◌, ◌≤◌, max}
use native.Mathlib.Omega.{arith}
use lib.Dec.{eqb, ltb, leb}
use borrow.Author.Tests.{eqb-true, eqb-false, eq-eqb, ne_eqb, leb-true, leb-false, le-leb, ltb-false}
use Rattle.bits.proofs.Tests.{by_test}
use Rattle.model.specs.Chain.{Pair, before}
use Rattle.model.proofs.Options.{none_some, some_some}
use Rattle.split.specs.Taken.{total, cut_bits, cut, take_from}
use Rattle.split.specs.Laws.{FrontTaken, CutFits}

before_none : (h : Pair) (o : Option (List Pair)) → before h o ≡ none → o ≡ none
before_none h none e = refl
before_none h (some l) e = absurd (none_some (sym e))

before_some : (h : Pair) (o : Option (List Pair)) (qs : List Pair) → before h o ≡ some qs → (r : List Pair) × (o ≡ some r) × (qs ≡ h ∷ r)
before_some h none qs e = absurd (none_some e)
before_some h (some l) qs e = (l, refl, sym (some_some e))

-- a hole no longer than what remains is taken whole, also where it is the last one
whole_bits : (m r n : ℕ) → n ≤ r → cut_bits m r n ≡ n
whole_bits m r n k =
    by_test (ltb n (max r m + m))
    (λ t. simp t)
    (λ t. let j : max r m + m ≤ n = ltb-false n (max r m + m) t in simp t (omega arith))

pub cut_whole : (m r : ℕ) (h : Pair) → h.len ≤ r → cut m r h ≡ h
cut_whole m r h k = let e = whole_bits m r h.len k in λ i. record { start = h.start; len = e i }

pub cut_fits : (m r n : ℕ) → m ≤ n → r ≤ n → CutFits m r n
cut_fits m r n k j =
    by_test (ltb n (max r m + m))
    (λ t. record { enough = simp t j; long = simp t k; left = simp t (inl refl) })
    (λ t. record { enough = simp t (omega arith); long = simp t (omega arith); left = simp t (inr (ltb-false n (max r m + m) t)) })

-- nothing remains
pub take_none : (m n : ℕ) (l : List Pair) → n ≡ 0 → take_from m n l ≡ some []
take_none m n [] z = simp (eq-eqb n 0 z)
take_none m n (x ∷ xs) z = simp (eq-eqb n 0 z)

pub too_few : (m n : ℕ) (l : List Pair) → total l < n → take_from m n l ≡ none
too_few m n [] k = simp (ne_eqb n 0 (omega arith))
too_few m n (h ∷ hs) k = simp (ne_eqb n 0 (omega arith), le-leb h.len n (omega arith), too_few m (n - h.len) hs (omega arith))

pub refused_too_few : (m n : ℕ) (l : List Pair) → take_from m n l ≡ none → total l < n
refused_too_few m n [] e =
    by_test (eqb n 0)
    (λ z. absurd (none_some (sym (simp z at e))))
    (λ z. omega (arith, eqb-false n 0 z))
refused_too_few m n (h ∷ hs) e =
    by_test (eqb n 0)
    (λ z. absurd (none_some (sym (simp z at e))))
    (λ z. by_test (leb h.len n)
    (λ t. omega (arith, leb-true h.len n t, refused_too_few m (n - h.len) hs (before_none h (take_from m (n - h.len) hs) (simp (z, t) at e))))
    (λ t. absurd (none_some (sym (simp (z, t) at e)))))

-- the front whole, and the last one
only_last : (m n : ℕ) (h : Pair) (hs qs : List Pair) → 0 < n → n ≤ h.len → qs ≡ cut m n h ∷ [] → FrontTaken m n (h ∷ hs) qs
only_last m n h hs qs p k e = record {
  whole = [];
  hole = h;
  behind = hs;
  last = cut m n h;
  holes_are = refl;
  taken_are = e;
  rest = n;
  remains = omega arith;
  some_remain = p;
  enough = k;
  last_is = refl;
}

one_more : (m n : ℕ) (h : Pair) (hs r qs : List Pair) → h.len ≤ n → qs ≡ h ∷ r → FrontTaken m (n - h.len) hs r → FrontTaken m n (h ∷ hs) qs
one_more m n h hs r qs k e f = record {
  whole = h ∷ f.whole;
  hole = f.hole;
  behind = f.behind;
  last = f.last;
  holes_are = ap (λ (x : List Pair). h ∷ x) f.holes_are;
  taken_are = e ∙ ap (λ (x : List Pair). h ∷ x) f.taken_are;
  rest = f.rest;
  remains = omega (arith, f.remains);
  some_remain = f.some_remain;
  enough = f.enough;
  last_is = f.last_is;
}

pub front_taken : (m n : ℕ) (l qs : List Pair) → 0 < n → take_from m n l ≡ some qs → FrontTaken m n l qs
front_taken m n [] qs k e = absurd (none_some (simp (ne_eqb n 0 (omega arith)) at e))
front_taken m n (h ∷ hs) qs k e =
    by_test (leb h.len n)
    (λ t. let r = before_some h (take_from m (n - h.len) hs) qs (simp (ne_eqb n 0 (omega arith), t) at e) in
    let j : h.len ≤ n = leb-true h.len n t in
    by_test (eqb (n - h.len) 0)
    (λ y. let w : n - h.len ≡ 0 = eqb-true (n - h.len) 0 y in
    let z : r.0 ≡ [] = sym (some_some (sym (take_none m (n - h.len) hs w) ∙ r.1)) in
    only_last m n h hs qs k (omega arith) (r.2 ∙ ap₂ (λ (x : Pair) (l : List Pair). x ∷ l) (sym (cut_whole m n h j)) z))
    (λ y. one_more m n h hs r.0 qs j r.2 (front_taken m (n - h.len) hs r.0 (omega (arith, eqb-false (n - h.len) 0 y)) r.1)))
    (λ t. only_last m n h hs qs k (omega (arith, leb-false h.len n t)) (sym (some_some (simp (ne_eqb n 0 (omega arith), t) at e))))

-- and back
take_front : (m n r : ℕ) (whole : List Pair) (h : Pair) (behind : List Pair) → total whole + r ≡ n → 0 < r → r ≤ h.len
    → take_from m n (whole ++ (h ∷ behind)) ≡ some (whole ++ (cut m r h ∷ []))
take_front m n r [] h behind e p k =
    let z : r ≡ n = omega arith in
    by_test (leb h.len n)
    (λ t. simp (ne_eqb n 0 (omega arith), t, take_none m (n - h.len) behind (omega arith))
    (ap (λ (x : Pair). some (x ∷ [])) (sym (cut_whole m r h (omega (arith, leb-true h.len n t))))))
    (λ t. simp (ne_eqb n 0 (omega arith), t) (ap (λ (x : ℕ). some (cut m x h ∷ [])) (sym z)))
take_front m n r (x ∷ xs) h behind e p k =
    simp (ne_eqb n 0 (omega arith), le-leb x.len n (omega arith), take_front m (n - x.len) r xs h behind (omega arith) p k)

pub taken_front : (m n : ℕ) (l qs : List Pair) → FrontTaken m n l qs → take_from m n l ≡ some qs
taken_front m n l qs f =
    ap (take_from m n) f.holes_are ∙ take_front m n f.rest f.whole f.hole f.behind f.remains f.some_remain f.enough
    ∙ ap (λ (x : Pair). some (f.whole ++ (x ∷ []))) (sym f.last_is) ∙ ap some (sym f.taken_are)
