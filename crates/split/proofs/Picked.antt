-- Both forms take the same holes: on the sorted list what is taken is what is picked, and picking does not mind the sorting.
use mathlib.Core.Path.{◌≡◌, refl, sym, ap, ◌∙◌, subst}
use mathlib.Core.List.{List, [], ◌∷◌}
use mathlib.Core.Option.{some}
use Prim.Native.Nat.{ℕ, suc, ◌+◌, ◌-◌, ◌<◌, ◌≤◌}
use native.Mathlib.Omega.{arith}
use lib.Dec.{eqb, ltb, leb}
use borrow.Author.Tests.{leb-true, leb-false, le-leb, lt-leb, ltb-true, ltb-false, lt-ltb, le-ltb, eqb-true, eqb-false, eq-eqb, ne_eqb}
use Rattle.bits.proofs.Tests.{by_test}
use Rattle.model.specs.Chain.{Pair}
use Rattle.split.specs.Taken.{total, put_by, leads, by_size, lower, cut, take_from, by_start}
use Rattle.split.specs.Threshold.{at_least, IsThreshold, wanted, part, rest_after, pick_from, picked}
use Rattle.split.specs.Laws.{Ascends}
use Rattle.split.proofs.Sorted.{at_least_sorted, follows_lt, Falling, falling_sorted, none_longer}
use Rattle.split.proofs.Front.{cut_whole, take_none}

-- one hole: longer than the threshold, just as long, or shorter
module _ (m t r : ℕ) (h : Pair) (hs : List Pair) where
  pub pick_longer : t < h.len → pick_from m t r (h ∷ hs) ≡ h ∷ pick_from m t r hs
  pick_longer k = simp (lt-ltb t h.len k, ne_eqb h.len t (λ e. omega arith))

  pub pick_equal : h.len ≡ t → 0 < r → pick_from m t r (h ∷ hs) ≡ cut m r h ∷ pick_from m t (r - t) hs
  pick_equal e k = simp (le-ltb t h.len (omega arith), eq-eqb h.len t e, lt-ltb 0 r k)

  pub pick_no_more : h.len ≡ t → r ≡ 0 → pick_from m t r (h ∷ hs) ≡ pick_from m t r hs
  pick_no_more e z =
      let y : r - t ≡ r = omega arith in
      simp (le-ltb t h.len (omega arith), eq-eqb h.len t e, le-ltb 0 r (omega arith)) (ap (λ (x : ℕ). pick_from m t x hs) y)

  pub pick_shorter : h.len < t → pick_from m t r (h ∷ hs) ≡ pick_from m t r hs
  pick_shorter k = simp (le-ltb t h.len (omega arith), ne_eqb h.len t (λ e. omega arith))

-- nothing is left to take
pick_none : (m t b : ℕ) (l : List Pair) → b ≤ t → Falling b l → pick_from m t 0 l ≡ []
pick_none m t b [] k f = refl
pick_none m t b (x ∷ xs) k f =
    let ih = pick_none m t x.len xs (omega (arith, f.0)) f.1 in
    by_test (eqb x.len t)
    (λ e. pick_no_more m t 0 x xs (eqb-true x.len t e) refl ∙ ih)
    (λ e. pick_shorter m t 0 x xs (omega (arith, f.0, eqb-false x.len t e)) ∙ ih)

-- taken from the front is picked
take_is_pick : (m n t r b : ℕ) (l : List Pair) → Falling b l → 0 < r → n ≡ at_least (suc t) l + r → n ≤ at_least t l → take_from m n l ≡ some (pick_from m t r l)
take_is_pick m n t r b [] f p e k = absurd (omega arith)
take_is_pick m n t r b (h ∷ hs) f p e k =
    by_test (ltb t h.len)
    (λ a. let i : t < h.len = ltb-true t h.len a in
    let e2 : n ≡ h.len + at_least (suc t) hs + r = simp (le-leb (suc t) h.len (omega arith)) at e in
    let k2 : n ≤ h.len + at_least t hs = simp (le-leb t h.len (omega arith)) at k in
    simp (ne_eqb n 0 (omega arith), le-leb h.len n (omega arith), take_is_pick m (n - h.len) t r h.len hs f.1 p (omega arith) (omega arith))
    (ap some (sym (pick_longer m t r h hs i))))
    (λ a. let i : h.len ≤ t = ltb-false t h.len a in
    let e2 : n ≡ at_least (suc t) hs + r = simp (lt-leb (suc t) h.len (omega arith)) at e in
    let nr : r ≡ n = omega (arith, none_longer h.len (suc t) hs (omega arith) f.1) in
    by_test (eqb h.len t)
    (λ d. let j : h.len ≡ t = eqb-true h.len t d in
    let k2 : n ≤ h.len + at_least t hs = simp (le-leb t h.len (omega arith)) at k in
    equal j i (subst (λ (x : ℕ). x ≤ h.len + at_least t hs) (sym nr) k2) nr (take_is_pick m (n - h.len) t (r - t) h.len hs f.1))
    (λ d. absurd (let k2 : n ≤ at_least t hs = simp (lt-leb t h.len (omega (arith, eqb-false h.len t d))) at k in
    omega (arith, none_longer h.len t hs (omega (arith, eqb-false h.len t d)) f.1))))
  where
    -- of a hole just as long: the last one, or more after it
    last : h.len ≡ t → h.len ≤ t → r ≤ t → r ≡ n → take_from m n (h ∷ hs) ≡ some (cut m r h ∷ [])
    last j i c nr =
        by_test (leb h.len n)
        (λ y. simp (ne_eqb n 0 (omega arith), y, take_none m (n - h.len) hs (omega arith)) (ap (λ (x : Pair). some (x ∷ [])) (sym (cut_whole m r h (omega (arith, leb-true h.len n y))))))
        (λ y. simp (ne_eqb n 0 (omega arith), y) (ap (λ (x : ℕ). some (cut m x h ∷ [])) (sym nr)))

    Rest : Type 0
    Rest = 0 < r - t → n - h.len ≡ at_least (suc t) hs + (r - t) → n - h.len ≤ at_least t hs → take_from m (n - h.len) hs ≡ some (pick_from m t (r - t) hs)

    more : h.len ≡ t → t < r → r ≤ h.len + at_least t hs → r ≡ n → Rest → take_from m n (h ∷ hs) ≡ some (h ∷ pick_from m t (r - t) hs)
    more j c k nr rest =
        simp (ne_eqb n 0 (omega arith), le-leb h.len n (omega arith), rest (omega arith) (omega (arith, none_longer h.len (suc t) hs (omega arith) f.1)) (omega arith))

    equal : h.len ≡ t → h.len ≤ t → r ≤ h.len + at_least t hs → r ≡ n → Rest → take_from m n (h ∷ hs) ≡ some (pick_from m t r (h ∷ hs))
    equal j i k nr rest =
        by_test (leb r t)
        (λ c. let w : r - t ≡ 0 = omega (arith, leb-true r t c) in
        last j i (leb-true r t c) nr
        ∙ ap (λ (x : List Pair). some (cut m r h ∷ x)) (sym (ap (λ (x : ℕ). pick_from m t x hs) w ∙ pick_none m t h.len hs i f.1))
        ∙ ap some (sym (pick_equal m t r h hs j p)))
        (λ c. more j (leb-false r t c) k nr rest
        ∙ ap (λ (x : Pair). some (x ∷ pick_from m t (r - t) hs)) (sym (cut_whole m r h (omega (arith, leb-false r t c))))
        ∙ ap some (sym (pick_equal m t r h hs j p)))

-- stretches that start apart may be put in in either order
insert_comm : (p q : Pair) (l : List Pair) → (p.start ≡ q.start → ⊥) → put_by lower p (put_by lower q l) ≡ put_by lower q (put_by lower p l)
insert_comm p q [] n =
    by_test (ltb p.start q.start)
    (λ h. simp (h, le-ltb q.start p.start (omega (arith, ltb-true))))
    (λ h. simp (h, lt-ltb q.start p.start (omega (arith, ltb-false))))
insert_comm p q (x ∷ xs) n =
    by_test (ltb p.start x.start)
    (λ h. by_test (ltb q.start x.start)
    (λ k. by_test (ltb p.start q.start)
    (λ j. simp (h, k, j, le-ltb q.start p.start (omega (arith, ltb-true))))
    (λ j. simp (h, k, j, lt-ltb q.start p.start (omega (arith, ltb-false)))))
    (λ k. simp (h, k, le-ltb q.start p.start (omega (arith, ltb-true, ltb-false)))))
    (λ h. by_test (ltb q.start x.start)
    (λ k. simp (h, k, le-ltb p.start q.start (omega (arith, ltb-true, ltb-false))))
    (λ k. simp (h, k, insert_comm p q xs n)))

insert_first : (p : Pair) (l : List Pair) → Ascends (suc p.start) l → put_by lower p l ≡ p ∷ l
insert_first p [] a = refl
insert_first p (x ∷ xs) a = simp (lt-ltb p.start x.start (omega (arith, a.0)))

-- all start after s
abbrev Later : ℕ → List Pair → Type 0
Later s [] = Unit {0}
Later s (x ∷ xs) = (s < x.start) × Later s xs

later_ascends : (s f : ℕ) (l : List Pair) → s < f → Ascends f l → Later s l
later_ascends s f [] k a = tt
later_ascends s f (x ∷ xs) k a = (omega (arith, a.0), later_ascends s (suc x.start) xs (omega (arith, a.0)) a.1)

later_insert : (s : ℕ) (h : Pair) (l : List Pair) → s < h.start → Later s l → Later s (put_by leads h l)
later_insert s h [] k a = (k, tt)
later_insert s h (x ∷ xs) k a = by_test (leads h x) (λ t. simp t (k, a)) (λ t. simp t (a.0, later_insert s h xs k a.1))

later_sorted : (s : ℕ) (l : List Pair) → Later s l → Later s (by_size l)
later_sorted s [] a = tt
later_sorted s (x ∷ xs) a = later_insert s x (by_size xs) a.0 (later_sorted s xs a.1)

pub ascends_weaken : (a b : ℕ) (hs : List Pair) → b ≤ a → Ascends a hs → Ascends b hs
ascends_weaken a b [] k s = tt
ascends_weaken a b (h ∷ hs) k s = (omega arith, s.1)

-- what is taken of a hole starts where the hole does
part_start : (m t r : ℕ) (h : Pair) → (part m t r h).start ≡ h.start
part_start m t r h = by_test (ltb t h.len) (λ k. simp k) (λ k. simp k)

pub ascends_picked : (m t r f : ℕ) (l : List Pair) → Ascends f l → Ascends f (pick_from m t r l)
ascends_picked m t r f [] a = tt
ascends_picked m t r f (x ∷ xs) a =
    let s = part_start m t r x in
    let ih = ascends_picked m t (rest_after t r x.len) (suc x.start) xs a.1 in
    by_test (wanted t r x.len)
    (λ k. simp k (omega (arith, s, a.0), subst (λ (y : ℕ). Ascends (suc y) (pick_from m t (rest_after t r x.len) xs)) (sym s) ih))
    (λ k. simp k (ascends_weaken (suc x.start) f (pick_from m t (rest_after t r x.len) xs) (omega (arith, a.0)) ih))

-- a hole that starts before all others, put in by its size or in front
pick_insert : (m t r : ℕ) (h : Pair) (l : List Pair) → Later h.start l → by_start (pick_from m t r (put_by leads h l)) ≡ by_start (pick_from m t r (h ∷ l))
pick_insert m t r h [] a = refl
pick_insert m t r h (x ∷ xs) a =
    by_test (leads h x)
    (λ k. simp k)
    (λ k. simp k
    (by_test (ltb t x.len)
    (λ b. passes_long (ltb-true t x.len b) (pick_insert m t r h xs a.1))
    (λ b. passes_short (follows_lt h x k a.0) (ltb-false t x.len b) (pick_insert m t (rest_after t r x.len) h xs a.1))))
  where
    -- x is always taken whole, whatever is taken of h
    passes_long : t < x.len → by_start (pick_from m t r (put_by leads h xs)) ≡ by_start (pick_from m t r (h ∷ xs))
        → by_start (pick_from m t r (x ∷ put_by leads h xs)) ≡ by_start (pick_from m t r (h ∷ x ∷ xs))
    passes_long i ih =
        let after = rest_after t r h.len in
        ap by_start (pick_longer m t r x (put_by leads h xs) i) ∙ ap (put_by lower x) ih
        ∙ by_test (wanted t r h.len)
        (λ w. simp (w, pick_longer m t after x xs i)
        (insert_comm x (part m t r h) (by_start (pick_from m t after xs)) (λ e. omega (arith, part_start m t r h, a.0))))
        (λ w. simp (w, pick_longer m t after x xs i))

    -- nothing is ever taken of h
    passes_short : h.len < x.len → x.len ≤ t → by_start (pick_from m t (rest_after t r x.len) (put_by leads h xs)) ≡ by_start (pick_from m t (rest_after t r x.len) (h ∷ xs))
        → by_start (pick_from m t r (x ∷ put_by leads h xs)) ≡ by_start (pick_from m t r (h ∷ x ∷ xs))
    passes_short i j ih =
        let after = rest_after t r x.len in
        let e : by_start (pick_from m t after (put_by leads h xs)) ≡ by_start (pick_from m t after xs) = ih ∙ ap by_start (pick_shorter m t after h xs (omega arith)) in
        by_test (wanted t r x.len) (λ w. simp w (ap (put_by lower (part m t r x)) e)) (λ w. simp w e)
        ∙ ap by_start (sym (pick_shorter m t r h (x ∷ xs) (omega arith)))

-- picked of the holes sorted, and of the holes as they stand
pick_sorted : (m t r f : ℕ) (l : List Pair) → Ascends f l → by_start (pick_from m t r (by_size l)) ≡ pick_from m t r l
pick_sorted m t r f [] a = refl
pick_sorted m t r f (h ∷ hs) a =
    let after = rest_after t r h.len in
    let ih = pick_sorted m t after (suc h.start) hs a.1 in
    let s = part_start m t r h in
    pick_insert m t r h (by_size hs) (later_sorted h.start hs (later_ascends h.start (suc h.start) hs (omega arith) a.1))
    ∙ by_test (wanted t r h.len)
    (λ w. simp w (ap (put_by lower (part m t r h)) ih
    ∙ insert_first (part m t r h) (pick_from m t after hs) (subst (λ (y : ℕ). Ascends (suc y) (pick_from m t after hs)) (sym s) (ascends_picked m t after (suc h.start) hs a.1))))
    (λ w. simp w ih)

pub same : (m need t : ℕ) (hs : List Pair) → 0 < need → Ascends 0 hs → IsThreshold need hs t
    → (qs : List Pair) × (take_from m need (by_size hs) ≡ some qs) × (by_start qs ≡ picked m need t hs)
same m need t hs p a k =
    let r = need - at_least (suc t) hs in (
      pick_from m t r (by_size hs),
      take_is_pick m need t r (total hs) (by_size hs) (falling_sorted hs) (omega (arith, k.longer_not)) (omega (arith, k.longer_not, at_least_sorted (suc t) hs)) (omega (arith, k.enough, at_least_sorted t hs)),
      pick_sorted m t r 0 hs a,
    )
