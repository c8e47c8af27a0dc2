-- The holes by size: sorting keeps the bits of all and those of the long ones, the lengths do not rise, and the first one is the first of the longest.
use mathlib.Core.Path.{◌≡◌, refl, sym, ap, ◌∙◌, subst}
use mathlib.Core.Bool.{Bool, true, false, false≢true}
use mathlib.Core.List.{List, [], ◌∷◌, ◌++◌}
use Prim.Native.Nat.{ℕ, suc, ◌+◌, ◌<◌, ◌≤◌}
use native.Mathlib.Omega.{arith}
use lib.Dec.{eqb, ltb, leb}
use borrow.Author.Tests.{ltb-true, ltb-false, lt-ltb, le-ltb, lt-leb, eqb-true, eqb-false, ne_eqb}
use Rattle.bits.proofs.Tests.{by_test}
use Rattle.model.specs.Chain.{Pair}
use Rattle.split.specs.Taken.{total, put_by, sort_by, leads, by_size}
use Rattle.split.specs.Threshold.{at_least, longer, first_longest}
use Rattle.split.specs.Laws.{Ascends}

module _ (t : Pair → Pair → Bool) where
  total_put : (h : Pair) (l : List Pair) → total (put_by t h l) ≡ h.len + total l
  total_put h [] = refl
  total_put h (x ∷ xs) = by_test (t h x) (λ k. simp k) (λ k. simp k (omega (arith, total_put h xs)))

  pub total_sorted : (hs : List Pair) → total (sort_by t hs) ≡ total hs
  total_sorted [] = refl
  total_sorted (h ∷ hs) = omega (arith, total_put h (sort_by t hs), total_sorted hs)

pub total_append : (hs ks : List Pair) → total (hs ++ ks) ≡ total hs + total ks
total_append [] ks = omega arith
total_append (h ∷ hs) ks = omega (arith, total_append hs ks)

-- the bits of one hole among those of at least t bits
abbrev counted : ℕ → Pair → ℕ
counted t h = at_least t (h ∷ [])

count_one : (t : ℕ) (h : Pair) (l : List Pair) → at_least t (h ∷ l) ≡ counted t h + at_least t l
count_one t h l = by_test (leb t h.len) (λ a. simp a (omega arith)) (λ a. simp a (omega arith))

at_least_insert : (t : ℕ) (h : Pair) (l : List Pair) → at_least t (put_by leads h l) ≡ counted t h + at_least t l
at_least_insert t h [] = count_one t h []
at_least_insert t h (x ∷ xs) =
    by_test (leads h x)
    (λ k. simp k (count_one t h (x ∷ xs)))
    (λ k. simp k (omega (arith, count_one t x (put_by leads h xs), count_one t x xs, at_least_insert t h xs)))

pub at_least_sorted : (t : ℕ) (hs : List Pair) → at_least t (by_size hs) ≡ at_least t hs
at_least_sorted t [] = refl
at_least_sorted t (h ∷ hs) = omega (arith, at_least_insert t h (by_size hs), count_one t h hs, at_least_sorted t hs)

-- which of two holes goes first
pub leads_le : (h x : Pair) → leads h x ≡ true → x.len ≤ h.len
leads_le h x e =
    by_test (ltb x.len h.len)
    (λ a. omega (arith, ltb-true x.len h.len a))
    (λ a. by_test (eqb h.len x.len)
    (λ b. omega (arith, eqb-true h.len x.len b))
    (λ b. absurd (false≢true (simp (a, b) at e))))

pub follows_le : (h x : Pair) → leads h x ≡ false → h.len ≤ x.len
follows_le h x e =
    by_test (ltb x.len h.len)
    (λ a. absurd (let z : true ≡ false = simp a at e in let y : ◌≡◌ {A = ℕ} 0 1 = cc in omega arith))
    (λ a. ltb-false x.len h.len a)

pub follows_lt : (h x : Pair) → leads h x ≡ false → h.start < x.start → h.len < x.len
follows_lt h x e k =
    by_test (eqb h.len x.len)
    (λ b. absurd (let z : true ≡ false = simp (b, le-ltb x.len h.len (omega (arith, eqb-true h.len x.len b)), lt-ltb h.start x.start k) at e in
    let y : ◌≡◌ {A = ℕ} 0 1 = cc in omega arith))
    (λ b. omega (arith, eqb-false h.len x.len b, follows_le h x e))

-- lengths that do not rise: none is above b, and each is followed by none above it
abbrev pub Falling : ℕ → List Pair → Type 0
Falling b [] = Unit {0}
Falling b (x ∷ xs) = (x.len ≤ b) × Falling x.len xs

falling_weaken : (a b : ℕ) (l : List Pair) → a ≤ b → Falling a l → Falling b l
falling_weaken a b [] k f = tt
falling_weaken a b (x ∷ xs) k f = (omega arith, f.1)

falling_insert : (b : ℕ) (h : Pair) (l : List Pair) → h.len ≤ b → Falling b l → Falling b (put_by leads h l)
falling_insert b h [] k f = (k, tt)
falling_insert b h (x ∷ xs) k f =
    by_test (leads h x)
    (λ t. simp t (k, (leads_le h x t, f.1)))
    (λ t. simp t (f.0, falling_insert x.len h xs (follows_le h x t) f.1))

-- a hole is no longer than all together, so that bounds them
pub falling_sorted : (hs : List Pair) → Falling (total hs) (by_size hs)
falling_sorted [] = tt
falling_sorted (h ∷ hs) = falling_insert (total (h ∷ hs)) h (by_size hs) (omega arith) (falling_weaken (total hs) (total (h ∷ hs)) (by_size hs) (omega arith) (falling_sorted hs))

pub none_longer : (b u : ℕ) (l : List Pair) → b < u → Falling b l → at_least u l ≡ 0
none_longer b u [] k f = refl
none_longer b u (x ∷ xs) k f = simp (lt-leb u x.len (omega (arith, f.0))) (none_longer x.len u xs (omega (arith, f.0)) f.1)

-- The first of the longest
leads_later : (h x : Pair) → x.len ≤ h.len → h.start < x.start → leads h x ≡ true
leads_later h x k s =
    by_test (ltb x.len h.len)
    (λ a. simp a)
    (λ a. by_test (eqb h.len x.len)
    (λ b. simp (a, b, lt-ltb h.start x.start s))
    (λ b. absurd (omega (arith, ltb-false x.len h.len a, eqb-false h.len x.len b))))

pub start_le : (f : ℕ) (hs : List Pair) (h : Pair) → h.start < f → Ascends f hs → h.start ≤ (first_longest h hs).start
start_le f [] h k a = omega arith
start_le f (x ∷ xs) h k a =
    by_test (ltb h.len x.len)
    (λ t. simp t (omega (arith, start_le (suc x.start) xs x (omega arith) a.1)))
    (λ t. simp t (start_le (suc x.start) xs h (omega arith) a.1))

pub len_le : (hs : List Pair) (h : Pair) → h.len ≤ (first_longest h hs).len
len_le [] h = omega arith
len_le (x ∷ xs) h =
    by_test (ltb h.len x.len)
    (λ t. simp t (omega (arith, ltb-true h.len x.len t, len_le xs x)))
    (λ t. simp t (len_le xs h))

-- none is longer than that
pub none_beyond : (hs : List Pair) (h : Pair) → at_least (suc (first_longest h hs).len) (h ∷ hs) ≡ 0
none_beyond [] h = simp (lt-leb (suc h.len) h.len (omega arith))
none_beyond (x ∷ xs) h =
    by_test (ltb h.len x.len)
    (λ t. let n = suc (first_longest x xs).len in
    let e : first_longest h (x ∷ xs) ≡ first_longest x xs = simp t in
    subst (λ (y : Pair). at_least (suc y.len) (h ∷ x ∷ xs) ≡ 0) (sym e) (simp (lt-leb n h.len (omega (arith, ltb-true h.len x.len t, len_le xs x))) (none_beyond xs x)))
    (λ t. let n = suc (first_longest h xs).len in
    let e : at_least n (h ∷ xs) ≡ 0 = none_beyond xs h in
    let same : first_longest h (x ∷ xs) ≡ first_longest h xs = simp t in
    subst (λ (y : Pair). at_least (suc y.len) (h ∷ x ∷ xs) ≡ 0) (sym same) (omega (arith, count_one n h (x ∷ xs), count_one n x xs, count_one n h xs, e, short n x (omega (arith, ltb-false h.len x.len t, len_le xs h)))))
  where
    short : (n : ℕ) (x : Pair) → x.len < n → counted n x ≡ 0
    short n x k = simp (lt-leb n x.len k)

-- in the order of sizes the first of the longest goes first: a hole that starts before all others goes before those that are no longer
abbrev First : Pair → List Pair → Type 0
First h l = (behind : List Pair) × (l ≡ h ∷ behind)

insert_longest : (h x : Pair) (l : List Pair) → First x l → h.start < x.start → First (longer h x) (put_by leads h l)
insert_longest h x l f s =
    by_test (ltb h.len x.len)
    (λ t. simp t (put_by leads h f.0, ap (put_by leads h) f.1 ∙ simp (not_leads t)))
    (λ t. simp t (x ∷ f.0, ap (put_by leads h) f.1 ∙ simp (leads_later h x (ltb-false h.len x.len t) s)))
  where
    not_leads : ltb h.len x.len ≡ true → leads h x ≡ false
    not_leads t =
        let k = ltb-true h.len x.len t in
        simp (le-ltb x.len h.len (omega arith), ne_eqb h.len x.len (λ e. omega arith))

longer_assoc : (h x w : Pair) → longer h (longer x w) ≡ longer (longer h x) w
longer_assoc h x w =
    by_test (ltb x.len w.len)
    (λ a. by_test (ltb h.len x.len)
    (λ b. simp (a, b, lt-ltb h.len w.len (omega (arith, ltb-true x.len w.len a, ltb-true h.len x.len b))))
    (λ b. simp (a, b)))
    (λ a. by_test (ltb h.len x.len)
    (λ b. simp (a, b))
    (λ b. simp (a, b, le-ltb h.len w.len (omega (arith, ltb-false x.len w.len a, ltb-false h.len x.len b)))))

longest_later : (h x : Pair) (l : List Pair) → longer h (first_longest x l) ≡ first_longest (longer h x) l
longest_later h x [] = refl
longest_later h x (w ∷ ws) = longest_later h (longer x w) ws ∙ ap (λ (q : Pair). first_longest q ws) (longer_assoc h x w)

pub largest : (h : Pair) (hs : List Pair) → Ascends 0 (h ∷ hs) → (behind : List Pair) × (by_size (h ∷ hs) ≡ first_longest h hs ∷ behind)
largest h [] a = ([], refl)
largest h (x ∷ xs) a =
    let r = largest x xs (omega arith, a.1.1) in
    let y = first_longest x xs in
    let f = insert_longest h y (by_size (x ∷ xs)) r (omega (arith, a.1.0, start_le (suc x.start) xs x (omega arith) a.1.1)) in
    (f.0, f.1 ∙ ap (λ (q : Pair). q ∷ f.0) (longest_later h x xs))
