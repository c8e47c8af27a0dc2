-- Tests on lists: what every entry passes stays so when entries are left out, put in or joined, and tests may follow each
-- other in either order, by induction on the list.
use mathlib.Core.Path.{◌≡◌, refl, ap}
use mathlib.Core.Bool.{Bool, true, false, not}
use mathlib.Core.List.{List, [], ◌∷◌, ◌++◌}
use Prim.Native.Nat.{◌+◌, ◌<◌}
use native.Mathlib.Omega.{arith}
use lib.Dec.{ltb}
use lib.ListN.{length}
use Rattle.bits.proofs.Tests.{by_test}
use Rattle.model.specs.Pieces.{Piece, keep}
use Rattle.edits.specs.Edits.{insert, put}

-- every entry passes a test
abbrev pub All : {A : Type 0} → (A → Bool) → List A → Type 0
All t [] = Unit {0}
All t (p ∷ ps) = (t p ≡ true) × All t ps

-- kept, left out and joined
pub all_kept : {A : Type 0} (t : A → Bool) (l : List A) → All t (keep t l)
all_kept t [] = tt
all_kept t (x ∷ xs) = by_test (t x) (λ h. simp h (refl, all_kept t xs)) (λ h. simp h (all_kept t xs))

pub all_keep : {A : Type 0} (t u : A → Bool) (l : List A) → All t l → All t (keep u l)
all_keep t u [] h = tt
all_keep t u (x ∷ xs) h = by_test (u x) (λ k. simp k (h.0, all_keep t u xs h.1)) (λ k. simp k (all_keep t u xs h.1))

pub all_append : {A : Type 0} (t : A → Bool) (l r : List A) → All t l → All t r → All t (l ++ r)
all_append t [] r h k = k
all_append t (x ∷ xs) r h k = (h.0, all_append t xs r h.1 k)

-- pieces put in
pub all_insert : (t : Piece → Bool) (p : Piece) (l : List Piece) → t p ≡ true → All t l → All t (insert p l)
all_insert t p [] h a = (h, tt)
all_insert t p (x ∷ xs) h a =
    by_test (ltb p.at.start x.at.start)
    (λ k. simp k (h, a))
    (λ k. simp k (a.0, all_insert t p xs h a.1))

pub all_put : (t : Piece → Bool) (ps l : List Piece) → All t ps → All t l → All t (put ps l)
all_put t [] l h a = a
all_put t (p ∷ ps) l h a = all_insert t p (put ps l) h.0 (all_put t ps l h.1 a)

-- a piece that was put in passes what all pass
pub all_put_in : (t : Piece → Bool) (p : Piece) (l : List Piece) → All t (insert p l) → t p ≡ true
all_put_in t p [] a = a.0
all_put_in t p (x ∷ xs) a =
    by_test (ltb p.at.start x.at.start)
    (λ k. let b : All t (p ∷ x ∷ xs) = simp k at a in b.0)
    (λ k. let b : All t (x ∷ insert p xs) = simp k at a in all_put_in t p xs b.1)

-- two tests, in either order
pub keep_comm : {A : Type 0} (t u : A → Bool) (l : List A) → keep t (keep u l) ≡ keep u (keep t l)
keep_comm t u [] = refl
keep_comm t u (x ∷ xs) =
    by_test (t x)
    (λ h. by_test (u x) (λ k. simp (h, k, keep_comm t u xs)) (λ k. simp (h, k, keep_comm t u xs)))
    (λ h. by_test (u x) (λ k. simp (h, k, keep_comm t u xs)) (λ k. simp (h, k, keep_comm t u xs)))

-- a test after one that all it keeps pass, and after its contrary
pub keep_keep : {A : Type 0} (t u : A → Bool) (l : List A) → ((x : A) → t x ≡ true → u x ≡ true) → keep t (keep u l) ≡ keep t l
keep_keep t u [] h = refl
keep_keep t u (x ∷ xs) h =
    by_test (t x)
    (λ k. simp (h x k, k, keep_keep t u xs h))
    (λ k. by_test (u x) (λ j. simp (j, k, keep_keep t u xs h)) (λ j. simp (j, k, keep_keep t u xs h)))

pub keep_none : {A : Type 0} (t : A → Bool) (l : List A) → keep t (keep (λ x. not (t x)) l) ≡ []
keep_none t [] = refl
keep_none t (x ∷ xs) = by_test (t x) (λ k. simp (k, keep_none t xs)) (λ k. simp (k, keep_none t xs))

-- tests that all entries pass, or none
pub keep_all : {A : Type 0} (t : A → Bool) (l : List A) → All t l → keep t l ≡ l
keep_all t [] h = refl
keep_all {A = A} t (x ∷ xs) h = simp h.0 (ap (λ (r : List A). x ∷ r) (keep_all t xs h.1))

pub keep_no : {A : Type 0} (t : A → Bool) (l : List A) → ((x : A) → t x ≡ false) → keep t l ≡ []
keep_no t [] h = refl
keep_no t (x ∷ xs) h = simp (h x) (keep_no t xs h)

-- how many entries
pub length_parts : {A : Type 0} (t : A → Bool) (l : List A) → length (keep t l) + length (keep (λ x. not (t x)) l) ≡ length l
length_parts t [] = refl
length_parts t (x ∷ xs) =
    by_test (t x)
    (λ h. simp h (omega (arith, length_parts t xs)))
    (λ h. simp h (omega (arith, length_parts t xs)))

pub some_length : {A : Type 0} (l : List A) → (l ≡ [] → ⊥) → 0 < length l
some_length [] n = absurd (n refl)
some_length (x ∷ xs) n = omega arith
