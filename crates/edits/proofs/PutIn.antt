-- Pieces put into an ascending list and taken out again: `insert`, `put` and `keep` commute, since an ascending list has
-- one place for each start.
use mathlib.Core.Path.{◌≡◌, refl, ap, ◌∙◌}
use mathlib.Core.Bool.{Bool, true, not}
use mathlib.Core.List.{List, [], ◌∷◌, ◌++◌, cons≢nil}
use Prim.Native.Nat.{ℕ, suc, ◌≤◌}
use native.Mathlib.Omega.{arith}
use lib.Dec.{ltb}
use borrow.Author.Tests.{lt-ltb, le-ltb, ltb-true, ltb-false, not-true}
use Rattle.bits.proofs.Tests.{by_test}
use Rattle.model.specs.Pieces.{Piece, keep, is_of, pieces_of, rotate}
use Rattle.edits.specs.Order.{Ascending}
use Rattle.edits.specs.Edits.{without, insert, put}
use Rattle.edits.proofs.Kept.{All}
use Rattle.edits.proofs.ByPlace.{asc_weak, keep_insert_no, keep_insert_by_place}

-- ascending lists
pub asc_weaken : {f g : ℕ} (l : List Piece) → f ≤ g → Ascending g l → Ascending f l
asc_weaken [] h a = tt
asc_weaken (x ∷ xs) h a = (omega arith, a.1)

pub asc_keep : (t : Piece → Bool) (f : ℕ) (l : List Piece) → Ascending f l → Ascending f (keep t l)
asc_keep t f [] a = tt
asc_keep t f (x ∷ xs) a =
    by_test (t x)
    (λ h. simp h (a.0, asc_keep t (suc x.at.start) xs a.1))
    (λ h. simp h (asc_weaken (keep t xs) (omega arith) (asc_keep t (suc x.at.start) xs a.1)))

-- a piece that starts before all others goes first
pub insert_first : (p : Piece) (l : List Piece) → Ascending (suc p.at.start) l → insert p l ≡ p ∷ l
insert_first p [] a = refl
insert_first p (x ∷ xs) a = simp (lt-ltb _ _ a.0)

-- a list that ascends with a piece put in ascends without it
pub asc_insert : (f : ℕ) (p : Piece) (l : List Piece) → Ascending f (insert p l) → Ascending f l
asc_insert f p [] a = tt
asc_insert f p (x ∷ xs) a =
    by_test (ltb p.at.start x.at.start)
    (λ h. let b : Ascending f (p ∷ x ∷ xs) = simp h at a in (omega arith, b.1.1))
    (λ h. let b : Ascending f (x ∷ insert p xs) = simp h at a in (b.0, asc_insert (suc x.at.start) p xs b.1))

-- a test and a piece put in
pub keep_insert : (t : Piece → Bool) (f : ℕ) (p : Piece) (l : List Piece) → Ascending f l → t p ≡ true → keep t (insert p l) ≡ insert p (keep t l)
keep_insert t f p l a e = keep_insert_by_place t f p l (asc_weak f l a) e

-- two pieces that start apart may be put in in either order
pub insert_comm : (p q : Piece) (l : List Piece) → (p.at.start ≡ q.at.start → ⊥) → insert p (insert q l) ≡ insert q (insert p l)
insert_comm p q [] n =
    by_test (ltb p.at.start q.at.start)
    (λ h. simp (h, le-ltb q.at.start p.at.start (omega (arith, ltb-true))))
    (λ h. simp (h, lt-ltb q.at.start p.at.start (omega (arith, ltb-false))))
insert_comm p q (x ∷ xs) n =
    by_test (ltb p.at.start x.at.start)
    (λ h. by_test (ltb q.at.start x.at.start)
    (λ k. by_test (ltb p.at.start q.at.start)
    (λ j. simp (h, k, j, le-ltb q.at.start p.at.start (omega (arith, ltb-true))))
    (λ j. simp (h, k, j, lt-ltb q.at.start p.at.start (omega (arith, ltb-false)))))
    (λ k. simp (h, k, le-ltb q.at.start p.at.start (omega (arith, ltb-true, ltb-false)))))
    (λ h. by_test (ltb q.at.start x.at.start)
    (λ k. simp (h, k, le-ltb p.at.start q.at.start (omega (arith, ltb-true, ltb-false))))
    (λ k. simp (h, k, insert_comm p q xs n)))

-- a piece may be put in before or after others that all start further on
pub put_later : (p : Piece) (xs ys l : List Piece) → Ascending (suc p.at.start) xs → put (xs ++ p ∷ ys) l ≡ insert p (put (xs ++ ys) l)
put_later p [] ys l a = refl
put_later p (x ∷ xs) ys l a =
    ap (insert x) (put_later p xs ys l (asc_weaken xs (omega arith) a.1))
    ∙ insert_comm x p (put (xs ++ ys) l) (λ e. omega arith)

-- the order in which an ascending list's pieces are put in does not matter: those that pass a test may go first
pub put_rotate : (t : Piece → Bool) (f : ℕ) (ps l : List Piece) → Ascending f ps → put (rotate t ps) l ≡ put ps l
put_rotate t f [] l a = refl
put_rotate t f (p ∷ ps) l a =
    by_test (t p)
    (λ h. simp (h, put_rotate t (suc p.at.start) ps l a.1))
    (λ h. simp (h, put_later p (keep t ps) (keep (λ x. not (t x)) ps) l (asc_keep t (suc p.at.start) ps a.1), put_rotate t (suc p.at.start) ps l a.1))

-- pieces that start further on are put in behind
pub put_before : (x : Piece) (ps l : List Piece) → Ascending (suc x.at.start) ps → put ps (x ∷ l) ≡ x ∷ put ps l
put_before x [] l a = refl
put_before x (p ∷ ps) l a = simp (put_before x ps l (asc_weaken ps (omega arith) a.1), le-ltb p.at.start x.at.start (omega arith))

-- left out, and put in again
pub put_kept : (t : Piece → Bool) (f : ℕ) (l : List Piece) → Ascending f l → put (keep t l) (keep (λ x. not (t x)) l) ≡ l
put_kept t f [] a = refl
put_kept t f (x ∷ xs) a =
    by_test (t x)
    (λ h. simp (h, put_kept t (suc x.at.start) xs a.1, insert_first x xs a.1))
    (λ h. simp (h, put_before x (keep t xs) (keep (λ y. not (t y)) xs) (asc_keep t (suc x.at.start) xs a.1), put_kept t (suc x.at.start) xs a.1))

-- a test and pieces put in: all that pass it, or none
pub keep_put : (t : Piece → Bool) (f : ℕ) (ps l : List Piece) → All t ps → Ascending f (put ps l) → keep t (put ps l) ≡ put ps (keep t l)
keep_put t f [] l h a = refl
keep_put t f (p ∷ ps) l h a =
    let b = asc_insert f p (put ps l) a in
    keep_insert t f p (put ps l) b h.0 ∙ ap (insert p) (keep_put t f ps l h.1 b)

pub keep_put_no : (t : Piece → Bool) (ps l : List Piece) → All (λ p. not (t p)) ps → keep t (put ps l) ≡ keep t l
keep_put_no t [] l h = refl
keep_put_no t (p ∷ ps) l h = keep_insert_no t p (put ps l) (not-true (t p) h.0) ∙ keep_put_no t ps l h.1

-- an absent object
pub without_absent : (id : ℕ) (l : List Piece) → pieces_of id l ≡ [] → without id l ≡ l
without_absent id [] e = refl
without_absent id (x ∷ xs) e =
    by_test (is_of id x)
    (λ h. absurd (cons≢nil (simp h at e)))
    (λ h. simp h (ap (λ (r : List Piece). x ∷ r) (without_absent id xs (simp h at e))))
