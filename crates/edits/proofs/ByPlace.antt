-- Pieces that come by disc bit, some perhaps from the same one: they do so when some are put in or left out, and a test and
-- pieces put in may follow each other in either order.
use mathlib.Core.Path.{◌≡◌, refl, sym, ap, ◌∙◌}
use mathlib.Core.Bool.{Bool, true, false}
use mathlib.Core.List.{List, [], ◌∷◌}
use Prim.Native.Nat.{ℕ, suc, ◌<◌, ◌≤◌}
use native.Mathlib.Omega.{arith}
use lib.Dec.{ltb}
use borrow.Author.Tests.{lt-ltb, ltb-true, ltb-false}
use Rattle.bits.proofs.Tests.{by_test}
use Rattle.model.specs.Pieces.{Piece, keep}
use Rattle.edits.specs.Order.{Ascending}
use Rattle.edits.specs.Edits.{insert, put}

-- ascending, but for equal starts
abbrev pub Weak : ℕ → List Piece → Type 0
Weak f [] = Unit {0}
Weak f (p ∷ ps) = (f ≤ p.at.start) × Weak p.at.start ps

pub weak_weaken : {f g : ℕ} (l : List Piece) → f ≤ g → Weak g l → Weak f l
weak_weaken [] h w = tt
weak_weaken (x ∷ xs) h w = (omega arith, w.1)

pub weak_insert : (f : ℕ) (p : Piece) (l : List Piece) → f ≤ p.at.start → Weak f l → Weak f (insert p l)
weak_insert f p [] h w = (h, tt)
weak_insert f p (x ∷ xs) h w =
    by_test (ltb p.at.start x.at.start)
    (λ t. simp t (h, (omega (arith, ltb-true), w.1)))
    (λ t. simp t (w.0, weak_insert x.at.start p xs (ltb-false p.at.start x.at.start t) w.1))

pub weak_put : (ps l : List Piece) → Weak 0 l → Weak 0 (put ps l)
weak_put [] l w = w
weak_put (p ∷ ps) l w = weak_insert 0 p (put ps l) (omega arith) (weak_put ps l w)

pub weak_keep : (t : Piece → Bool) (f : ℕ) (l : List Piece) → Weak f l → Weak f (keep t l)
weak_keep t f [] w = tt
weak_keep t f (x ∷ xs) w =
    by_test (t x)
    (λ h. simp h (w.0, weak_keep t x.at.start xs w.1))
    (λ h. simp h (weak_weaken (keep t xs) w.0 (weak_keep t x.at.start xs w.1)))

pub asc_weak : (f : ℕ) (l : List Piece) → Ascending f l → Weak f l
asc_weak f [] a = tt
asc_weak f (x ∷ xs) a = (a.0, weak_weaken xs (omega arith) (asc_weak (suc x.at.start) xs a.1))

-- a piece that starts before all others goes first
pub insert_before : (p : Piece) (f : ℕ) (l : List Piece) → p.at.start < f → Weak f l → insert p l ≡ p ∷ l
insert_before p f [] h w = refl
insert_before p f (x ∷ xs) h w = simp (lt-ltb p.at.start x.at.start (omega arith))

-- a test and a piece put in
pub keep_insert_no : (t : Piece → Bool) (p : Piece) (l : List Piece) → t p ≡ false → keep t (insert p l) ≡ keep t l
keep_insert_no t p [] e = simp e
keep_insert_no t p (x ∷ xs) e =
    by_test (ltb p.at.start x.at.start)
    (λ h. simp (h, e))
    (λ h. simp (h, keep_insert_no t p xs e))

pub keep_insert_by_place : (t : Piece → Bool) (f : ℕ) (p : Piece) (l : List Piece) → Weak f l → t p ≡ true → keep t (insert p l) ≡ insert p (keep t l)
keep_insert_by_place t f p [] w e = simp e
keep_insert_by_place t f p (x ∷ xs) w e =
    by_test (ltb p.at.start x.at.start)
    (λ h. by_test (t x)
    (λ k. simp (h, e, k))
    (λ k. simp (h, e, k) (sym (insert_before p x.at.start (keep t xs) (ltb-true p.at.start x.at.start h) (weak_keep t x.at.start xs w.1)))))
    (λ h. by_test (t x)
    (λ k. simp (h, k, keep_insert_by_place t x.at.start p xs w.1 e))
    (λ k. simp (h, k, keep_insert_by_place t x.at.start p xs w.1 e)))

-- a test and pieces put in: those that pass it are put in among those that pass it
pub keep_put_by_place : (t : Piece → Bool) (ps l : List Piece) → Weak 0 l → keep t (put ps l) ≡ put (keep t ps) (keep t l)
keep_put_by_place t [] l w = refl
keep_put_by_place t (p ∷ ps) l w =
    by_test (t p)
    (λ h. keep_insert_by_place t 0 p (put ps l) (weak_put ps l w) h ∙ simp h (ap (insert p) (keep_put_by_place t ps l w)))
    (λ h. keep_insert_no t p (put ps l) h ∙ simp h (keep_put_by_place t ps l w))
