-- What was placed in object order is listed in that order: the pieces from the start zone on come first and ascend, and
-- then the others ascend.
use mathlib.Core.Path.{◌≡◌, refl, ap}
use mathlib.Core.Bool.{Bool, not}
use mathlib.Core.List.{List, [], ◌∷◌, ◌++◌}
use Prim.Native.Nat.{ℕ, suc, ◌+◌, ◌<◌, ◌≤◌}
use native.Mathlib.Nat.{add-suc}
use native.Mathlib.Omega.{arith}
use Rattle.bits.proofs.Tests.{by_test}
use Rattle.model.specs.Pieces.{Piece, keep, rotate}
use Rattle.edits.specs.Order.{Ascending, rank}
use Rattle.edits.specs.Edits.{put}
use Rattle.edits.proofs.ByPlace.{keep_insert_no}
use Rattle.edits.proofs.PutIn.{insert_first, asc_insert, keep_insert}

-- the pieces lie on the disc's n bits and come in object order, each from `from` on
abbrev pub InOrder : (Piece → Bool) → ℕ → ℕ → List Piece → Type 0
InOrder late n from [] = Unit {0}
InOrder late n from (p ∷ ps) = (p.at.start < n) × (from ≤ rank late n p) × InOrder late n (suc (rank late n p)) ps

-- the pieces from the start zone on ascend
pub asc_of_late : (t : Piece → Bool) (n k : ℕ) (l r : List Piece) → InOrder t n k (keep t l ++ r) → Ascending k (keep t l)
asc_of_late t n k [] r o = tt
asc_of_late t n k (x ∷ xs) r o =
    by_test (t x)
    (λ h. let b : (x.at.start < n) × (k ≤ x.at.start) × InOrder t n (suc x.at.start) (keep t xs ++ r) = simp h at o in simp h (b.1, asc_of_late t n (suc x.at.start) xs r b.2))
    (λ h. simp h (asc_of_late t n k xs r (simp h at o)))

-- and so do those before it
pub asc_of_early : (t : Piece → Bool) (n k : ℕ) (l : List Piece) → InOrder t n (n + k) (keep (λ x. not (t x)) l) → Ascending k (keep (λ x. not (t x)) l)
asc_of_early t n k [] o = tt
asc_of_early t n k (x ∷ xs) o =
    by_test (t x)
    (λ h. simp h (asc_of_early t n k xs (simp h at o)))
    (λ h. let b : (x.at.start < n) × (n + k ≤ n + x.at.start) × InOrder t n (suc (n + x.at.start)) (keep (λ y. not (t y)) xs) = simp h at o in
    simp h (omega arith, asc_of_early t n (suc x.at.start) xs (rw (← add-suc n x.at.start) at b.2)))

-- none from the start zone on comes after one before it
pub no_late : (t : Piece → Bool) (n k : ℕ) (l r : List Piece) → n ≤ k → InOrder t n k (keep t l ++ r) → keep t l ≡ []
no_late t n k [] r h o = refl
no_late t n k (x ∷ xs) r g o =
    by_test (t x)
    (λ h. let b : (x.at.start < n) × (k ≤ x.at.start) × InOrder t n (suc x.at.start) (keep t xs ++ r) = simp h at o in absurd (omega arith))
    (λ h. simp h (no_late t n k xs r g (simp h at o)))

-- what was put in is listed in its order
pub order_back : (t : Piece → Bool) (n k f : ℕ) (ps : List Piece) → InOrder t n k ps → Ascending f (put ps []) → rotate t (put ps []) ≡ ps
order_back t n k f [] o a = refl
order_back t n k f (p ∷ ps) o a =
    let b = asc_insert f p (put ps []) a in
    let e = order_back t n (suc (rank t n p)) f ps o.2 b in
    by_test (t p)
    (λ h. let o2 : InOrder t n (suc p.at.start) ps = simp h at o.2 in
    simp (
      keep_insert t f p (put ps []) b h,
      keep_insert_no (λ x. not (t x)) p (put ps []) (ap not h),
      insert_first p (keep t (put ps [])) (asc_of_late t n (suc p.at.start) (put ps []) (keep (λ x. not (t x)) (put ps [])) (rw (← e) at o2)),
    )
    (ap (λ (r : List Piece). p ∷ r) e))
    (λ h. let o2 : InOrder t n (suc (n + p.at.start)) ps = simp h at o.2 in
    let o3 : InOrder t n (suc (n + p.at.start)) (rotate t (put ps [])) = rw (← e) at o2 in
    let gone : keep t (put ps []) ≡ [] = no_late t n (suc (n + p.at.start)) (put ps []) (keep (λ x. not (t x)) (put ps [])) (omega arith) o3 in
    let e1 : keep (λ x. not (t x)) (put ps []) ≡ ps = simp gone at e in
    simp (
      keep_insert_no t p (put ps []) h,
      keep_insert (λ x. not (t x)) f p (put ps []) b (ap not h),
      gone,
      insert_first p (keep (λ x. not (t x)) (put ps [])) (asc_of_early t n (suc p.at.start) (put ps []) (rw (← add-suc n p.at.start) at (rw gone at o3))),
    )
    (ap (λ (r : List Piece). p ∷ r) e1))
