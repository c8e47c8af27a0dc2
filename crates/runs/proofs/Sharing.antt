-- Pieces that lie one after another and pieces that share no bit: what was put in among them shares none with them, and what
-- shares none may be put in, by induction on the list.
use mathlib.Core.Path.{refl, sym, subst}
use mathlib.Core.Bool.{Bool}
use mathlib.Core.List.{List, [], ◌∷◌}
use mathlib.Core.Logic.{◌⊎◌, inl, inr}
use Prim.Native.Nat.{ℕ, ◌+◌, ◌<◌, ◌≤◌}
use native.Mathlib.Omega.{arith}
use lib.Dec.{ltb, leb}
use borrow.Author.Tests.{ltb-true, ltb-false, leb-true, leb-false}
use Rattle.bits.proofs.Tests.{by_test}
use Rattle.model.specs.Pieces.{Piece, keep}
use Rattle.model.proofs.ChainDrawn.{Lies}
use Rattle.edits.specs.Edits.{insert, put}
use Rattle.edits.specs.Room.{In, ShareNone}
use Rattle.edits.proofs.Entries.{in_kept, insert_own, in_put, put_in}
use Rattle.edits.proofs.FreeBits.{lies_from}
use Rattle.model.specs.Chain.{Within}

-- a piece taken out
pub lies_without : (at end : ℕ) (p : Piece) (l : List Piece) → Lies at end (insert p l) → Lies at end l
lies_without at end p [] w = omega arith
lies_without at end p (x ∷ xs) w =
    by_test (ltb p.at.start x.at.start)
    (λ t. let v : Lies at end (p ∷ x ∷ xs) = simp t at w in (omega arith, v.2.1, v.2.2))
    (λ t. let v : Lies at end (x ∷ insert p xs) = simp t at w in (v.0, v.1, lies_without (x.at.start + x.at.len) end p xs v.2))

pub lies_shares_none : (at end : ℕ) (p : Piece) (l : List Piece) → Lies at end (insert p l) → (x : Piece) → In x l → ShareNone p.at x.at
lies_shares_none at end p [] w x i d a b = absurd i
lies_shares_none at end p (y ∷ ys) w x i d a b =
    by_test (ltb p.at.start y.at.start)
    (λ t. let v : Lies at end (p ∷ y ∷ ys) = simp t at w in
    let r = lies_from (p.at.start + p.at.len) end (y ∷ ys) x v.2 i in omega arith)
    (λ t. let v : Lies at end (y ∷ insert p ys) = simp t at w in
    go (lies_from (y.at.start + y.at.len) end (insert p ys) p v.2 (insert_own p ys)) i (λ j. lies_shares_none (y.at.start + y.at.len) end p ys v.2 x j d a b))
  where
    go : (y.at.start + y.at.len ≤ p.at.start) × (0 < p.at.len) × (p.at.start + p.at.len ≤ end) → In x (y ∷ ys) → (In x ys → ⊥) → ⊥
    go r (inl e) ih = let c : Within y.at d = subst (λ (z : Piece). Within z.at d) e b in omega arith
    go r (inr i) ih = ih i

pub put_shares_none : (at end : ℕ) (ps l : List Piece) → Lies at end (put ps l) → (p x : Piece) → In p ps → In x l → ShareNone p.at x.at
put_shares_none at end [] l w p x i j = absurd i
put_shares_none at end (q ∷ ps) l w p x (inl e) j =
    subst (λ (y : Piece). ShareNone y.at x.at) (sym e) (lies_shares_none at end q (put ps l) w x (in_put x ps l j))
put_shares_none at end (q ∷ ps) l w p x (inr i) j = put_shares_none at end ps l (lies_without at end q (put ps l) w) p x i j

-- a piece put in
pub lies_insert : (at end : ℕ) (p : Piece) (l : List Piece) → Lies at end l → at ≤ p.at.start → 0 < p.at.len → p.at.start + p.at.len ≤ end
    → ((x : Piece) → In x l → ShareNone p.at x.at) → Lies at end (insert p l)
lies_insert at end p [] w lo k hi n = (lo, k, hi)
lies_insert at end p (x ∷ xs) w lo k hi n =
    by_test (ltb p.at.start x.at.start)
    (λ t. simp t (lo, k, (before (ltb-true p.at.start x.at.start t), w.1, w.2)))
    (λ t. simp t (w.0, w.1, lies_insert (x.at.start + x.at.len) end p xs w.2 (behind (ltb-false p.at.start x.at.start t)) k hi (λ y i. n y (inr i))))
  where
    before : p.at.start < x.at.start → p.at.start + p.at.len ≤ x.at.start
    before h =
        by_test (leb (p.at.start + p.at.len) x.at.start)
        (λ t. omega (arith, leb-true (p.at.start + p.at.len) x.at.start t))
        (λ t. absurd (n x (inl refl) x.at.start (omega arith, omega (arith, leb-false (p.at.start + p.at.len) x.at.start t)) (omega arith, omega (arith, w.1))))

    behind : x.at.start ≤ p.at.start → x.at.start + x.at.len ≤ p.at.start
    behind h =
        by_test (leb (x.at.start + x.at.len) p.at.start)
        (λ t. omega (arith, leb-true (x.at.start + x.at.len) p.at.start t))
        (λ t. absurd (n x (inl refl) p.at.start (omega arith, omega arith) (omega arith, omega (arith, leb-false (x.at.start + x.at.len) p.at.start t))))

-- no two of the pieces share a bit
abbrev pub Separate : List Piece → Type 0
Separate [] = Unit {0}
Separate (p ∷ ps) = ((x : Piece) → In x ps → ShareNone p.at x.at) × Separate ps

pub separate_keep : (t : Piece → Bool) (ps : List Piece) → Separate ps → Separate (keep t ps)
separate_keep t [] s = tt
separate_keep t (p ∷ ps) s =
    by_test (t p)
    (λ k. simp k (λ x i. s.0 x (in_kept t x ps i).0, separate_keep t ps s.1))
    (λ k. simp k (separate_keep t ps s.1))

-- pieces put in
pub lies_put : (at end : ℕ) (ps l : List Piece) → Lies at end l → Separate ps
    → ((p : Piece) → In p ps → (at ≤ p.at.start) × (0 < p.at.len) × (p.at.start + p.at.len ≤ end))
    → ((p x : Piece) → In p ps → In x l → ShareNone p.at x.at) → Lies at end (put ps l)
lies_put at end [] l w s b n = w
lies_put at end (p ∷ ps) l w s b n =
    let c = b p (inl refl) in
    lies_insert at end p (put ps l) (lies_put at end ps l w s.1 (λ q i. b q (inr i)) (λ q x i j. n q x (inr i) j)) c.0 c.1 c.2
    (λ x i. go x (put_in x ps l i))
  where
    go : (x : Piece) → In x ps ⊎ In x l → ShareNone p.at x.at
    go x (inl i) = s.0 x i
    go x (inr i) = n p x (inl refl) i
