-- Ascending pieces are fixed by what each object lists: a piece is listed by its owner and by nobody else, and two ascending lists
-- of the same pieces are the same.
use mathlib.Core.Path.{◌≡◌, refl, sym, ap, ap₂, ◌∙◌, subst}
use mathlib.Core.Bool.{Bool, not}
use mathlib.Core.List.{List, [], ◌∷◌, ◌++◌}
use mathlib.Core.Logic.{◌⊎◌, inl, inr}
use Prim.Native.Nat.{ℕ, suc, ◌≤◌}
use native.Mathlib.Omega.{arith}
use borrow.Author.Tests.{eq-eqb}
use Rattle.bits.proofs.Tests.{by_test}
use Rattle.geometry.specs.declared.Geometry.{Geometry}
use Rattle.model.specs.Chain.{Pair}
use Rattle.model.specs.Pieces.{Piece, keep, is_of, pieces_of, late, rotate, object_pairs}
use Rattle.edits.specs.Order.{Ascending}
use Rattle.edits.specs.Room.{In}
use Rattle.edits.proofs.Entries.{in_keep, map_in, listed_back}

append_in : {A : Type 0} (h : A) (xs ys : List A) → In h xs ⊎ In h ys → In h (xs ++ ys)
append_in h [] ys (inl i) = absurd i
append_in h [] ys (inr i) = i
append_in h (x ∷ xs) ys (inl (inl e)) = inl e
append_in h (x ∷ xs) ys (inl (inr i)) = inr (append_in h xs ys (inl i))
append_in h (x ∷ xs) ys (inr i) = inr (append_in h xs ys (inr i))

in_rotate : (t : Piece → Bool) (p : Piece) (l : List Piece) → In p l → In p (rotate t l)
in_rotate t p l i =
    by_test (t p)
    (λ k. append_in p (keep t l) (keep (λ x. not (t x)) l) (inl (in_keep t p l i k)))
    (λ k. append_in p (keep t l) (keep (λ x. not (t x)) l) (inr (in_keep (λ x. not (t x)) p l i (ap not k))))

-- a piece is listed by its owner
listed : (g : Geometry) (p : Piece) (l : List Piece) → In p l → In p.at (object_pairs g p.owner l)
listed g p l i =
    map_in (λ (x : Piece). x.at) p (rotate (late g p.owner) (pieces_of p.owner l))
    (in_rotate (late g p.owner) p (pieces_of p.owner l) (in_keep (is_of p.owner) p l i (eq-eqb p.owner p.owner refl)))

-- later pieces start later
asc_later : (f : ℕ) (p : Piece) (l : List Piece) → Ascending f l → In p l → f ≤ p.at.start
asc_later f p [] a i = absurd i
asc_later f p (x ∷ xs) a (inl e) = omega (arith, ap (λ (y : Piece). y.at.start) e)
asc_later f p (x ∷ xs) a (inr i) = omega (arith, asc_later (suc x.at.start) p xs a.1 i)

asc_same : (f : ℕ) (l r : List Piece) → Ascending f l → Ascending f r → ((p : Piece) → In p l → In p r) → ((p : Piece) → In p r → In p l) → l ≡ r
asc_same f [] [] a b lr rl = refl
asc_same f [] (y ∷ ys) a b lr rl = absurd (rl y (inl refl))
asc_same f (x ∷ xs) [] a b lr rl = absurd (lr x (inl refl))
asc_same f (x ∷ xs) (y ∷ ys) a b lr rl =
    ap₂ (λ (p : Piece) (ps : List Piece). p ∷ ps) head (asc_same (suc x.at.start) xs ys a.1 b2 (λ p i. later_l p i (lr p (inr i))) (λ p i. later_r p i (rl p (inr i))))
  where
    heads : In x (y ∷ ys) → In y (x ∷ xs) → x ≡ y
    heads (inl e) w = e
    heads (inr i) (inl e) = sym e
    heads (inr i) (inr j) = absurd (omega (arith, asc_later (suc y.at.start) x ys b.1 i, asc_later (suc x.at.start) y xs a.1 j))

    head : x ≡ y
    head = heads (lr x (inl refl)) (rl y (inl refl))

    b2 : Ascending (suc x.at.start) ys
    b2 = subst (λ (p : Piece). Ascending (suc p.at.start) ys) (sym head) b.1

    later_l : (p : Piece) → In p xs → In p (y ∷ ys) → In p ys
    later_l p i (inl e) = absurd (omega (arith, asc_later (suc x.at.start) p xs a.1 i, ap (λ (z : Piece). z.at.start) (e ∙ sym head)))
    later_l p i (inr j) = j

    later_r : (p : Piece) → In p ys → In p (x ∷ xs) → In p xs
    later_r p i (inl e) = absurd (omega (arith, asc_later (suc y.at.start) p ys b.1 i, ap (λ (z : Piece). z.at.start) (e ∙ head)))
    later_r p i (inr j) = j

pub lists_fix_pieces : (g : Geometry) (l r : List Piece) → Ascending 0 l → Ascending 0 r → ((id : ℕ) → object_pairs g id l ≡ object_pairs g id r) → l ≡ r
lists_fix_pieces g l r a b h = asc_same 0 l r a b (way l r h) (way r l (λ id. sym (h id)))
  where
    way : (l r : List Piece) → ((id : ℕ) → object_pairs g id l ≡ object_pairs g id r) → (p : Piece) → In p l → In p r
    way l r h p i = listed_back g p.owner p.at r (subst (λ (qs : List Pair). In p.at qs) (h p.owner) (listed g p l i))
