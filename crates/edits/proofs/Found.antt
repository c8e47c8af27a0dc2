-- What is found first, of two things to be gone through one after the other: in the first of them, or else in the second.
use mathlib.Core.Path.{◌≡◌, refl, sym, ap, ◌∙◌}
use mathlib.Core.Bool.{Bool, false}
use mathlib.Core.List.{List, [], ◌∷◌, ◌++◌}
use mathlib.Core.Option.{Option, none, some}
use Prim.Native.Nat.{ℕ, zero, suc, ◌+◌, ◌<◌, ◌≤◌}
use native.Mathlib.Nat.{add-zero, zero-add}
use native.Mathlib.Omega.{arith}
use lib.Dec.{leb}
use Rattle.bits.proofs.Tests.{by_test}
use Rattle.geometry.specs.declared.Geometry.{Geometry}
use Rattle.model.specs.Chain.{Pair}
use Rattle.model.specs.Pieces.{Piece}
use Rattle.edits.specs.Holes.{holes_in, holes_of}
use Rattle.edits.specs.Judge.{first_hole, lowest}

abbrev pub or_else : {A : Type 0} → Option A → Option A → Option A
or_else none o = o
or_else (some x) o = some x

pub or_none : {A : Type 0} (o : Option A) → or_else o none ≡ o
or_none none = refl
or_none (some x) = refl

or_assoc : {A : Type 0} (a b c : Option A) → or_else (or_else a b) c ≡ or_else a (or_else b c)
or_assoc none b c = refl
or_assoc (some x) b c = refl

-- holes, of two lists and of the zones of two lists
pub first_append : (n : ℕ) (hs ks : List Pair) → first_hole n (hs ++ ks) ≡ or_else (first_hole n hs) (first_hole n ks)
first_append n [] ks = refl
first_append n (h ∷ hs) ks = by_test (leb n h.len) (λ t. rw t) (λ t. rw t (first_append n hs ks))

pub first_of : (g : Geometry) (l : List Piece) (n : ℕ) (ys zs : List ℕ) → first_hole n (holes_of g l (ys ++ zs)) ≡ or_else (first_hole n (holes_of g l ys)) (first_hole n (holes_of g l zs))
first_of g l n [] zs = refl
first_of g l n (y ∷ ys) zs =
    let hs = holes_in g l y in
    first_append n hs (holes_of g l (ys ++ zs))
    ∙ ap (or_else (first_hole n hs)) (first_of g l n ys zs)
    ∙ sym (or_assoc (first_hole n hs) (first_hole n (holes_of g l ys)) (first_hole n (holes_of g l zs)))
    ∙ ap (λ (o : Option Pair). or_else o (first_hole n (holes_of g l zs))) (sym (first_append n hs (holes_of g l ys)))

pub first_one : (g : Geometry) (l : List Piece) (n z : ℕ) → first_hole n (holes_of g l (z ∷ [])) ≡ first_hole n (holes_in g l z)
first_one g l n z = first_append n (holes_in g l z) [] ∙ or_none (first_hole n (holes_in g l z))

-- numbers that pass a test, of a numbers and then of b
pub lowest_parts : (t : ℕ → Bool) (a b id : ℕ) → lowest t (a + b) id ≡ or_else (lowest t a id) (lowest t b (id + a))
lowest_parts t zero b id = λ i. lowest t (zero-add b i) (sym (add-zero id) i)
lowest_parts t (suc a) b id =
    let e : suc a + b ≡ suc (a + b) = omega arith in
    let f : suc id + a ≡ id + suc a = omega arith in
    ap (λ (n : ℕ). lowest t n id) e
    ∙ by_test (t id) (λ k. rw k) (λ k. rw k (lowest_parts t a b (suc id) ∙ ap (λ (i : ℕ). or_else (lowest t a (suc id)) (lowest t b i)) f))

pub lowest_same : (t u : ℕ → Bool) (n id : ℕ) → ((i : ℕ) → id ≤ i → i < id + n → t i ≡ u i) → lowest t n id ≡ lowest u n id
lowest_same t u zero id h = refl
lowest_same t u (suc n) id h =
    let e = h id (omega arith) (omega arith) in
    let ih = lowest_same t u n (suc id) (λ i lo hi. h i (omega arith) (omega arith)) in
    by_test (u id) (λ k. rw (e, k)) (λ k. rw (e, k) ih)

pub none_passes : (t : ℕ → Bool) (n id : ℕ) → ((i : ℕ) → id ≤ i → i < id + n → t i ≡ false) → lowest t n id ≡ none
none_passes t zero id h = refl
none_passes t (suc n) id h = rw (h id (omega arith) (omega arith)) (none_passes t n (suc id) (λ i lo hi. h i (omega arith) (omega arith)))
