-- The entries of a list, and which they are when some are left out, put in, joined or mapped, by induction on the list.
use mathlib.Core.Path.{◌≡◌, refl, sym, ap, ◌∙◌, subst}
use mathlib.Core.Bool.{Bool, true, not}
use mathlib.Core.List.{List, [], ◌∷◌, ◌++◌, map}
use mathlib.Core.Logic.{◌⊎◌, inl, inr}
use Prim.Native.Nat.{ℕ, ◌≤◌}
use native.Mathlib.Omega.{arith}
use lib.Dec.{ltb}
use borrow.Author.Tests.{eqb-true}
use Rattle.bits.proofs.Tests.{by_test}
use Rattle.geometry.specs.declared.Geometry.{Geometry}
use Rattle.model.specs.Chain.{Pair}
use Rattle.model.specs.Pieces.{Piece, keep, is_of, pieces_of, late, rotate, object_pairs}
use Rattle.split.specs.Taken.{total, put_by, sort_by}
use Rattle.edits.specs.Edits.{insert, put}
use Rattle.edits.specs.Room.{In, Earlier}
use Rattle.edits.proofs.Kept.{All}

pub all_in : {A : Type 0} (t : A → Bool) (xs : List A) (h : A) → All t xs → In h xs → t h ≡ true
all_in t [] h a i = absurd i
all_in t (x ∷ xs) h a (inl e) = ap t e ∙ a.0
all_in t (x ∷ xs) h a (inr i) = all_in t xs h a.1 i

pub in_append : {A : Type 0} (h : A) (xs ys : List A) → In h (xs ++ ys) → In h xs ⊎ In h ys
in_append h [] ys i = inr i
in_append h (x ∷ xs) ys (inl e) = inl (inl e)
in_append h (x ∷ xs) ys (inr i) = go (in_append h xs ys i)
  where
    go : In h xs ⊎ In h ys → In h (x ∷ xs) ⊎ In h ys
    go (inl j) = inl (inr j)
    go (inr j) = inr j

pub in_left : {A : Type 0} (h : A) (xs ys : List A) → In h xs → In h (xs ++ ys)
in_left h [] ys i = absurd i
in_left h (x ∷ xs) ys (inl e) = inl e
in_left h (x ∷ xs) ys (inr i) = inr (in_left h xs ys i)

pub in_right : {A : Type 0} (h : A) (xs ys : List A) → In h ys → In h (xs ++ ys)
in_right h [] ys i = i
in_right h (x ∷ xs) ys i = inr (in_right h xs ys i)

-- one that stands before another; and of two entries that differ one does
pub earlier_in : {A : Type 0} (q p : A) (xs : List A) → Earlier q p xs → In q xs × In p xs
earlier_in q p [] k = absurd k
earlier_in q p (x ∷ xs) (inl k) = (inl k.0, inr k.1)
earlier_in q p (x ∷ xs) (inr k) = let r = earlier_in q p xs k in (inr r.0, inr r.1)

pub one_earlier : {A : Type 0} (h k : A) (xs : List A) → In h xs → In k xs → (h ≡ k) ⊎ (Earlier h k xs ⊎ Earlier k h xs)
one_earlier h k [] i j = absurd i
one_earlier h k (x ∷ xs) (inl p) (inl q) = inl (p ∙ sym q)
one_earlier h k (x ∷ xs) (inl p) (inr j) = inr (inl (inl (p, j)))
one_earlier h k (x ∷ xs) (inr i) (inl q) = inr (inr (inl (q, i)))
one_earlier h k (x ∷ xs) (inr i) (inr j) = go (one_earlier h k xs i j)
  where
    go : (h ≡ k) ⊎ (Earlier h k xs ⊎ Earlier k h xs) → (h ≡ k) ⊎ (Earlier h k (x ∷ xs) ⊎ Earlier k h (x ∷ xs))
    go (inl e) = inl e
    go (inr (inl e)) = inr (inl (inr e))
    go (inr (inr e)) = inr (inr (inr e))

pub in_keep : {A : Type 0} (t : A → Bool) (h : A) (xs : List A) → In h xs → t h ≡ true → In h (keep t xs)
in_keep t h [] i k = i
in_keep t h (x ∷ xs) (inl e) k = simp (ap t (sym e) ∙ k) (inl e)
in_keep t h (x ∷ xs) (inr i) k = by_test (t x) (λ j. simp j (inr (in_keep t h xs i k))) (λ j. simp j (in_keep t h xs i k))

pub in_kept : {A : Type 0} (t : A → Bool) (h : A) (xs : List A) → In h (keep t xs) → In h xs × (t h ≡ true)
in_kept t h [] i = absurd i
in_kept t h (x ∷ xs) i =
    by_test (t x)
    (λ j. go (in_kept t h xs) j (simp j at i))
    (λ j. let r = in_kept t h xs (simp j at i) in (inr r.0, r.1))
  where
    go : (In h (keep t xs) → In h xs × (t h ≡ true)) → t x ≡ true → In h (x ∷ keep t xs) → In h (x ∷ xs) × (t h ≡ true)
    go ih j (inl e) = (inl e, ap t e ∙ j)
    go ih j (inr i) = let r = ih i in (inr r.0, r.1)

pub in_map : {A B : Type 0} (f : A → B) (h : B) (xs : List A) → In h (map f xs) → (x : A) × In x xs × (h ≡ f x)
in_map f h [] i = absurd i
in_map f h (x ∷ xs) (inl e) = (x, inl refl, e)
in_map f h (x ∷ xs) (inr i) = let r = in_map f h xs i in (r.0, inr r.1, r.2)

pub map_in : {A B : Type 0} (f : A → B) (h : A) (xs : List A) → In h xs → In (f h) (map f xs)
map_in f h [] i = i
map_in f h (x ∷ xs) (inl e) = inl (ap f e)
map_in f h (x ∷ xs) (inr i) = inr (map_in f h xs i)

-- a piece put in, and the others
pub insert_own : (p : Piece) (l : List Piece) → In p (insert p l)
insert_own p [] = inl refl
insert_own p (x ∷ xs) = by_test (ltb p.at.start x.at.start) (λ k. simp k (inl refl)) (λ k. simp k (inr (insert_own p xs)))

pub in_insert : (h p : Piece) (l : List Piece) → In h l → In h (insert p l)
in_insert h p [] i = absurd i
in_insert h p (x ∷ xs) (inl e) = by_test (ltb p.at.start x.at.start) (λ k. simp k (inr (inl e))) (λ k. simp k (inl e))
in_insert h p (x ∷ xs) (inr i) = by_test (ltb p.at.start x.at.start) (λ k. simp k (inr (inr i))) (λ k. simp k (inr (in_insert h p xs i)))

pub insert_in : (h p : Piece) (l : List Piece) → In h (insert p l) → (h ≡ p) ⊎ In h l
insert_in h p [] i = i
insert_in h p (x ∷ xs) i =
    by_test (ltb p.at.start x.at.start)
    (λ k. simp k at i)
    (λ k. go (insert_in h p xs) (simp k at i))
  where
    swap : (h ≡ p) ⊎ In h xs → (h ≡ p) ⊎ In h (x ∷ xs)
    swap (inl e) = inl e
    swap (inr i) = inr (inr i)

    go : (In h (insert p xs) → (h ≡ p) ⊎ In h xs) → In h (x ∷ insert p xs) → (h ≡ p) ⊎ In h (x ∷ xs)
    go ih (inl e) = inr (inl e)
    go ih (inr i) = swap (ih i)

pub in_put : (h : Piece) (ps l : List Piece) → In h l → In h (put ps l)
in_put h [] l i = i
in_put h (p ∷ ps) l i = in_insert h p (put ps l) (in_put h ps l i)

pub put_in : (h : Piece) (ps l : List Piece) → In h (put ps l) → In h ps ⊎ In h l
put_in h [] l i = inr i
put_in h (p ∷ ps) l i = go (put_in h ps l) (insert_in h p (put ps l) i)
  where
    step : In h ps ⊎ In h l → In h (p ∷ ps) ⊎ In h l
    step (inl i) = inl (inr i)
    step (inr i) = inr i

    go : (In h (put ps l) → In h ps ⊎ In h l) → (h ≡ p) ⊎ In h (put ps l) → In h (p ∷ ps) ⊎ In h l
    go ih (inl e) = inl (inl e)
    go ih (inr i) = step (ih i)

-- stretches sorted, by whatever test
module _ (t : Pair → Pair → Bool) where
  pub put_by_in : (h q : Pair) (l : List Pair) → In h (put_by t q l) → (h ≡ q) ⊎ In h l
  put_by_in h q [] i = i
  put_by_in h q (x ∷ xs) i = by_test (t q x) (λ k. simp k at i) (λ k. go (put_by_in h q xs) (simp k at i))
    where
      swap : (h ≡ q) ⊎ In h xs → (h ≡ q) ⊎ In h (x ∷ xs)
      swap (inl e) = inl e
      swap (inr j) = inr (inr j)

      go : (In h (put_by t q xs) → (h ≡ q) ⊎ In h xs) → In h (x ∷ put_by t q xs) → (h ≡ q) ⊎ In h (x ∷ xs)
      go ih (inl e) = inr (inl e)
      go ih (inr j) = swap (ih j)

  in_put_by : (h q : Pair) (l : List Pair) → (h ≡ q) ⊎ In h l → In h (put_by t q l)
  in_put_by h q [] i = i
  in_put_by h q (x ∷ xs) i = by_test (t q x) (λ k. simp k i) (λ k. simp k (go (in_put_by h q xs) i))
    where
      go : ((h ≡ q) ⊎ In h xs → In h (put_by t q xs)) → (h ≡ q) ⊎ In h (x ∷ xs) → In h (x ∷ put_by t q xs)
      go ih (inl e) = inr (ih (inl e))
      go ih (inr (inl e)) = inl e
      go ih (inr (inr j)) = inr (ih (inr j))

  pub in_sorted : (h : Pair) (l : List Pair) → In h l → In h (sort_by t l)
  in_sorted h [] i = i
  in_sorted h (q ∷ qs) (inl e) = in_put_by h q (sort_by t qs) (inl e)
  in_sorted h (q ∷ qs) (inr i) = in_put_by h q (sort_by t qs) (inr (in_sorted h qs i))

  pub sorted_in : (h : Pair) (l : List Pair) → In h (sort_by t l) → In h l
  sorted_in h [] i = i
  sorted_in h (q ∷ qs) i = go (sorted_in h qs) (put_by_in h q (sort_by t qs) i)
    where
      go : (In h (sort_by t qs) → In h qs) → (h ≡ q) ⊎ In h (sort_by t qs) → (h ≡ q) ⊎ In h qs
      go ih (inl e) = inl e
      go ih (inr j) = inr (ih j)

-- the bits of one are no more than those of all
pub total_in : (h : Pair) (l : List Pair) → In h l → h.len ≤ total l
total_in h [] i = absurd i
total_in h (x ∷ xs) (inl e) = let n : h.len ≡ x.len = ap (λ (q : Pair). q.len) e in omega arith
total_in h (x ∷ xs) (inr i) = omega (arith, total_in h xs i)

-- an object's pair is a piece of its
rotate_in : (t : Piece → Bool) (p : Piece) (l : List Piece) → In p (rotate t l) → In p l
rotate_in t p l i = go (in_append p (keep t l) (keep (λ x. not (t x)) l) i)
  where
    go : In p (keep t l) ⊎ In p (keep (λ x. not (t x)) l) → In p l
    go (inl j) = (in_kept t p l j).0
    go (inr j) = (in_kept (λ x. not (t x)) p l j).0

pub listed_back : (g : Geometry) (id : ℕ) (q : Pair) (l : List Piece) → In q (object_pairs g id l) → In (record { at = q; owner = id }) l
listed_back g id q l i =
    let a = in_map (λ (x : Piece). x.at) q (rotate (late g id) (pieces_of id l)) i in
    let b = in_kept (is_of id) a.0 l (rotate_in (late g id) a.0 (pieces_of id l) a.1) in
    subst (λ (p : Piece). In p l) (λ j. record { at = sym a.2 j; owner = eqb-true a.0.owner id b.1 j }) b.0
