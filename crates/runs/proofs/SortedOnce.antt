-- Entries stand in an order in one way only: two lists with the same entries, each in that order, are the same list. The order by size is such a one.
use mathlib.Core.Path.{◌≡◌, refl, sym, ap₂, ◌∙◌, subst}
use mathlib.Core.Bool.{true, false}
use mathlib.Core.List.{List, [], ◌∷◌}
use mathlib.Core.Logic.{◌⊎◌, inl, inr}
use Prim.Native.Nat.{ℕ}
use native.Mathlib.Omega.{arith}
use lib.Dec.{eqb, ltb}
use borrow.Author.Tests.{eqb-true, eqb-false, ltb-true, ltb-false}
use Rattle.bits.proofs.Tests.{by_test, both}
use Rattle.model.specs.Chain.{Pair}
use Rattle.split.specs.Taken.{put_by, leads, by_size}
use Rattle.edits.specs.Room.{In, Earlier}
use Rattle.edits.proofs.Entries.{put_by_in, in_sorted, sorted_in}
use Rattle.edits.proofs.HolesAscend.{NotAt, StartsApart, not_sorted}
use Rattle.runs.specs.Claims.{Leads, LargestFirst}

module _ {A : Type 0} (R : A → A → Type 0) where
  abbrev InOrder : List A → Type 0
  InOrder xs = (a b : A) → Earlier a b xs → R a b

  abbrev OneWay : List A → Type 0
  OneWay xs = (a b : A) → In a xs → In b xs → R a b → R b a → ⊥

  -- the first of two such lists is the same
  same_first : (x y : A) (xs ys : List A) → OneWay (x ∷ xs) → InOrder (x ∷ xs) → InOrder (y ∷ ys) → In x (y ∷ ys) → In y (x ∷ xs) → x ≡ y
  same_first x y xs ys w o p (inl e) j = e
  same_first x y xs ys w o p (inr i) (inl e) = sym e
  same_first x y xs ys w o p (inr i) (inr j) = absurd (w x y (inl refl) (inr j) (o x y (inl (refl, j))) (p y x (inl (refl, i))))

  -- an entry of what follows the first is not the first
  behind : (x : A) (xs zs : List A) → OneWay (x ∷ xs) → InOrder (x ∷ xs) → (a : A) → In a xs → (a ≡ x) ⊎ In a zs → In a zs
  behind x xs zs w o a i (inl e) =
      let k : R a a = subst (λ (y : A). R y a) (sym e) (o x a (inl (refl, i))) in
      absurd (w a a (inr i) (inr i) k k)
  behind x xs zs w o a i (inr j) = j

  pub sorted_once : (xs ys : List A) → OneWay xs → InOrder xs → InOrder ys → ((a : A) → In a xs → In a ys) → ((a : A) → In a ys → In a xs) → xs ≡ ys
  sorted_once [] [] w o p f h = refl
  sorted_once [] (y ∷ ys) w o p f h = absurd (h y (inl refl))
  sorted_once (x ∷ xs) [] w o p f h = absurd (f x (inl refl))
  sorted_once (x ∷ xs) (y ∷ ys) w o p f h =
      let e = same_first x y xs ys w o p (f x (inl refl)) (h y (inl refl)) in
      let v : OneWay (y ∷ ys) = λ a b i j. w a b (h a i) (h b j) in
      ap₂ (λ (a : A) (l : List A). a ∷ l) e
      (sorted_once xs ys (λ a b i j. w a b (inr i) (inr j)) (λ a b i. o a b (inr i)) (λ a b i. p a b (inr i))
      (λ a i. behind x xs ys w o a i (moved a y x ys (sym e) (f a (inr i))))
      (λ a i. behind y ys xs v p a i (moved a x y xs e (h a (inr i)))))
    where
      moved : (a u v : A) (l : List A) → u ≡ v → (a ≡ u) ⊎ In a l → (a ≡ v) ⊎ In a l
      moved a u v l k (inl e) = inl (e ∙ k)
      moved a u v l k (inr i) = inr i

-- by size
pub leads_one_way : (h x : Pair) → Leads h x → Leads x h → ⊥
leads_one_way h x (inl a) (inl b) = omega arith
leads_one_way h x (inl a) (inr b) = omega (arith, b.0)
leads_one_way h x (inr a) (inl b) = omega (arith, a.0)
leads_one_way h x (inr a) (inr b) = omega (arith, a.1, b.1)

leads_on : (h x y : Pair) → Leads h x → Leads x y → Leads h y
leads_on h x y (inl a) (inl b) = inl (omega arith)
leads_on h x y (inl a) (inr b) = inl (omega (arith, b.0))
leads_on h x y (inr a) (inl b) = inl (omega (arith, a.0))
leads_on h x y (inr a) (inr b) = inr (omega (arith, a.0, b.0), omega (arith, a.1, b.1))

leads_test : (h x : Pair) → leads h x ≡ true → Leads h x
leads_test h x e =
    by_test (ltb x.len h.len)
    (λ t. inl (ltb-true x.len h.len t))
    (λ t. let b = both (eqb h.len x.len) (ltb h.start x.start) (simp t at e) in
    inr (sym (eqb-true h.len x.len b.0), ltb-true h.start x.start b.1))

follows_test : (h x : Pair) → leads h x ≡ false → (x.start ≡ h.start → ⊥) → Leads x h
follows_test h x e n =
    by_test (ltb x.len h.len)
    (λ t. absurd (let z : true ≡ false = simp t at e in let y : ◌≡◌ {A = ℕ} 0 1 = cc in omega arith))
    (λ t. by_test (eqb h.len x.len)
    (λ u. inr (eqb-true h.len x.len u, omega (arith, n, ltb-false h.start x.start (simp (t, u) at e))))
    (λ u. inl (omega (arith, ltb-false x.len h.len t, eqb-false h.len x.len u))))

abbrev BySize : List Pair → Type 0
BySize l = (h x : Pair) → Earlier h x l → Leads h x

put_in_order : (h : Pair) (l : List Pair) → NotAt h.start l → BySize l → BySize (put_by leads h l)
put_in_order h [] n o = alone
  where
    alone : BySize (h ∷ [])
    alone a b (inl k) = absurd k.1
    alone a b (inr k) = absurd k
put_in_order h (x ∷ xs) n o =
    by_test (leads h x)
    (λ t. simp t (front (leads_test h x t)))
    (λ t. simp t (later (follows_test h x t n.0) (put_in_order h xs n.1 (λ a b k. o a b (inr k)))))
  where
    front : Leads h x → BySize (h ∷ x ∷ xs)
    front k a b (inl (e, inl f)) = subst (λ (y : Pair). Leads a y) (sym f) (subst (λ (y : Pair). Leads y x) (sym e) k)
    front k a b (inl (e, inr i)) = subst (λ (y : Pair). Leads y b) (sym e) (leads_on h x b k (o x b (inl (refl, i))))
    front k a b (inr j) = o a b j

    first : Leads x h → (b : Pair) → (b ≡ h) ⊎ In b xs → Leads x b
    first k b (inl e) = subst (λ (y : Pair). Leads x y) (sym e) k
    first k b (inr i) = o x b (inl (refl, i))

    later : Leads x h → BySize (put_by leads h xs) → BySize (x ∷ put_by leads h xs)
    later k ih a b (inl (e, i)) = subst (λ (y : Pair). Leads y b) (sym e) (first k b (put_by_in leads b h xs i))
    later k ih a b (inr j) = ih a b j

sorted_in_order : (l : List Pair) → StartsApart l → BySize (by_size l)
sorted_in_order [] a = λ h x k. absurd k
sorted_in_order (q ∷ qs) a = put_in_order q (by_size qs) (not_sorted leads q.start qs a.0) (sorted_in_order qs a.1)

pub largest_first : (l : List Pair) → StartsApart l → LargestFirst l (by_size l)
largest_first l a = record { same_holes = λ h. (sorted_in leads h l, in_sorted leads h l); largest_first = sorted_in_order l a }
