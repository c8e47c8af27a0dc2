-- The pairs that a claim takes, as a list in object order: the same pairs, and given to an object they are the same pieces.
use mathlib.Core.Path.{◌≡◌, refl, sym, ap, ap₂, ◌∙◌, subst}
use mathlib.Core.Bool.{Bool, true, not}
use mathlib.Core.List.{List, [], ◌∷◌, ◌++◌, map, map-append}
use mathlib.Core.Logic.{◌⊎◌, inl, inr}
use Prim.Native.Nat.{ℕ, suc, ◌+◌, ◌≤◌}
use native.Mathlib.Nat.{add-suc}
use native.Mathlib.Omega.{arith}
use lib.Dec.{ltb}
use borrow.Author.Tests.{ltb-true}
use Rattle.bits.proofs.Tests.{by_test}
use Rattle.geometry.specs.declared.Geometry.{Geometry}
use Rattle.geometry.specs.Places.{disc_bits}
use Rattle.model.specs.Chain.{Pair}
use Rattle.model.specs.Pieces.{Piece, keep, late, rotate}
use Rattle.split.specs.Taken.{lower, by_start}
use Rattle.split.specs.Laws.{Ascends}
use Rattle.edits.specs.Order.{Ascending}
use Rattle.edits.specs.Edits.{put, own, give}
use Rattle.edits.specs.Room.{In}
use Rattle.edits.specs.Judge.{in_object_order}
use Rattle.edits.proofs.Kept.{All}
use Rattle.edits.proofs.Entries.{in_append, in_left, in_right, in_keep, in_kept, in_sorted, sorted_in}
use Rattle.edits.proofs.PutIn.{asc_weaken, put_rotate}
use Rattle.edits.proofs.ObjectOrder.{InOrder}
use Rattle.edits.proofs.HolesAscend.{StartsApart, by_start_ascends}

-- the same pairs
module _ (g : Geometry) (id : ℕ) (qs : List Pair) where
  abbrev t : Pair → Bool
  t q = late g id (own id q)

  pub in_order_in : (h : Pair) → In h (in_object_order g id qs) → In h qs
  in_order_in h i = sorted_in lower h qs (go (in_append h (keep t (by_start qs)) (keep (λ q. not (t q)) (by_start qs)) i))
    where
      go : In h (keep t (by_start qs)) ⊎ In h (keep (λ q. not (t q)) (by_start qs)) → In h (by_start qs)
      go (inl j) = (in_kept t h (by_start qs) j).0
      go (inr j) = (in_kept (λ q. not (t q)) h (by_start qs) j).0

  pub in_in_order : (h : Pair) → In h qs → In h (in_object_order g id qs)
  in_in_order h i =
      let j = in_sorted lower h qs i in
      by_test (t h)
      (λ e. in_left h (keep t (by_start qs)) (keep (λ q. not (t q)) (by_start qs)) (in_keep t h (by_start qs) j e))
      (λ e. in_right h (keep t (by_start qs)) (keep (λ q. not (t q)) (by_start qs)) (in_keep (λ q. not (t q)) h (by_start qs) j (ap not e)))

-- as pieces of the object
map_keep : (id : ℕ) (u : Piece → Bool) (l : List Pair) → map (own id) (keep (λ q. u (own id q)) l) ≡ keep u (map (own id) l)
map_keep id u [] = refl
map_keep id u (q ∷ qs) = by_test (u (own id q)) (λ k. simp k (ap (λ (r : List Piece). own id q ∷ r) (map_keep id u qs))) (λ k. simp k (map_keep id u qs))

map_rotate : (id : ℕ) (u : Piece → Bool) (l : List Pair) → map (own id) (rotate (λ q. u (own id q)) l) ≡ rotate u (map (own id) l)
map_rotate id u l =
    map-append (own id) (keep (λ q. u (own id q)) l) (keep (λ q. not (u (own id q))) l)
    ∙ ap₂ (λ (x y : List Piece). x ++ y) (map_keep id u l) (map_keep id (λ p. not (u p)) l)

ascending_own : (id f : ℕ) (l : List Pair) → Ascends f l → Ascending f (map (own id) l)
ascending_own id f [] a = tt
ascending_own id f (q ∷ qs) a = (a.0, ascending_own id (suc q.start) qs a.1)

-- ascending pieces of the disc's n bits, those that are late first: in object order
module _ (u : Piece → Bool) (n : ℕ) where
  order_lower : (a b : ℕ) (l : List Piece) → a ≤ b → InOrder u n b l → InOrder u n a l
  order_lower a b [] k o = tt
  order_lower a b (p ∷ ps) k o = (o.0, omega (arith, o.1), o.2)

  order_early : (f : ℕ) (l : List Piece) → Ascending f l → All (λ p. ltb p.at.start n) l → InOrder u n (n + f) (keep (λ p. not (u p)) l)
  order_early f [] a w = tt
  order_early f (p ∷ ps) a w =
      by_test (u p)
      (λ k. simp k (order_early f ps (asc_weaken ps (omega arith) a.1) w.1))
      (λ k. simp k (ltb-true p.at.start n w.0, omega arith, rw (← add-suc n p.at.start) (order_early (suc p.at.start) ps a.1 w.1)))

  order_late : (f : ℕ) (l r : List Piece) → f ≤ n → Ascending f l → All (λ p. ltb p.at.start n) l → ((k : ℕ) → k ≤ n → InOrder u n k r) → InOrder u n f (keep u l ++ r)
  order_late f [] r h a w o = o f h
  order_late f (p ∷ ps) r h a w o =
      let b = ltb-true p.at.start n w.0 in
      by_test (u p)
      (λ k. simp k (b, a.0, order_late (suc p.at.start) ps r (omega arith) a.1 w.1 o))
      (λ k. simp k (order_late f ps r h (asc_weaken ps (omega arith) a.1) w.1 o))

  order_rotate : (l : List Piece) → Ascending 0 l → All (λ p. ltb p.at.start n) l → InOrder u n 0 (rotate u l)
  order_rotate l a w = order_late 0 l (keep (λ p. not (u p)) l) (omega arith) a w (λ k h. order_lower k (n + 0) (keep (λ p. not (u p)) l) (omega arith) (order_early 0 l a w))

all_own : (u : Piece → Bool) (id : ℕ) (l : List Pair) → ((q : Pair) → In q l → u (own id q) ≡ true) → All u (map (own id) l)
all_own u id [] h = tt
all_own u id (q ∷ qs) h = (h q (inl refl), all_own u id qs (λ x i. h x (inr i)))

module _ (g : Geometry) (id : ℕ) (qs : List Pair) (a : StartsApart qs) where
  pub list_in_order : ((q : Pair) → In q qs → ltb q.start (disc_bits g) ≡ true) → InOrder (late g id) (disc_bits g) 0 (map (own id) (in_object_order g id qs))
  list_in_order w =
      subst (InOrder (late g id) (disc_bits g) 0) (sym (map_rotate id (late g id) (by_start qs)))
      (order_rotate (late g id) (disc_bits g) (map (own id) (by_start qs)) (ascending_own id 0 (by_start qs) (by_start_ascends qs a))
      (all_own (λ p. ltb p.at.start (disc_bits g)) id (by_start qs) (λ q i. w q (sorted_in lower q qs i))))

  pub list_gives : (l : List Piece) → give id (in_object_order g id qs) l ≡ give id (by_start qs) l
  list_gives l =
      ap (λ (ps : List Piece). put ps l) (map_rotate id (late g id) (by_start qs))
      ∙ put_rotate (late g id) 0 (map (own id) (by_start qs)) l (ascending_own id 0 (by_start qs) (by_start_ascends qs a))

pub all_in_order : (u : Piece → Bool) (g : Geometry) (id : ℕ) (qs : List Pair) → ((q : Pair) → In q qs → u (own id q) ≡ true) → All u (map (own id) (in_object_order g id qs))
all_in_order u g id qs h = all_own u id (in_object_order g id qs) (λ q i. h q (in_order_in g id qs q i))
