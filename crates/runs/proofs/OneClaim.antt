-- The rules of a claim fit one id and one list: of two holes that are long enough one is tried first, holes stand in the order of their size in one way,
-- what is taken from the front is one list, of two unused ids one is the lower, and pairs stand in object order in one way.
use mathlib.Core.Path.{◌≡◌, sym, ap, ap₂, ◌∙◌, subst}
use mathlib.Core.List.{List, [], ◌∷◌}
use mathlib.Core.Option.{some}
use mathlib.Core.Logic.{◌⊎◌, inl, inr}
use Prim.Native.Nat.{ℕ, ◌+◌, ◌<◌, max}
use native.Mathlib.Omega.{arith}
use lib.Dec.{eqb, ltb}
use borrow.Author.Tests.{eqb-true, eqb-false, ltb-true, ltb-false}
use Rattle.bits.proofs.Tests.{by_test}
use Rattle.geometry.specs.declared.Geometry.{Geometry}
use Rattle.geometry.specs.Record.{geometry_of}
use Rattle.geometry.specs.Places.{zone_of, start_zone}
use Rattle.model.specs.Answer.{Answer, answered}
use Rattle.model.specs.Chain.{Pair}
use Rattle.model.specs.Pieces.{InObjectOrder, wrapped, both_late, both_early}
use Rattle.model.proofs.Options.{some_some}
use Rattle.split.specs.Taken.{cut, take_from}
use Rattle.split.proofs.Front.{taken_front}
use Rattle.edits.specs.Edits.{Edit, gives}
use Rattle.edits.specs.Judge.{need}
use Rattle.edits.specs.Room.{In, Earlier}
use Rattle.edits.proofs.Entries.{one_earlier}
use Rattle.model.specs.Shown.{spans_on}
use Rattle.runs.specs.ZonesTried.{Nearer}
use Rattle.runs.specs.Claims.{NearestHole, InTurn, one, several, FromFront, ClaimRules}
use Rattle.runs.specs.Refusals.{ClaimTakes}
use Rattle.runs.proofs.ZonesTried.{nearer_total}
use Rattle.runs.proofs.SortedOnce.{sorted_once, leads_one_way}

-- two pairs do not come before each other in object order, if they have bits
order_one_way : (g : Geometry) (start : ℕ) (q p : Pair) → 0 < q.len → 0 < p.len → InObjectOrder g start q p → InObjectOrder g start p q → ⊥
order_one_way g start q p a b (wrapped s t) (wrapped u v) = omega arith
order_one_way g start q p a b (wrapped s t) (both_late u v k) = omega arith
order_one_way g start q p a b (wrapped s t) (both_early u v k) = omega arith
order_one_way g start q p a b (both_late s t h) (wrapped u v) = omega arith
order_one_way g start q p a b (both_late s t h) (both_late u v k) = omega arith
order_one_way g start q p a b (both_late s t h) (both_early u v k) = omega arith
order_one_way g start q p a b (both_early s t h) (wrapped u v) = omega arith
order_one_way g start q p a b (both_early s t h) (both_late u v k) = omega arith
order_one_way g start q p a b (both_early s t h) (both_early u v k) = omega arith

module _ (m : List ℕ) (size parent : ℕ) where
  -- of two holes that differ one is tried before the other
  same_hole : (x y : Pair) → NearestHole m size parent x → NearestHole m size parent y → x ≡ y
  same_hole x y a b = by_zone (nearer_total parent (zone_of (geometry_of m) x.start) (zone_of (geometry_of m) y.start))
    where
      in_zone_law : zone_of (geometry_of m) x.start ≡ zone_of (geometry_of m) y.start → (x ≡ y) ⊎ (Earlier x y (spans_on m) ⊎ Earlier y x (spans_on m)) → x ≡ y
      in_zone_law s (inl e) = e
      in_zone_law s (inr (inl e)) = absurd (omega (arith, b.first x e s, a.enough))
      in_zone_law s (inr (inr e)) = absurd (omega (arith, a.first y e (sym s), b.enough))

      by_zone : (zone_of (geometry_of m) x.start ≡ zone_of (geometry_of m) y.start)
          ⊎ (Nearer parent (zone_of (geometry_of m) x.start) (zone_of (geometry_of m) y.start) ⊎ Nearer parent (zone_of (geometry_of m) y.start) (zone_of (geometry_of m) x.start))
          → x ≡ y
      by_zone (inl s) = in_zone_law s (one_earlier x y (spans_on m) a.free b.free)
      by_zone (inr (inl n)) = absurd (omega (arith, b.nearest x a.free n, a.enough))
      by_zone (inr (inr n)) = absurd (omega (arith, a.nearest y b.free n, b.enough))

  same_order : (hs ks : List Pair) → InTurn m size parent hs → InTurn m size parent ks → hs ≡ ks
  same_order hs ks (one h a) (one k b) = ap (λ (x : Pair). x ∷ []) (same_hole h k a b)
  same_order hs ks (one h a) (several order n b) = absurd (omega (arith, n h a.free, a.enough))
  same_order hs ks (several order n a) (one k b) = absurd (omega (arith, n k b.free, b.enough))
  same_order hs ks (several xs n a) (several ys o b) =
      sorted_once _ xs ys (λ h x i j. leads_one_way h x) a.largest_first b.largest_first
      (λ h i. (b.same_holes h).1 ((a.same_holes h).0 i)) (λ h i. (a.same_holes h).1 ((b.same_holes h).0 i))

  -- what is taken from the front
  front_is : (hs ts : List Pair) → FromFront m size hs ts → take_from (geometry_of m).shortest (need (geometry_of m) size) hs ≡ some ts
  front_is hs ts f =
      let s = (geometry_of m).shortest in
      taken_front s (need (geometry_of m) size) hs ts
      (record {
        whole = f.whole;
        hole = f.hole;
        behind = f.behind;
        last = f.last;
        holes_are = f.holes_are;
        taken_are = f.taken_are;
        rest = f.rest;
        remains = f.remains;
        some_remain = f.some_remain;
        enough = f.enough;
        last_is = same_pair f.last (cut s f.rest f.hole) f.start
            (by_test (ltb f.hole.len (max f.rest s + s))
            (λ t. simp t (f.all_of_it (ltb-true f.hole.len (max f.rest s + s) t)))
            (λ t. simp t (f.part (ltb-false f.hole.len (max f.rest s + s) t))));
      })
    where
      same_pair : (q p : Pair) → q.start ≡ p.start → q.len ≡ p.len → q ≡ p
      same_pair q p s n = λ i. record { start = s i; len = n i }

  module _ (i j : ℕ) (qs ps : List Pair) (a : ClaimRules m size parent i qs) (b : ClaimRules m size parent j ps) where
    orders : a.order ≡ b.order
    orders = same_order a.order b.order a.in_turn_law b.in_turn_law

    same_taken : a.taken ≡ b.taken
    same_taken = some_some (sym (front_is a.order a.taken a.front) ∙ ap (take_from (geometry_of m).shortest (need (geometry_of m) size)) orders ∙ front_is b.order b.taken b.front)

    same_zone : zone_of (geometry_of m) a.first.start ≡ zone_of (geometry_of m) b.first.start
    same_zone = ap zone (sym a.first_is ∙ orders ∙ b.first_is)
      where
        zone : List Pair → ℕ
        zone [] = 0
        zone (h ∷ hs) = zone_of (geometry_of m) h.start

  -- of two unused ids of its zone one is the lower, and so of all where the zone has none
  not_lower : (i j : ℕ) (qs ps : List Pair) → ClaimRules m size parent i qs → ClaimRules m size parent j ps → i < j → ⊥
  not_lower i j qs ps a b k =
      let g = geometry_of m in
      let z = zone_of g b.first.start in
      let e : zone_of g a.first.start ≡ z = same_zone i j qs ps a b in
      by_test (eqb (start_zone g i) z)
      (λ t. b.lowest_there i a.from_3 k (eqb-true (start_zone g i) z t) a.unused)
      (λ t. by_test (eqb (start_zone g j) z)
      (λ u. a.none_there (λ s. eqb-false (start_zone g i) z t (s ∙ e)) j b.from_3 b.below (eqb-true (start_zone g j) z u ∙ sym e) b.unused)
      (λ u. b.lowest_of_all (eqb-false (start_zone g j) z u) i a.from_3 k a.unused))

  same_id : (i j : ℕ) (qs ps : List Pair) → ClaimRules m size parent i qs → ClaimRules m size parent j ps → i ≡ j
  same_id i j qs ps a b =
      by_test (ltb i j)
      (λ t. absurd (not_lower i j qs ps a b (ltb-true i j t)))
      (λ t. by_test (ltb j i)
      (λ u. absurd (not_lower j i ps qs b a (ltb-true j i u)))
      (λ u. omega (arith, ltb-false i j t, ltb-false j i u)))

  -- the pairs in object order for that id
  pub same_list : (i j : ℕ) (qs ps : List Pair) → ClaimRules m size parent i qs → ClaimRules m size parent j ps → qs ≡ ps
  same_list i j qs ps a b =
      let g = geometry_of m in
      let t = same_taken i j qs ps a b in
      sorted_once (InObjectOrder g (start_zone g i)) qs ps
      (λ q p k l. order_one_way g (start_zone g i) q p (a.some_bits q k) (a.some_bits p l))
      a.in_order (subst (λ (x : ℕ). (q p : Pair) → Earlier q p ps → InObjectOrder g (start_zone g x) q p) (sym (same_id i j qs ps a b)) b.in_order)
      (λ q k. (b.same_pairs q).1 (subst (In q) t ((a.same_pairs q).0 k)))
      (λ q k. (a.same_pairs q).1 (subst (In q) (sym t) ((b.same_pairs q).0 k)))

  pub one_claim : (r s : Answer Edit) → ClaimTakes m size parent r → ClaimTakes m size parent s → r ≡ s
  one_claim r s x y =
      x.2 ∙ ap₂ (λ (i : ℕ) (qs : List Pair). answered (gives i qs)) (same_id x.0 y.0 x.1 y.1 x.3 y.3) (same_list x.0 y.0 x.1 y.1 x.3 y.3) ∙ sym y.2
