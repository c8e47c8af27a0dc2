-- Free spans and an object's pieces come in their order: the entries fill the map, so the owned ones ascend and lie apart, and so do
-- those that pass a test; and of two places in two lists joined, both are in one of them, or the earlier is in the first.
use mathlib.Core.Path.{◌≡◌, refl, subst, subst⁻¹}
use mathlib.Core.Bool.{Bool, true, false, cond, not}
use mathlib.Core.List.{List, [], ◌∷◌, ◌++◌}
use mathlib.Core.Logic.{◌⊎◌, inl, inr}
use Prim.Native.Nat.{ℕ, suc, ◌+◌, ◌<◌, ◌≤◌}
use native.Mathlib.Omega.{arith}
use lib.Dec.{leb}
use lib.ListN.{length}
use borrow.Author.Tests.{leb-true, leb-false, not-true}
use Rattle.bits.proofs.Tests.{by_test}
use Rattle.geometry.specs.declared.Geometry.{Geometry}
use Rattle.geometry.specs.Places.{disc_bits, zone_of, start_zone}
use Rattle.model.specs.Chain.{Pair, Holder, free, owned, Entry}
use Rattle.model.specs.Pieces.{Piece, keep, owned_if, owned_of, pieces_of_zones, pieces_of, is_of, late, object_pairs, InObjectOrder, wrapped, both_late, both_early, free_spans}
use Rattle.map.specs.Accepted.{AcceptedMap}
use Rattle.listing.specs.Laws.{At, first, later}
use Rattle.listing.proofs.Filled.{Fills, disc_entries, map_fills}
use Rattle.listing.proofs.Ascend.{Apart, apart_from, apart_at, apart_in_turn, map_apart}
use Rattle.listing.proofs.FreeHeld.{free_spans_law}
use Rattle.listing.proofs.ObjectOrder.{places, places_append}
use Rattle.listing.proofs.Cover.{pieces_owned}

-- the owned of entries that fill a stretch
owned_apart : (at end : ℕ) (es : List Entry) → Fills at end es → Apart at end (places (owned_of es))
owned_apart at end [] f = omega arith
owned_apart at end (e ∷ es) f = go e.holder (owned_apart (at + e.at.len) end es f.2)
  where
    go : (h : Holder) → Apart (at + e.at.len) end (places (owned_of es)) → Apart at end (places (owned_if h e.at (owned_of es)))
    go free k = apart_from at (at + e.at.len) end (places (owned_of es)) (omega arith) k
    go (owned id) k =
        (omega (arith, f.0), f.1, apart_from (e.at.start + e.at.len) (at + e.at.len) end (places (owned_of es)) (omega (arith, f.0)) k)

-- those that pass a test, and they do pass it
kept_apart : (t : Piece → Bool) (at end : ℕ) (ps : List Piece) → Apart at end (places ps) → Apart at end (places (keep t ps))
kept_apart t at end [] k = k
kept_apart t at end (p ∷ ps) k =
    let r = kept_apart t (p.at.start + p.at.len) end ps k.2 in
    by_test (t p)
    (λ u. rw u (k.0, k.1, r))
    (λ u. rw u (apart_from at (p.at.start + p.at.len) end (places (keep t ps)) (omega (arith, k.0)) r))

kept_passes : (t : Pair → Bool) {q : Pair} {i : ℕ} (ps : List Piece) → At q i (places (keep (λ p. t p.at) ps)) → t q ≡ true
kept_passes t [] v = elim v [ ]
kept_passes t (p ∷ ps) v = go (keep (λ x. t x.at) ps) (t p.at) refl v (λ k w. kept_passes t ps w)
  where
    go : (r : List Piece) (b : Bool) {q : Pair} {i : ℕ} → t p.at ≡ b → At q i (places (cond b (p ∷ r) r)) → ((k : ℕ) → At q k (places r) → t q ≡ true) → t q ≡ true
    go r true u first ih = u
    go r true u (later w) ih = ih _ w
    go r false u w ih = ih _ w

-- a place of two lists joined is one of the first, or one of the second behind all of the first
abbrev InEither : Pair → ℕ → List Pair → List Pair → Type 0
InEither q i ps qs = ((i < length ps) × At q i ps) ⊎ ((k : ℕ) × (i ≡ length ps + k) × At q k qs)

in_either : {q : Pair} {i : ℕ} (ps qs : List Pair) → At q i (ps ++ qs) → InEither q i ps qs
in_either {i = i} [] qs v = inr (i, omega arith, v)
in_either (p ∷ ps) qs first = inl (omega arith, first)
in_either {q} (p ∷ ps) qs (later {i = i} v) = go (in_either ps qs v)
  where
    go : InEither q i ps qs → InEither q (suc i) (p ∷ ps) qs
    go (inl w) = inl (omega (arith, w.0), later w.1)
    go (inr w) = inr (w.0, omega (arith, w.1), w.2)

module _ {m : List ℕ} {g : Geometry} (a : AcceptedMap m g) where
  pub spans_ascend : (i j : ℕ) (p q : Pair) → i < j → At p i (free_spans g 0 a.zones) → At q j (free_spans g 0 a.zones) → p.start + p.len ≤ q.start
  spans_ascend i j p q h v w =
      apart_in_turn 0 (disc_bits g) h v w (subst⁻¹ (λ (x : List Pair). Apart 0 (disc_bits g) x) (free_spans_law a) (map_apart a 0))

  pieces_apart : Apart 0 (disc_bits g) (places (pieces_of_zones g 0 a.zones))
  pieces_apart =
      subst (λ (x : List Piece). Apart 0 (disc_bits g) (places x)) (pieces_owned g 0 a.zones)
      (owned_apart 0 (disc_bits g) (disc_entries g 0 a.zones) (map_fills a))

  module _ (id : ℕ) where
    -- the object's pieces that pass a test
    abbrev passed : (Piece → Bool) → List Piece
    passed t = keep t (pieces_of id (pieces_of_zones g 0 a.zones))

    abbrev early : Piece → Bool
    early p = not (late g id p)

    passed_apart : (t : Piece → Bool) → Apart 0 (disc_bits g) (places (passed t))
    passed_apart t =
        let ps : List Piece = pieces_of_zones g 0 a.zones in
        kept_apart t 0 (disc_bits g) (pieces_of id ps) (kept_apart (is_of id) 0 (disc_bits g) ps pieces_apart)

    passed_ascend : (t : Piece → Bool) (i j : ℕ) (p q : Pair) → i < j → At p i (places (passed t)) → At q j (places (passed t)) → p.start + p.len ≤ q.start
    passed_ascend t i j p q h v w = apart_in_turn 0 (disc_bits g) h v w (passed_apart t)

    is_late : (i : ℕ) (q : Pair) → At q i (places (passed (late g id))) → start_zone g id ≤ zone_of g q.start
    is_late i q v =
        leb-true (start_zone g id) (zone_of g q.start)
        (kept_passes (λ x. leb (start_zone g id) (zone_of g x.start)) (pieces_of id (pieces_of_zones g 0 a.zones)) v)

    is_early : (i : ℕ) (q : Pair) → At q i (places (passed early)) → zone_of g q.start < start_zone g id
    is_early i q v =
        leb-false (start_zone g id) (zone_of g q.start)
        (not-true _ (kept_passes (λ x. not (leb (start_zone g id) (zone_of g x.start))) (pieces_of id (pieces_of_zones g 0 a.zones)) v))

    in_order : (i j : ℕ) (p q : Pair) → i < j → InEither p i (places (passed (late g id))) (places (passed early))
        → InEither q j (places (passed (late g id))) (places (passed early)) → InObjectOrder g (start_zone g id) p q
    in_order i j p q h (inl v) (inl w) = both_late (is_late i p v.1) (is_late j q w.1) (passed_ascend (late g id) i j p q h v.1 w.1)
    in_order i j p q h (inl v) (inr w) = wrapped (is_late i p v.1) (is_early w.0 q w.2)
    in_order i j p q h (inr v) (inl w) = absurd (omega (arith, v.1, w.0))
    in_order i j p q h (inr v) (inr w) =
        both_early (is_early v.0 p v.2) (is_early w.0 q w.2) (passed_ascend early v.0 w.0 p q (omega (arith, v.1, w.1)) v.2 w.2)

    -- a place of the object's pieces is one of those from the start zone on, or one of those before it
    in_parts : (i : ℕ) (q : Pair) → At q i (object_pairs g id (pieces_of_zones g 0 a.zones)) → InEither q i (places (passed (late g id))) (places (passed early))
    in_parts i q v = in_either (places (passed (late g id))) (places (passed early)) (subst (At q i) (places_append (passed (late g id)) (passed early)) v)

    pub pieces_ascend : (i j : ℕ) (p q : Pair) → i < j → At p i (object_pairs g id (pieces_of_zones g 0 a.zones)) → At q j (object_pairs g id (pieces_of_zones g 0 a.zones))
        → InObjectOrder g (start_zone g id) p q
    pieces_ascend i j p q h v w = in_order i j p q h (in_parts i p v) (in_parts j q w)

    -- each has some bits
    pub piece_some : (i : ℕ) (q : Pair) → At q i (object_pairs g id (pieces_of_zones g 0 a.zones)) → 0 < q.len
    piece_some i q v = go (in_parts i q v)
      where
        go : InEither q i (places (passed (late g id))) (places (passed early)) → 0 < q.len
        go (inl w) = (apart_at 0 (disc_bits g) w.1 (passed_apart (late g id))).1
        go (inr w) = (apart_at 0 (disc_bits g) w.2 (passed_apart early)).1
