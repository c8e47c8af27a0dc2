-- Free spans and objects together cover every bit once: the entries of all zones fill the map's disc bits, so a bit lies in one
-- of them, and it is free or one object's; and a list that a bit lies in at most once has one place for it.
use mathlib.Core.Path.{◌≡◌, refl, sym, ap, ap₂, ◌∙◌, subst}
use mathlib.Core.List.{List, [], ◌∷◌, ◌++◌, map}
use Prim.Native.Nat.{ℕ, suc, ◌+◌, ◌<◌, ◌≤◌}
use native.Mathlib.Omega.{arith}
use lib.Dec.{eqb, ltb}
use borrow.Author.Tests.{ltb-true, ltb-false, eqb-true, eqb-false}
use Rattle.bits.proofs.Tests.{by_test}
use Rattle.geometry.specs.declared.Geometry.{Geometry}
use Rattle.geometry.specs.Places.{disc_bits}
use Rattle.model.specs.Chain.{Pair, Holder, free, owned, Entry}
use Rattle.model.specs.Pieces.{Piece, owned_if, owned_of, to_disc, piece_to_disc, pieces_of_zones, pieces_of, late, object_pairs, free_if, free_of, free_spans}
use Rattle.map.specs.Accepted.{AcceptedMap}
use Rattle.listing.specs.Laws.{At, Place, span, piece, LiesIn, in_span, in_piece, Covers}
use Rattle.listing.proofs.Filled.{entry_to_disc, disc_entries, map_fills}
use Rattle.listing.proofs.ObjectOrder.{places}
use Rattle.listing.proofs.Hits.{hits, hit_somewhere, hit_at, hit_once, spots, fills_most, fills_some, hits_parts, hits_rotated, hits_of_one, hits_of_two, hit_owner}

-- the owned and the free of all zones, in disc bits
owned_in_disc : (g : Geometry) (z : ℕ) (es fs : List Entry) → owned_of (map (entry_to_disc g z) es ++ fs) ≡ map (piece_to_disc g z) (owned_of es) ++ owned_of fs
owned_in_disc g z [] fs = refl
owned_in_disc g z (e ∷ es) fs = go e.holder (owned_in_disc g z es fs)
  where
    go : (h : Holder) → owned_of (map (entry_to_disc g z) es ++ fs) ≡ map (piece_to_disc g z) (owned_of es) ++ owned_of fs
        → owned_if h (to_disc g z e.at) (owned_of (map (entry_to_disc g z) es ++ fs)) ≡ map (piece_to_disc g z) (owned_if h e.at (owned_of es)) ++ owned_of fs
    go free ih = ih
    go (owned id) ih = ap (λ (r : List Piece). record { at = to_disc g z e.at; owner = id } ∷ r) ih

free_in_disc : (g : Geometry) (z : ℕ) (es fs : List Entry) → free_of (map (entry_to_disc g z) es ++ fs) ≡ map (to_disc g z) (free_of es) ++ free_of fs
free_in_disc g z [] fs = refl
free_in_disc g z (e ∷ es) fs = go e.holder (free_in_disc g z es fs)
  where
    go : (h : Holder) → free_of (map (entry_to_disc g z) es ++ fs) ≡ map (to_disc g z) (free_of es) ++ free_of fs
        → free_if h (to_disc g z e.at) (free_of (map (entry_to_disc g z) es ++ fs)) ≡ map (to_disc g z) (free_if h e.at (free_of es)) ++ free_of fs
    go free ih = ap (λ (r : List Pair). to_disc g z e.at ∷ r) ih
    go (owned id) ih = ih

pub pieces_owned : (g : Geometry) (z : ℕ) (ess : List (List Entry)) → owned_of (disc_entries g z ess) ≡ pieces_of_zones g z ess
pieces_owned g z [] = refl
pieces_owned g z (es ∷ ess) = owned_in_disc g z es (disc_entries g (suc z) ess) ∙ ap (λ (r : List Piece). map (piece_to_disc g z) (owned_of es) ++ r) (pieces_owned g (suc z) ess)

pub spans_free : (g : Geometry) (z : ℕ) (ess : List (List Entry)) → free_of (disc_entries g z ess) ≡ free_spans g z ess
spans_free g z [] = refl
spans_free g z (es ∷ ess) = free_in_disc g z es (disc_entries g (suc z) ess) ∙ ap (λ (r : List Pair). map (to_disc g z) (free_of es) ++ r) (spans_free g (suc z) ess)

module _ {m : List ℕ} {g : Geometry} (a : AcceptedMap m g) where
  abbrev pieces : List Piece
  pieces = pieces_of_zones g 0 a.zones

  abbrev spans : List Pair
  spans = free_spans g 0 a.zones

  abbrev all : List Entry
  all = disc_entries g 0 a.zones

  -- a bit's hits: those of the free spans and of the pieces are those of all entries
  both_hits : (d : ℕ) → hits d spans + hits d (places pieces) ≡ hits d (spots all)
  both_hits d = ap₂ (λ (x : List Pair) (y : List Piece). hits d x + hits d (places y)) (sym (spans_free g 0 a.zones)) (sym (pieces_owned g 0 a.zones)) ∙ hits_parts d all

  at_most_once : (d : ℕ) → hits d spans + hits d (places pieces) ≤ 1
  at_most_once d = omega (arith, both_hits d, fills_most d 0 (disc_bits g) all (map_fills a))

  object_hits : (d id : ℕ) → hits d (object_pairs g id pieces) ≡ hits d (places (pieces_of id pieces))
  object_hits d id = hits_rotated d (late g id) (pieces_of id pieces)

  pub object_once : (d id : ℕ) → hits d (object_pairs g id pieces) ≤ 1
  object_once d id = omega (arith, at_most_once d, object_hits d id, hits_of_one d id pieces)

  somewhere : (d : ℕ) → d < disc_bits g → (p : Place) × LiesIn g a.zones d p
  somewhere d h =
      let f = fills_some d 0 (disc_bits g) all (map_fills a) (omega arith) h in
      by_test (ltb 0 (hits d spans))
      (λ t. let r = hit_somewhere d spans (ltb-true 0 (hits d spans) t) in (span r.0, in_span r.1 r.0 r.2 r.3))
      (λ t. let o = hit_owner d pieces (omega (arith, both_hits d, ltb-false 0 (hits d spans) t)) in
      let r = hit_somewhere d (object_pairs g o.0 pieces) (omega (arith, object_hits d o.0, o.1)) in
      (piece o.0 r.0, in_piece o.0 r.1 r.0 r.2 r.3))

  -- a free bit is no object's, and an object's bit is no other's
  not_both : (d id : ℕ) → 0 < hits d spans → 0 < hits d (object_pairs g id pieces) → ⊥
  not_both d id h k = omega (arith, at_most_once d, object_hits d id, hits_of_one d id pieces)

  one_object : (d i j : ℕ) → 0 < hits d (object_pairs g i pieces) → 0 < hits d (object_pairs g j pieces) → i ≡ j
  one_object d i j h k =
      by_test (eqb i j)
      (λ t. eqb-true i j t)
      (λ t. absurd (omega (arith, at_most_once d, object_hits d i, object_hits d j, hits_of_two d i j (eqb-false i j t) pieces)))

  once : (d : ℕ) (p q : Place) → LiesIn g a.zones d p → LiesIn g a.zones d q → p ≡ q
  once d p q (in_span x i v w) (in_span y j v2 w2) = ap span (hit_once d (omega (arith, at_most_once d)) v v2 w w2)
  once d p q (in_span x i v w) (in_piece id y j v2 w2) = absurd (not_both d id (hit_at d x i spans v w) (hit_at d y j (object_pairs g id pieces) v2 w2))
  once d p q (in_piece id y j v2 w2) (in_span x i v w) = absurd (not_both d id (hit_at d x i spans v w) (hit_at d y j (object_pairs g id pieces) v2 w2))
  once d p q (in_piece id x i v w) (in_piece id2 y j v2 w2) =
      let e : id2 ≡ id = one_object d id2 id (hit_at d y j (object_pairs g id2 pieces) v2 w2) (hit_at d x i (object_pairs g id pieces) v w) in
      let v3 : At y j (object_pairs g id pieces) = subst (λ (k : ℕ). At y j (object_pairs g k pieces)) e v2 in
      let k : i ≡ j = hit_once d (object_once d id) v v3 w w2 in
      ap₂ piece (sym e) k

  pub covers : Covers g a.zones
  covers = record { somewhere = somewhere; once = once }
