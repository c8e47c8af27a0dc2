-- An object's sweep covers exactly the addresses of its bytes: an address is covered exactly when its map bit lies in some pair, and
-- in how many it lies does not hang on their order. Free space has none of them, since each bit lies in one place only.
use mathlib.Core.Path.{◌≡◌, refl, sym, ap, ap₂, ◌∙◌}
use mathlib.Core.Bool.{Bool, true, false, ◌&&◌, false≢true}
use mathlib.Core.List.{List, [], ◌∷◌}
use Prim.Native.Nat.{ℕ, ◌+◌, ◌-◌, ◌*◌, ◌/◌, ◌<◌, ◌≤◌}
use native.Mathlib.Nat.{div-lt_iff_lt-mul, le-div_iff_mul-le}
use native.Mathlib.Omega.{arith}
use lib.Dec.{leb, ltb}
use borrow.Author.Tests.{le-leb, lt-leb, lt-ltb, le-ltb, leb-true, leb-false, ltb-true, ltb-false}
use Rattle.bits.proofs.Tests.{by_test, both}
use Rattle.geometry.specs.declared.Geometry.{Geometry}
use Rattle.model.specs.Chain.{Pair}
use Rattle.model.specs.Pieces.{pieces_of_zones, pieces_of, late, object_pairs, free_spans}
use Rattle.map.specs.Accepted.{AcceptedMap}
use Rattle.listing.specs.Laws.{Place, span, piece, in_span, in_piece}
use Rattle.listing.proofs.Hits.{hits, hit_somewhere, hits_rotated}
use Rattle.listing.proofs.Cover as cover
use Rattle.address.specs.Address.{at, seek}
use Rattle.sweep.specs.Sweep.{in_pair, covers, object_spans}
use Rattle.address.proofs.OneToOne.{seek_hit}

-- a covered address is that of a byte of the joined pairs: the bytes before its pair, and its place in the pair
covered_sought : (unit : ℕ) (qs : List Pair) (a : ℕ) → covers unit qs a ≡ true → (i : ℕ) × (seek unit qs i ≡ at a)
covered_sought unit [] a h = absurd (false≢true h)
covered_sought unit (q ∷ qs) a h =
    let s : ℕ = q.start * unit in
    let l : ℕ = q.len * unit in
    by_test (in_pair unit q a)
    (λ t. let b = both (leb s a) (ltb a ((q.start + q.len) * unit)) t in
    let low : s ≤ a = leb-true s a b.0 in
    let high : a < (q.start + q.len) * unit = ltb-true a ((q.start + q.len) * unit) b.1 in
    let e : s + (a - s) ≡ a = omega arith in
    (a - s, rw (lt-ltb (a - s) l (omega arith)) (ap at e)))
    (λ t. let r = covered_sought unit qs a (rw t at h) in
    let e : l + r.0 - l ≡ r.0 = omega arith in
    (l + r.0, rw (le-ltb (l + r.0) l (omega arith)) (ap (seek unit qs) e ∙ r.1)))

module _ (unit : ℕ) (some : 0 < unit) where
  -- an address lies in a pair exactly when its bit does
  start_bit : (x a : ℕ) → leb (x * unit) a ≡ leb x (a / unit)
  start_bit x a =
      by_test (leb x (a / unit))
      (λ t. le-leb (x * unit) a ((le-div_iff_mul-le some).0 (leb-true x (a / unit) t)) ∙ sym t)
      (λ t. lt-leb (x * unit) a ((div-lt_iff_lt-mul some).0 (leb-false x (a / unit) t)) ∙ sym t)

  end_bit : (x a : ℕ) → ltb a (x * unit) ≡ ltb (a / unit) x
  end_bit x a =
      by_test (ltb (a / unit) x)
      (λ t. lt-ltb a (x * unit) ((div-lt_iff_lt-mul some).0 (ltb-true (a / unit) x t)) ∙ sym t)
      (λ t. le-ltb a (x * unit) ((le-div_iff_mul-le some).0 (ltb-false (a / unit) x t)) ∙ sym t)

  covers_hits : (qs : List Pair) (a : ℕ) → covers unit qs a ≡ ltb 0 (hits (a / unit) qs)
  covers_hits [] a = refl
  covers_hits (q ∷ qs) a =
      let d : ℕ = a / unit in
      let e : in_pair unit q a ≡ (leb q.start d && ltb d (q.start + q.len)) = ap₂ (λ (x y : Bool). x && y) (start_bit q.start a) (end_bit (q.start + q.len) a) in
      by_test (leb q.start d && ltb d (q.start + q.len))
      (λ t. rw (e, t) (sym (lt-ltb 0 (1 + hits d qs) (omega arith))))
      (λ t. let z : hits d qs ≡ 0 + hits d qs = omega arith in rw (e, t) (covers_hits qs a ∙ ap (ltb 0) z))

-- a free span is no object's piece
span_no_piece : (i id j : ℕ) → span i ≡ piece id j → ⊥
span_no_piece i id j e = let x : ◌≡◌ {A = ℕ} 0 1 = cc in omega arith

module _ {m : List ℕ} {g : Geometry} (a : AcceptedMap m g) (id : ℕ) where
  abbrev pairs : List Pair
  pairs = object_pairs g id (pieces_of_zones g 0 a.zones)

  some_unit : 0 < g.unit
  some_unit = omega (arith, a.readable.numbers.unit_low)

  -- from zone 0 on, or in object order
  any_order : (x : ℕ) → covers g.unit pairs x ≡ covers g.unit (object_spans g id a.zones) x
  any_order x =
      covers_hits g.unit some_unit pairs x
      ∙ ap (ltb 0) (hits_rotated (x / g.unit) (late g id) (pieces_of id (pieces_of_zones g 0 a.zones)))
      ∙ sym (covers_hits g.unit some_unit (object_spans g id a.zones) x)

  pub object_reached : (x : ℕ) → covers g.unit (object_spans g id a.zones) x ≡ true → (i : ℕ) × (seek g.unit pairs i ≡ at x)
  object_reached x h = covered_sought g.unit pairs x (any_order x ∙ h)

  pub object_covered : (i x : ℕ) → seek g.unit pairs i ≡ at x → covers g.unit (object_spans g id a.zones) x ≡ true
  object_covered i x e =
      sym (any_order x) ∙ covers_hits g.unit some_unit pairs x ∙ lt-ltb 0 (hits (x / g.unit) pairs) (seek_hit g.unit some_unit pairs i x e)

  pub object_not_free : (i x : ℕ) → seek g.unit pairs i ≡ at x → covers g.unit (free_spans g 0 a.zones) x ≡ false
  object_not_free i x e =
      let d : ℕ = x / g.unit in
      let spans : List Pair = free_spans g 0 a.zones in
      by_test (covers g.unit spans x)
      (λ t. let f = hit_somewhere d spans (ltb-true 0 (hits d spans) (sym (covers_hits g.unit some_unit spans x) ∙ t)) in
      let o = hit_somewhere d pairs (seek_hit g.unit some_unit pairs i x e) in
      let s : Place = span f.0 in
      let p : Place = piece id o.0 in
      absurd (span_no_piece f.0 id o.0 ((cover.covers a).once d s p (in_span f.1 f.0 f.2 f.3) (in_piece id o.1 o.0 o.2 o.3))))
      (λ t. t)
