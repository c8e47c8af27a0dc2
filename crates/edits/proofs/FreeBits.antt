-- Which bits are free on a map in which no two free fragments touch: those of the disc map that no piece has, since the spans are the holes
-- between the pieces.
use mathlib.Core.Path.{◌≡◌, refl, sym, ap, subst, subst⁻¹}
use mathlib.Core.List.{List, [], ◌∷◌}
use mathlib.Core.Logic.{◌⊎◌, ◌↔◌, inl, inr}
use Prim.Native.Nat.{ℕ, suc, ◌+◌, ◌-◌, ◌*◌, ◌<◌, ◌≤◌}
use native.Mathlib.Nat.{div-mul-le_self, div-lt_iff_lt-mul}
use native.Mathlib.Omega.{arith}
use lib.Dec.{eqb, ltb}
use borrow.Author.Tests.{eq-eqb, ltb-true, ltb-false, lt-ltb}
use Rattle.bits.proofs.Tests.{by_test}
use Rattle.geometry.specs.declared.Geometry.{Geometry}
use Rattle.geometry.specs.Record.{geometry_of}
use Rattle.geometry.specs.Accepted.{AcceptedGeometry}
use Rattle.geometry.specs.Places.{zone_of, zone_from, zone_end, disc_bits}
use Rattle.model.specs.Chain.{Pair, Within}
use Rattle.model.specs.Pieces.{Piece}
use Rattle.model.specs.Shown.{zones_of, pieces_on, spans_on}
use Rattle.model.proofs.ChainDrawn.{Lies}
use Rattle.model.proofs.ZoneDrawn.{lies_le}
use Rattle.edits.specs.Edits.{in_zone}
use Rattle.edits.specs.Holes.{hole, holes, holes_from}
use Rattle.edits.specs.Room.{In, InSome}
use Rattle.edits.specs.Editable.{Editable}
use Rattle.edits.proofs.Entries.{all_in, in_keep, in_kept}
use Rattle.edits.proofs.ClaimFits.{in_holes, holes_in_law}
use Rattle.edits.proofs.Invariant.{FitPieces, some_zone, on_disc, zoned_on_disc, in_zone_law}
use Rattle.edits.proofs.MapAccepted.{map_geometry, map_disc}
use Rattle.edits.proofs.HolesAscend.{zone_lies}
use Rattle.edits.proofs.HolesSpans.{holes_are_spans}

-- where pieces lie that come one after another
pub lies_from : (at end : ℕ) (l : List Piece) (p : Piece) → Lies at end l → In p l → (at ≤ p.at.start) × (0 < p.at.len) × (p.at.start + p.at.len ≤ end)
lies_from at end [] p w i = absurd i
lies_from at end (x ∷ xs) p w (inl e) =
    subst (λ (y : Piece). (at ≤ y.at.start) × (0 < y.at.len) × (y.at.start + y.at.len ≤ end)) (sym e) (w.0, w.1, lies_le (x.at.start + x.at.len) end xs w.2)
lies_from at end (x ∷ xs) p w (inr i) = let r = lies_from (x.at.start + x.at.len) end xs p w.2 i in (omega arith, r.1, r.2)

-- a pair that ends in its zone has all its bits there
pub bit_zone : (g : Geometry) (q : Pair) (d : ℕ) → q.start + q.len ≤ zone_end g (zone_of g q.start) → Within q d → zone_of g d ≡ zone_of g q.start
bit_zone g q d h w = in_zone_law g (zone_of g q.start) d (omega (arith, div-mul-le_self (q.start + 480) g.bits)) (omega arith)

-- no piece has bit d
abbrev pub NoneHas : List Piece → ℕ → Type 0
NoneHas l d = (p : Piece) → In p l → Within p.at d → ⊥

-- the bits of a hole
pub in_hole : (at end : ℕ) (rest : List Pair) (d : ℕ) → InSome (hole at end rest) d → ((at ≤ d) × (d < end)) ⊎ InSome rest d
in_hole at end rest d w =
    by_test (ltb at end)
    (λ t. go w.0 (simp t at w.1) w.2 (ltb-true at end t))
    (λ t. inr (w.0, simp t at w.1, w.2))
  where
    go : (q : Pair) → In q (record { start = at; len = end - at } ∷ rest) → Within q d → at < end → ((at ≤ d) × (d < end)) ⊎ InSome rest d
    go q (inl e) k h =
        let s : q.start ≡ at = ap (λ (x : Pair). x.start) e in
        let n : q.len ≡ end - at = ap (λ (x : Pair). x.len) e in
        inl (omega arith, omega arith)
    go q (inr j) k h = inr (q, j, k)

hole_in : (at end : ℕ) (rest : List Pair) (d : ℕ) → at ≤ d → d < end → InSome (hole at end rest) d
hole_in at end rest d lo hi = simp (lt-ltb at end (omega arith)) (record { start = at; len = end - at }, inl refl, (lo, omega arith))

hole_on : (at end : ℕ) (rest : List Pair) (d : ℕ) → InSome rest d → InSome (hole at end rest) d
hole_on at end rest d w = by_test (ltb at end) (λ t. simp t (w.0, inr w.1, w.2)) (λ t. simp t w)

-- of the holes of a zone: between its ends, and of no piece
pub hole_bits : (at end : ℕ) (ps : List Piece) → Lies at end ps → (d : ℕ) → InSome (holes at end ps) d → (at ≤ d) × (d < end) × NoneHas ps d
hole_bits at end [] y d w = go (in_hole at end [] d w)
  where
    go : ((at ≤ d) × (d < end)) ⊎ InSome [] d → (at ≤ d) × (d < end) × NoneHas [] d
    go (inl k) = (k.0, k.1, λ p i v. i)
    go (inr k) = absurd k.1
hole_bits at end (p ∷ ps) y d w =
    go (in_hole at p.at.start (holes (p.at.start + p.at.len) end ps) d w) (hole_bits (p.at.start + p.at.len) end ps y.2 d)
  where
    e : ℕ
    e = p.at.start + p.at.len

    before : d < p.at.start → NoneHas (p ∷ ps) d
    before h x (inl i) v = let u : Within p.at d = subst (λ (z : Piece). Within z.at d) i v in omega arith
    before h x (inr i) v = omega (arith, lies_from (p.at.start + p.at.len) end ps x y.2 i)

    behind : p.at.start + p.at.len ≤ d → NoneHas ps d → NoneHas (p ∷ ps) d
    behind h n x (inl i) v = let u : Within p.at d = subst (λ (z : Piece). Within z.at d) i v in omega arith
    behind h n x (inr i) v = n x i v

    go : ((at ≤ d) × (d < p.at.start)) ⊎ InSome (holes (p.at.start + p.at.len) end ps) d
        → (InSome (holes (p.at.start + p.at.len) end ps) d → (p.at.start + p.at.len ≤ d) × (d < end) × NoneHas ps d) → (at ≤ d) × (d < end) × NoneHas (p ∷ ps) d
    go (inl k) ih = (k.0, omega (arith, lies_le (p.at.start + p.at.len) end ps y.2), before k.1)
    go (inr k) ih = let r = ih k in (omega arith, r.1, behind r.0 r.2)

pub free_holes : (at end : ℕ) (ps : List Piece) → Lies at end ps → (d : ℕ) → at ≤ d → d < end → NoneHas ps d → InSome (holes at end ps) d
free_holes at end [] y d lo hi n = hole_in at end [] d lo hi
free_holes at end (p ∷ ps) y d lo hi n =
    let e : ℕ = p.at.start + p.at.len in
    by_test (ltb d p.at.start)
    (λ t. hole_in at p.at.start (holes e end ps) d lo (ltb-true d p.at.start t))
    (λ t. by_test (ltb d e)
    (λ u. absurd (n p (inl refl) (ltb-false d p.at.start t, ltb-true d e u)))
    (λ u. hole_on at p.at.start (holes e end ps) d (free_holes e end ps y.2 d (ltb-false d e u) hi (λ x i. n x (inr i)))))

module _ (g : Geometry) (l : List Piece) (ok : AcceptedGeometry g) (fit : FitPieces g l) where
  -- a piece ends in its zone
  pub piece_end : (p : Piece) → In p l → p.at.start + p.at.len ≤ zone_end g (zone_of g p.at.start)
  piece_end p i =
      let z = zone_of g p.at.start in
      let h : z < g.zones = ltb-true z g.zones (all_in (λ x. ltb (zone_of g x.at.start) g.zones) l p fit.zoned i) in
      (lies_from (zone_from g z) (zone_end g z) (in_zone g z l) p (zone_lies g l ok fit z h) (in_keep (λ x. eqb (zone_of g x.at.start) z) p l i (eq-eqb z z refl))).2

  -- a piece's bits lie in its zone, and on the disc map
  pub piece_bit : (p : Piece) → In p l → (d : ℕ) → Within p.at d → (zone_of g p.at.start ≡ zone_of g d) × (zone_of g d < g.zones)
  piece_bit p i d w =
      let e = bit_zone g p.at d (piece_end p i) w in
      (sym e, omega (arith, e, ltb-true (zone_of g p.at.start) g.zones (all_in (λ x. ltb (zone_of g x.at.start) g.zones) l p fit.zoned i)))

  pub in_its_zone : (p : Piece) → In p l → (d : ℕ) → Within p.at d → In p (in_zone g (zone_of g d) l)
  in_its_zone p i d w = in_keep (λ x. eqb (zone_of g x.at.start) (zone_of g d)) p l i (eq-eqb (zone_of g p.at.start) (zone_of g d) (piece_bit p i d w).0)

  pub free_bit : (d : ℕ) → InSome (holes_from g 0 g.zones l) d ↔ ((d < disc_bits g) × NoneHas l d)
  free_bit d = (there, back)
    where
      there : InSome (holes_from g 0 g.zones l) d → (d < disc_bits g) × NoneHas l d
      there w =
          let z = in_holes g 0 g.zones l w.0 w.1 in
          let i = z.0 in
          let h : i < g.zones = omega (arith, z.2) in
          let k = hole_bits (zone_from g i) (zone_end g i) (in_zone g i l) (zone_lies g l ok fit i h) d (w.0, z.3, w.2) in
          let e : zone_of g d ≡ i = in_zone_law g i d k.0 k.1 in
          (zoned_on_disc g d ok (omega (arith, e)), λ p j v. k.2 p (subst (λ (x : ℕ). In p (in_zone g x l)) e (in_its_zone p j d v)) v)

      back : (d < disc_bits g) × NoneHas l d → InSome (holes_from g 0 g.zones l) d
      back k =
          let i = zone_of g d in
          let h = on_disc g d ok k.0 in
          let lo : i * g.bits ≤ d + 480 = div-mul-le_self (d + 480) g.bits in
          let hi : d + 480 < suc i * g.bits = (div-lt_iff_lt-mul (some_zone g ok)).0 (omega arith) in
          let w = free_holes (zone_from g i) (zone_end g i) (in_zone g i l) (zone_lies g l ok fit i h) d (omega arith) (omega arith)
          (λ p j v. k.1 p (in_kept (λ x. eqb (zone_of g x.at.start) i) p l j).0 v) in
          (w.0, holes_in_law g 0 g.zones l i (omega arith) (omega arith) w.0 w.1, w.2)

-- a map's free spans are its holes
pub spans_holes : (m : List ℕ) → Editable m → spans_on m ≡ holes_from (geometry_of m) 0 (geometry_of m).zones (pieces_on (geometry_of m) m)
spans_holes m ed = sym (holes_are_spans m (zones_of m) ed.accepted ed.apart)

-- a map's free bits
pub map_free : (m : List ℕ) → Editable m → (d : ℕ) → InSome (spans_on m) d ↔ ((d < disc_bits (geometry_of m)) × NoneHas (pieces_on (geometry_of m) m) d)
map_free m ed d =
    let ok = map_geometry m (zones_of m) ed.bytes ed.accepted in
    let fit = (map_disc m (zones_of m) ed.bytes ed.accepted).pieces.fit in
    subst⁻¹ (λ (qs : List Pair). InSome qs d ↔ ((d < disc_bits (geometry_of m)) × NoneHas (pieces_on (geometry_of m) m) d)) (spans_holes m ed)
    (free_bit (geometry_of m) (pieces_on (geometry_of m) m) ok fit d)
