-- Refusal 13 over the bits of a map: the bits that stay free are those of the holes between the pieces after the place, and such a hole is
-- a leftover where it is short, since a piece or the zone's end stands on either side of it. Which of the two is found is searched for.
use mathlib.Core.Path.{◌≡◌, refl, sym, ap, ◌∙◌, subst}
use mathlib.Core.Bool.{Bool, true, false, false≢true}
use mathlib.Core.List.{List, [], ◌∷◌, map}
use mathlib.Core.Logic.{◌⊎◌, inl, inr}
use Prim.Native.Nat.{ℕ, zero, suc, ◌+◌, ◌-◌, ◌*◌, ◌<◌, ◌≤◌}
use native.Mathlib.Nat.{div-mul-le_self, div-lt_iff_lt-mul}
use native.Mathlib.Omega.{arith}
use lib.Dec.{eqb, ltb, leb}
use borrow.Author.Tests.{eqb-true, eqb-false, eq-eqb, ltb-true, leb-true, leb-false}
use Rattle.bits.proofs.Tests.{by_test}
use Rattle.geometry.specs.declared.Geometry.{Geometry}
use Rattle.geometry.specs.Record.{geometry_of}
use Rattle.geometry.specs.Accepted.{AcceptedGeometry}
use Rattle.geometry.specs.Places.{zone_of, zone_from, zone_end}
use Rattle.model.specs.Chain.{Pair, Within}
use Rattle.model.specs.Pieces.{Piece}
use Rattle.model.specs.Shown.{zones_of, pieces_on}
use Rattle.model.proofs.ChainDrawn.{Lies}
use Rattle.model.proofs.ZoneDrawn.{lies_le}
use Rattle.edits.specs.Edits.{own, give, in_zone}
use Rattle.edits.specs.Holes.{hole, holes, apart, all_apart}
use Rattle.edits.specs.Judge.{pairs_from, pairs_fit}
use Rattle.edits.specs.Room.{In, InSome}
use Rattle.edits.specs.Editable.{Editable}
use Rattle.edits.proofs.Entries.{in_keep, in_kept, in_map, map_in, in_put, put_in}
use Rattle.edits.proofs.HolesLeft.{lies_apart}
use Rattle.edits.proofs.Invariant.{FitPieces, some_zone, on_disc, zoned_on_disc, in_zone_law}
use Rattle.edits.proofs.MapAccepted.{map_geometry, map_disc}
use Rattle.edits.proofs.FreeBits.{bit_zone, NoneHas, in_hole, hole_bits, free_holes, piece_bit, map_free}
use Rattle.runs.specs.ListRoom.{StaysFree, Leftover, NoRoom, not_free, leftover}
use Rattle.runs.proofs.Thirteen.{ListedFree, pairs_in_law, apart_if_free, pairs_thirteen}
use Rattle.runs.proofs.FreeBits.{has_or_none, put_own}

-- a hole: between the ends, and with no free bit beside it
pub record HoleAlone (at end : ℕ) (ps : List Piece) (h : Pair) : Type 0 where
  pub from : at ≤ h.start
  pub some : 0 < h.len
  pub to : h.start + h.len ≤ end
  pub before : (d : ℕ) → suc d ≡ h.start → InSome (holes at end ps) d → ⊥
  pub after : InSome (holes at end ps) (h.start + h.len) → ⊥

gap_or_rest : (at end : ℕ) (rest : List Pair) (h : Pair) → In h (hole at end rest) → ((at < end) × (h.start ≡ at) × (h.start + h.len ≡ end)) ⊎ In h rest
gap_or_rest at end rest h i =
    by_test (ltb at end)
    (λ t. go (simp t at i) (ltb-true at end t))
    (λ t. inr (simp t at i))
  where
    go : In h (record { start = at; len = end - at } ∷ rest) → at < end → ((at < end) × (h.start ≡ at) × (h.start + h.len ≡ end)) ⊎ In h rest
    go (inl e) k =
        let s : h.start ≡ at = ap (λ (x : Pair). x.start) e in
        let n : h.len ≡ end - at = ap (λ (x : Pair). x.len) e in
        inl (k, s, omega arith)
    go (inr j) k = inr j

hole_alone : (at end : ℕ) (ps : List Piece) → Lies at end ps → (h : Pair) → In h (holes at end ps) → HoleAlone at end ps h
hole_alone at end [] y h i = go (gap_or_rest at end [] h i)
  where
    go : ((at < end) × (h.start ≡ at) × (h.start + h.len ≡ end)) ⊎ In h [] → HoleAlone at end [] h
    go (inr j) = absurd j
    go (inl k) = record {
      from = omega arith;
      some = omega arith;
      to = omega arith;
      before = λ d e w. omega (arith, (hole_bits at end [] y d w).0);
      after = λ w. omega (arith, (hole_bits at end [] y (h.start + h.len) w).1);
    }
hole_alone at end (p ∷ ps) y h i = go (gap_or_rest at p.at.start (holes (p.at.start + p.at.len) end ps) h i) (hole_alone (p.at.start + p.at.len) end ps y.2 h)
  where
    go : ((at < p.at.start) × (h.start ≡ at) × (h.start + h.len ≡ p.at.start)) ⊎ In h (holes (p.at.start + p.at.len) end ps)
        → (In h (holes (p.at.start + p.at.len) end ps) → HoleAlone (p.at.start + p.at.len) end ps h) → HoleAlone at end (p ∷ ps) h
    go (inl k) ih = record {
      from = omega arith;
      some = omega arith;
      to = omega (arith, lies_le (p.at.start + p.at.len) end ps y.2);
      before = λ d e w. omega (arith, (hole_bits at end (p ∷ ps) y d w).0);
      after = λ w. (hole_bits at end (p ∷ ps) y (h.start + h.len) w).2 p (inl refl) (omega arith, omega arith);
    }
    go (inr j) ih =
        let r = ih j in
        record {
          from = omega arith;
          some = r.some;
          to = r.to;
          before = λ d e w. next d (r.before d e) (omega (arith, r.from)) (in_hole at p.at.start (holes (p.at.start + p.at.len) end ps) d w);
          after = λ w. next (h.start + h.len) r.after (omega (arith, r.from, r.some)) (in_hole at p.at.start (holes (p.at.start + p.at.len) end ps) (h.start + h.len) w);
        }
      where
        next : (d : ℕ) → (InSome (holes (p.at.start + p.at.len) end ps) d → ⊥) → p.at.start ≤ d → ((at ≤ d) × (d < p.at.start)) ⊎ InSome (holes (p.at.start + p.at.len) end ps) d → ⊥
        next d n lo (inl k) = omega arith
        next d n lo (inr w) = n w

-- the searches: a bit that a piece has, of n from a place on; a listed one; a short hole
bits_or_none : (l : List Piece) (from n : ℕ) → ((d : ℕ) × (from ≤ d) × (d < from + n) × (p : Piece) × In p l × Within p.at d) ⊎ ((d : ℕ) → from ≤ d → d < from + n → NoneHas l d)
bits_or_none l from zero = inr (λ d lo hi. absurd (omega arith))
bits_or_none l from (suc n) = go (has_or_none l (from + n)) (bits_or_none l from n)
  where
    go : ((p : Piece) × In p l × Within p.at (from + n)) ⊎ NoneHas l (from + n)
        → ((d : ℕ) × (from ≤ d) × (d < from + n) × (p : Piece) × In p l × Within p.at d) ⊎ ((d : ℕ) → from ≤ d → d < from + n → NoneHas l d)
        → ((d : ℕ) × (from ≤ d) × (d < from + suc n) × (p : Piece) × In p l × Within p.at d) ⊎ ((d : ℕ) → from ≤ d → d < from + suc n → NoneHas l d)
    go (inl k) r = inl (from + n, omega arith, omega arith, k.0, k.1, k.2)
    go (inr f) (inl r) = inl (r.0, r.1, omega (arith, r.2), r.3, r.4, r.5)
    go (inr f) (inr h) =
        inr (λ d lo hi. by_test (eqb d (from + n))
        (λ t. subst (NoneHas l) (sym (eqb-true d (from + n) t)) f)
        (λ t. h d lo (omega (arith, eqb-false d (from + n) t))))

listed_or_free : (qs : List Pair) (l : List Piece) → ((d : ℕ) × InSome qs d × (p : Piece) × In p l × Within p.at d) ⊎ ListedFree qs l
listed_or_free [] l = inr (λ q i. absurd i)
listed_or_free (q ∷ qs) l = go (bits_or_none l q.start q.len) (listed_or_free qs l)
  where
    go : ((d : ℕ) × (q.start ≤ d) × (d < q.start + q.len) × (p : Piece) × In p l × Within p.at d) ⊎ ((d : ℕ) → q.start ≤ d → d < q.start + q.len → NoneHas l d)
        → ((d : ℕ) × InSome qs d × (p : Piece) × In p l × Within p.at d) ⊎ ListedFree qs l
        → ((d : ℕ) × InSome (q ∷ qs) d × (p : Piece) × In p l × Within p.at d) ⊎ ListedFree (q ∷ qs) l
    go (inl k) r = inl (k.0, (q, inl refl, (k.1, k.2)), k.3, k.4, k.5)
    go (inr n) (inl k) = inl (k.0, (k.1.0, inr k.1.1, k.1.2), k.2, k.3, k.4)
    go (inr n) (inr f) = inr both_free
      where
        both_free : ListedFree (q ∷ qs) l
        both_free x (inl e) p j d a b = let w : Within q d = subst (λ (y : Pair). Within y d) e a in n d w.0 w.1 p j b
        both_free x (inr i) p j d a b = f x i p j d a b

short_or_long : (m : ℕ) (hs : List Pair) → ((h : Pair) × In h hs × (h.len < m)) ⊎ ((h : Pair) → In h hs → m ≤ h.len)
short_or_long m [] = inr (λ h i. absurd i)
short_or_long m (x ∷ xs) =
    by_test (leb m x.len)
    (λ t. go (leb-true m x.len t) (short_or_long m xs))
    (λ t. inl (x, inl refl, leb-false m x.len t))
  where
    long : m ≤ x.len → ((h : Pair) → In h xs → m ≤ h.len) → (h : Pair) → In h (x ∷ xs) → m ≤ h.len
    long k f h (inl e) = let n : h.len ≡ x.len = ap (λ (y : Pair). y.len) e in omega arith
    long k f h (inr i) = f h i

    go : m ≤ x.len → ((h : Pair) × In h xs × (h.len < m)) ⊎ ((h : Pair) → In h xs → m ≤ h.len) → ((h : Pair) × In h (x ∷ xs) × (h.len < m)) ⊎ ((h : Pair) → In h (x ∷ xs) → m ≤ h.len)
    go k (inl r) = inl (r.0, inr r.1, r.2)
    go k (inr f) = inr (long k f)

-- the first zone whose pieces do not lie apart
some_zone_not : (g : Geometry) (z n : ℕ) (l : List Piece) → all_apart g z n l ≡ false → (i : ℕ) × (z ≤ i) × (i < z + n) × (apart g.shortest (zone_from g i) (zone_end g i) (in_zone g i l) ≡ false)
some_zone_not g z zero l e = absurd (false≢true (sym e))
some_zone_not g z (suc n) l e =
    by_test (apart g.shortest (zone_from g z) (zone_end g z) (in_zone g z l))
    (λ t. let r = some_zone_not g (suc z) n l (simp t at e) in (r.0, omega arith, omega arith, r.3))
    (λ t. (z, omega arith, omega arith, t))

-- on a map that edits work on, for a list whose pairs pass
module _ (m : List ℕ) (ed : Editable m) (id : ℕ) (list : List ℕ) (k : pairs_fit (geometry_of m) id 0 (pairs_from list) ≡ true) where
  abbrev g : Geometry
  g = geometry_of m

  abbrev l : List Piece
  l = pieces_on (geometry_of m) m

  abbrev qs : List Pair
  qs = pairs_from list

  ok : AcceptedGeometry (geometry_of m)
  ok = map_geometry m (zones_of m) ed.bytes ed.accepted

  fit : FitPieces (geometry_of m) (pieces_on (geometry_of m) m)
  fit = (map_disc m (zones_of m) ed.bytes ed.accepted).pieces.fit

  -- zone z's pieces after the place, and its holes
  abbrev after : ℕ → List Piece
  after z = in_zone (geometry_of m) z (give id (pairs_from list) (pieces_on (geometry_of m) m))

  abbrev left : ℕ → List Pair
  left z = holes (zone_from (geometry_of m) z) (zone_end (geometry_of m) z) (in_zone (geometry_of m) z (give id (pairs_from list) (pieces_on (geometry_of m) m)))

  abbrev is_in : ℕ → Piece → Bool
  is_in z p = eqb (zone_of (geometry_of m) p.at.start) z

  module _ (z : ℕ) (h : z < (geometry_of m).zones) (y : Lies (zone_from (geometry_of m) z) (zone_end (geometry_of m) z) (after z)) where
    stays_hole : (d : ℕ) → zone_of (geometry_of m) d ≡ z → StaysFree m list d → InSome (left z) d
    stays_hole d e w =
        let f = (map_free m ed d).0 w.0 in
        let lo : z * g.bits ≤ d + 480 = subst (λ (i : ℕ). i * g.bits ≤ d + 480) e (div-mul-le_self (d + 480) g.bits) in
        let hi : d + 480 < suc z * g.bits = (div-lt_iff_lt-mul (some_zone g ok)).0 (omega (arith, e)) in
        free_holes (zone_from g z) (zone_end g z) (after z) y d (omega arith) (omega arith)
        (λ p i v. none p v f.1 (put_in p (map (own id) qs) l (in_kept (is_in z) p (give id qs l) i).0))
      where
        none : (p : Piece) → Within p.at d → NoneHas (pieces_on (geometry_of m) m) d → In p (map (own id) (pairs_from list)) ⊎ In p (pieces_on (geometry_of m) m) → ⊥
        none p v f (inl i) = let r = in_map (own id) p qs i in w.1 (r.0, r.1, subst (λ (x : Piece). Within x.at d) r.2 v)
        none p v f (inr i) = f p i v

    hole_stays : (d : ℕ) → InSome (left z) d → (zone_of (geometry_of m) d ≡ z) × StaysFree m list d
    hole_stays d w =
        let f = hole_bits (zone_from g z) (zone_end g z) (after z) y d w in
        let e : zone_of g d ≡ z = in_zone_law g z d f.0 f.1 in (
          e,
          (
            (map_free m ed d).1 (
              zoned_on_disc g d ok (omega (arith, e)),
              λ p i v. f.2 p (in_keep (is_in z) p (give id qs l) (in_put p (map (own id) qs) l i) (eq-eqb _ z ((piece_bit g l ok fit p i d v).0 ∙ e))) v,
            ),
            λ v. f.2 (own id v.0)
                (in_keep (is_in z) (own id v.0) (give id qs l) (put_own (own id v.0) (map (own id) qs) l (map_in (own id) v.0 qs v.1))
                (eq-eqb _ z (sym (bit_zone g v.0 d (pairs_in_law g id 0 qs k v.0 v.1).0.in_zone_end v.2) ∙ e)))
                v.2,
          ),
        )

    -- a short hole is a leftover
    hole_leftover : (q : Pair) → In q (left z) → q.len < (geometry_of m).shortest → NoRoom m list
    hole_leftover q i n =
        let r = hole_alone (zone_from g z) (zone_end g z) (after z) y q i in
        let some = r.some in
        let home : zone_of g q.start ≡ z = (hole_stays q.start (q, i, (omega arith, omega arith))).0 in
        leftover q
        (record {
          one_zone = λ d w. (hole_stays d (q, i, w)).0 ∙ sym home;
          stay = λ d w. (hole_stays d (q, i, w)).1;
          before = λ d e s w. r.before d e (stays_hole d (s ∙ home) w);
          after = λ s w. r.after (stays_hole (q.start + q.len) (s ∙ home) w);
        })
        some n

    -- and a leftover is a hole: the hole that its first bit lies in
    leftover_hole : (q : Pair) → Leftover m list q → 0 < q.len → zone_of (geometry_of m) q.start ≡ z → (h : Pair) × In h (left z) × (h.len ≤ q.len)
    leftover_hole q r some home =
        let w = stays_hole q.start home (r.stay q.start (omega arith, omega arith)) in
        let h = w.0 in
        let from : q.start ≤ h.start =
        by_test (leb q.start h.start)
        (λ t. leb-true q.start h.start t)
        (λ t. let lt = leb-false q.start h.start t in
        let d : ℕ = q.start - 1 in
        let s = hole_stays d (h, w.1, (omega arith, omega (arith, w.2))) in
        absurd (r.before d (omega arith) (s.0 ∙ sym home) s.1)) in (
          h,
          w.1,
          by_test (leb h.len q.len)
              (λ t. leb-true h.len q.len t)
              (λ t. let lt = leb-false h.len q.len t in
              let s = hole_stays (q.start + q.len) (h, w.1, (omega (arith, w.2), omega (arith, w.2))) in
              absurd (r.after (s.0 ∙ sym home) s.1)),
        )

  pub has_room : all_apart (geometry_of m) 0 (geometry_of m).zones (give id (pairs_from list) (pieces_on (geometry_of m) m)) ≡ true → NoRoom m list → ⊥
  has_room t (not_free d w n) =
      let f = ((pairs_thirteen g id qs l ok fit k).0 t).0 in
      let r = (pairs_in_law g id 0 qs k w.0 w.1).0 in
      n ((map_free m ed d).1 (omega (arith, r.below, w.2), λ p i v. f w.0 w.1 p i d w.2 v))
  has_room t (leftover q r some few) =
      let f = (pairs_thirteen g id qs l ok fit k).0 t in
      let z = zone_of g q.start in
      let h : z < g.zones = on_disc g q.start ok ((map_free m ed q.start).0 (r.stay q.start (omega arith, omega arith)).0).0 in
      let x = leftover_hole z h (apart_if_free g id qs l ok fit k f.0 z h) q r some refl in
      omega (arith, f.1 z h x.0 x.1, x.2)

  pub no_room : all_apart (geometry_of m) 0 (geometry_of m).zones (give id (pairs_from list) (pieces_on (geometry_of m) m)) ≡ false → NoRoom m list
  no_room t = go (listed_or_free qs l)
    where
      at_zone : ListedFree (pairs_from list) (pieces_on (geometry_of m) m) → NoRoom m list
      at_zone f =
          let r = some_zone_not g 0 g.zones (give id qs l) t in
          let z = r.0 in
          let h : z < g.zones = omega (arith, r.2) in
          let y = apart_if_free g id qs l ok fit k f z h in
          short z h y r.3 (short_or_long g.shortest (left z))
        where
          short : (z : ℕ) (h : z < (geometry_of m).zones) (y : Lies (zone_from (geometry_of m) z) (zone_end (geometry_of m) z) (after z))
              → apart (geometry_of m).shortest (zone_from (geometry_of m) z) (zone_end (geometry_of m) z) (after z) ≡ false
              → ((q : Pair) × In q (left z) × (q.len < (geometry_of m).shortest)) ⊎ ((q : Pair) → In q (left z) → (geometry_of m).shortest ≤ q.len) → NoRoom m list
          short z h y e (inl q) = hole_leftover z h y q.0 q.1 q.2
          short z h y e (inr f) = absurd (false≢true (sym e ∙ lies_apart g.shortest (zone_from g z) (zone_end g z) (after z) y f))

      go : ((d : ℕ) × InSome (pairs_from list) d × (p : Piece) × In p (pieces_on (geometry_of m) m) × Within p.at d) ⊎ ListedFree (pairs_from list) (pieces_on (geometry_of m) m) → NoRoom m list
      go (inl w) = not_free w.0 w.1 (λ s. ((map_free m ed w.0).0 s).1 w.2 w.3 w.4)
      go (inr f) = at_zone f
