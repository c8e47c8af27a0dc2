-- A claim keeps the invariant: each hole that it takes lies in one zone, between two pieces, and what is left of it is none or at least m bits. What
-- is taken of one hole leaves the others as they are.
use mathlib.Core.Path.{◌≡◌, refl, sym, ap, ◌∙◌, subst}
use mathlib.Core.Bool.{true}
use mathlib.Core.List.{List, [], ◌∷◌}
use mathlib.Core.Option.{some}
use mathlib.Core.Logic.{◌⊎◌, inl, inr}
use Prim.Native.Nat.{ℕ, zero, suc, ◌+◌, ◌-◌, ◌*◌, ◌<◌, ◌≤◌}
use native.Mathlib.Omega.{arith}
use lib.Dec.{eqb, ltb, leb}
use borrow.Author.Tests.{eqb-true, eqb-false, lt-ltb, le-ltb, ltb-true, leb-true, le-leb}
use Rattle.bits.proofs.Tests.{by_test, both, and_true}
use Rattle.geometry.specs.declared.Geometry.{Geometry}
use Rattle.geometry.specs.Accepted.{AcceptedGeometry}
use Rattle.geometry.specs.Places.{zone_of, zone_from, zone_end}
use Rattle.model.specs.Chain.{Pair}
use Rattle.model.specs.Pieces.{Piece}
use Rattle.model.proofs.Options.{none_some, some_some}
use Rattle.edits.specs.Edits.{insert, own, give, in_zone}
use Rattle.edits.specs.Holes.{hole, holes, holes_in, holes_of, upward, holes_from, gap_fits, apart}
use Rattle.edits.specs.Judge.{first_hole}
use Rattle.edits.specs.Room.{In}
use Rattle.edits.proofs.Kept.{All, all_keep, all_insert}
use Rattle.edits.proofs.Entries.{in_append, in_left, in_right}
use Rattle.edits.proofs.ByPlace.{weak_insert, keep_insert_no}
use Rattle.edits.proofs.PutIn.{keep_insert}
use Rattle.edits.proofs.Gaps.{Gap, gap_of_test, test_of_gap, gap_le, gap_shift, is_long, apart_le}
use Rattle.model.proofs.ChainDrawn.{Lies}
use Rattle.edits.proofs.HolesLeft.{hole_rest, apart_holes}
use Rattle.edits.proofs.HolesAscend.{hole_from, zone_lies, NotAt, StartsApart}
use Rattle.edits.proofs.Invariant.{FitPieces, some_bits, fit_asc, in_zone_law}

-- the first hole is a hole, and long enough
pub first_in : (n : ℕ) (hs : List Pair) (h : Pair) → first_hole n hs ≡ some h → In h hs × (n ≤ h.len)
first_in n [] h e = absurd (none_some e)
first_in n (x ∷ xs) h e =
    by_test (leb n x.len)
    (λ t. let k : x ≡ h = some_some (simp t at e) in (inl (sym k), subst (λ (q : Pair). n ≤ q.len) k (leb-true n x.len t)))
    (λ t. let r = first_in n xs h (simp t at e) in (inr r.0, r.1))

-- a hole of zones is one of a zone of theirs, and the other way round
pub in_holes_of : (g : Geometry) (l : List Piece) (zs : List ℕ) (h : Pair) → In h (holes_of g l zs) → (z : ℕ) × In z zs × In h (holes_in g l z)
in_holes_of g l [] h i = absurd i
in_holes_of g l (z ∷ zs) h i = go (in_append h (holes_in g l z) (holes_of g l zs) i) (in_holes_of g l zs h)
  where
    go : In h (holes_in g l z) ⊎ In h (holes_of g l zs) → (In h (holes_of g l zs) → (y : ℕ) × In y zs × In h (holes_in g l y)) → (y : ℕ) × In y (z ∷ zs) × In h (holes_in g l y)
    go (inl j) ih = (z, inl refl, j)
    go (inr j) ih = let r = ih j in (r.0, inr r.1, r.2)

pub holes_of_in : (g : Geometry) (l : List Piece) (zs : List ℕ) (z : ℕ) → In z zs → (h : Pair) → In h (holes_in g l z) → In h (holes_of g l zs)
holes_of_in g l [] z i h j = absurd i
holes_of_in g l (x ∷ xs) z (inl e) h j = in_left h (holes_in g l x) (holes_of g l xs) (subst (λ (y : ℕ). In h (holes_in g l y)) e j)
holes_of_in g l (x ∷ xs) z (inr i) h j = in_right h (holes_in g l x) (holes_of g l xs) (holes_of_in g l xs z i h j)

-- so of n zones from z on
in_upward : (z n i : ℕ) → In i (upward z n) → (z ≤ i) × (i < z + n)
in_upward z zero i k = absurd k
in_upward z (suc n) i (inl e) = (omega arith, omega arith)
in_upward z (suc n) i (inr k) = let r = in_upward (suc z) n i k in (omega arith, omega arith)

upward_in : (z n i : ℕ) → z ≤ i → i < z + n → In i (upward z n)
upward_in z zero i lo hi = absurd (omega arith)
upward_in z (suc n) i lo hi = by_test (eqb i z) (λ t. inl (eqb-true i z t)) (λ t. inr (upward_in (suc z) n i (omega (arith, eqb-false i z t)) (omega arith)))

abbrev pub InSomeZone : Geometry → ℕ → ℕ → List Piece → Pair → Type 0
InSomeZone g z n l h = (i : ℕ) × (z ≤ i) × (i < z + n) × In h (holes_in g l i)

pub in_holes : (g : Geometry) (z n : ℕ) (l : List Piece) (h : Pair) → In h (holes_from g z n l) → InSomeZone g z n l h
in_holes g z n l h i =
    let r = in_holes_of g l (upward z n) h i in
    let b = in_upward z n r.0 r.1 in
    (r.0, b.0, b.1, r.2)

pub holes_in_law : (g : Geometry) (z n : ℕ) (l : List Piece) (i : ℕ) → z ≤ i → i < z + n → (h : Pair) → In h (holes_in g l i) → In h (holes_from g z n l)
holes_in_law g z n l i lo hi = holes_of_in g l (upward z n) i (upward_in z n i lo hi)

-- a hole of a zone's pieces, some or all of it taken
abbrev pub HoleTaken : ℕ → ℕ → ℕ → List Piece → Pair → Piece → Type 0
HoleTaken m at end l h q = (apart m at end (insert q l) ≡ true) × (at ≤ h.start) × (h.start + h.len ≤ end)

pub take_hole : (m at end : ℕ) (l : List Piece) (h : Pair) (q : Piece) → 0 < m → All (is_long m) l → apart m at end l ≡ true → In h (holes at end l)
    → q.at.start ≡ h.start → Gap m q.at.len h.len → 0 < h.len → HoleTaken m at end l h q
take_hole m at end [] h q z w a i s g k =
    by_test (ltb at end)
    (λ t. go (simp t at i))
    (λ t. absurd (simp t at i))
  where
    go : In h (record { start = at; len = end - at } ∷ []) → HoleTaken m at end [] h q
    go (inl e) =
        let hs : h.start ≡ at = ap (λ (r : Pair). r.start) e in
        let hl : h.len ≡ end - at = ap (λ (r : Pair). r.len) e in (
          and_true (gap_fits m at q.at.start) _ (test_of_gap m at q.at.start (inl (omega arith))) (test_of_gap m (q.at.start + q.at.len) end (gap_shift m q.at.start q.at.len h.len end g (omega arith))),
          omega arith,
          omega arith,
        )
    go (inr j) = absurd j
take_hole m at end (p ∷ ps) h q z w a i s g k =
    by_test (ltb at p.at.start)
    (λ t. first (λ j. take_hole m (p.at.start + p.at.len) end ps h q z w.1 b.1 j s g k) (simp t at i))
    (λ t. later (λ j. take_hole m (p.at.start + p.at.len) end ps h q z w.1 b.1 j s g k) (simp t at i))
  where
    b : (gap_fits m at p.at.start ≡ true) × (apart m (p.at.start + p.at.len) end ps ≡ true)
    b = both (gap_fits m at p.at.start) (apart m (p.at.start + p.at.len) end ps) a

    lo : at ≤ p.at.start
    lo = gap_le m at p.at.start (gap_of_test m at p.at.start b.0)

    hi : p.at.start + p.at.len ≤ end
    hi = apart_le m (p.at.start + p.at.len) end ps b.1

    later : (In h (holes (p.at.start + p.at.len) end ps) → HoleTaken m (p.at.start + p.at.len) end ps h q) → In h (holes (p.at.start + p.at.len) end ps) → HoleTaken m at end (p ∷ ps) h q
    later ih j =
        let r = ih j in
        (simp (le-ltb q.at.start p.at.start (omega arith)) (and_true (gap_fits m at p.at.start) _ b.0 r.0), omega (arith, lo), omega arith)

    first : (In h (holes (p.at.start + p.at.len) end ps) → HoleTaken m (p.at.start + p.at.len) end ps h q) → In h (record { start = at; len = p.at.start - at } ∷ holes (p.at.start + p.at.len) end ps) → HoleTaken m at end (p ∷ ps) h q
    first ih (inl e) =
        let hs : h.start ≡ at = ap (λ (r : Pair). r.start) e in
        let hl : h.len ≡ p.at.start - at = ap (λ (r : Pair). r.len) e in (
          simp (lt-ltb q.at.start p.at.start (omega arith))
              (and_true (gap_fits m at q.at.start) _ (test_of_gap m at q.at.start (inl (omega arith)))
              (and_true (gap_fits m (q.at.start + q.at.len) p.at.start) _ (test_of_gap m (q.at.start + q.at.len) p.at.start (gap_shift m q.at.start q.at.len h.len p.at.start g (omega arith))) b.1)),
          omega arith,
          omega (arith, hi),
        )
    first ih (inr j) = later ih j

-- the other holes of the zone
others_kept : (at end : ℕ) (l : List Piece) (h : Pair) (q : Piece) → Lies at end l → In h (holes at end l) → q.at.start ≡ h.start
    → (x : Pair) → In x (holes at end l) → (x.start ≡ h.start → ⊥) → In x (holes at end (insert q l))
others_kept at end [] h q y i s x j n =
    by_test (ltb at end)
    (λ t. same (simp t at i) (simp t at j))
    (λ t. absurd (simp t at i))
  where
    same : In h (record { start = at; len = end - at } ∷ []) → In x (record { start = at; len = end - at } ∷ []) → In x (holes at end (insert q []))
    same (inl e) (inl f) = absurd (n (ap (λ (r : Pair). r.start) (f ∙ sym e)))
    same (inl e) (inr f) = absurd f
    same (inr e) f = absurd e
others_kept at end (p ∷ ps) h q y i s x j n =
    by_test (ltb at p.at.start)
    (λ t. here (ltb-true at p.at.start t) (λ a b. others_kept (p.at.start + p.at.len) end ps h q y.2 a s x b n) (simp t at i) (simp t at j))
    (λ t. later (simp t at i) (hole_rest at p.at.start (holes (p.at.start + p.at.len) end (insert q ps)) x (others_kept (p.at.start + p.at.len) end ps h q y.2 (simp t at i) s x (simp t at j) n)))
  where
    rest : List Pair
    rest = holes (p.at.start + p.at.len) end ps

    later : In h (holes (p.at.start + p.at.len) end ps) → In x (holes at end (p ∷ insert q ps)) → In x (holes at end (insert q (p ∷ ps)))
    later a k = simp (le-ltb q.at.start p.at.start (omega (arith, hole_from (p.at.start + p.at.len) end ps h y.2 a))) k

    here : at < p.at.start → (In h (holes (p.at.start + p.at.len) end ps) → In x (holes (p.at.start + p.at.len) end ps) → In x (holes (p.at.start + p.at.len) end (insert q ps)))
        → In h (record { start = at; len = p.at.start - at } ∷ holes (p.at.start + p.at.len) end ps)
        → In x (record { start = at; len = p.at.start - at } ∷ holes (p.at.start + p.at.len) end ps) → In x (holes at end (insert q (p ∷ ps)))
    here k ih (inl e) (inl f) = absurd (n (ap (λ (r : Pair). r.start) (f ∙ sym e)))
    here k ih (inl e) (inr f) =
        let hs : h.start ≡ at = ap (λ (r : Pair). r.start) e in
        simp (lt-ltb q.at.start p.at.start (omega arith))
        (hole_rest at q.at.start (hole (q.at.start + q.at.len) p.at.start rest) x (hole_rest (q.at.start + q.at.len) p.at.start rest x f))
    here k ih (inr e) (inl f) = later e (simp (lt-ltb at p.at.start k) (inl f))
    here k ih (inr e) (inr f) = later e (hole_rest at p.at.start (holes (p.at.start + p.at.len) end (insert q ps)) x (ih e f))

-- a hole of a zone lies in it
module _ (g : Geometry) (l : List Piece) (f : AcceptedGeometry g) (k : FitPieces g l) (z : ℕ) (i : z < g.zones) (h : Pair) (j : In h (holes_in g l z)) where
  pub hole_size : g.shortest ≤ h.len
  hole_size = apart_holes g.shortest (zone_from g z) (zone_end g z) (in_zone g z l) (k.parts z i) h j

  hole_cut : (q : Piece) → q.at.start ≡ h.start → Gap g.shortest q.at.len h.len → HoleTaken g.shortest (zone_from g z) (zone_end g z) (in_zone g z l) h q
  hole_cut q s c =
      take_hole g.shortest (zone_from g z) (zone_end g z) (in_zone g z l) h q (some_bits g f) (all_keep _ _ l k.long) (k.parts z i) j s c
      (omega (arith, some_bits g f, hole_size))

  pub hole_zone : zone_of g h.start ≡ z
  hole_zone =
      let c = hole_cut (own 0 h) refl (inl refl) in
      in_zone_law g z h.start c.1 (omega (arith, c.2, some_bits g f, hole_size))

-- A pair that is taken of a hole, of which nothing or at least m bits are left.
pub record TakenOf (g : Geometry) (l : List Piece) (q : Pair) : Type 0 where
  pub zone : ℕ
  pub there : zone < g.zones
  pub hole : Pair
  pub free : In hole (holes_in g l zone)
  pub start : q.start ≡ hole.start
  pub left : Gap g.shortest q.len hole.len
  pub long : g.shortest ≤ q.len

module _ (g : Geometry) (f : AcceptedGeometry g) where
  pub taken_zone : (l : List Piece) → FitPieces g l → (q : Pair) (t : TakenOf g l q) → zone_of g q.start ≡ t.zone
  taken_zone l k q t = ap (zone_of g) t.start ∙ hole_zone g l f k t.zone t.there t.hole t.free

  -- an object may be given one such pair
  fit_one : (l : List Piece) → FitPieces g l → (id : ℕ) → ltb id (g.ids * g.zones) ≡ true → (q : Pair) → TakenOf g l q → FitPieces g (insert (own id q) l)
  fit_one l k id o q t = record {
    weak = weak_insert 0 (own id q) l (omega arith) k.weak;
    long = all_insert (is_long g.shortest) (own id q) l (le-leb g.shortest q.len t.long) k.long;
    zoned = all_insert _ (own id q) l (lt-ltb (zone_of g q.start) g.zones (omega (arith, taken_zone l k q t, t.there))) k.zoned;
    named = all_insert _ (own id q) l o k.named;
    parts = λ y b. by_test (eqb (zone_of g q.start) y)
        (λ e. rw (keep_insert (λ p. eqb (zone_of g p.at.start) y) 0 (own id q) l (fit_asc g l f k) e)
        (subst (λ (x : ℕ). apart g.shortest (zone_from g x) (zone_end g x) (insert (own id q) (in_zone g x l)) ≡ true) (sym (taken_zone l k q t) ∙ eqb-true _ _ e)
        (hole_cut g l f k t.zone t.there t.hole t.free (own id q) t.start t.left).0))
        (λ e. rw (keep_insert_no (λ p. eqb (zone_of g p.at.start) y) (own id q) l e) (k.parts y b));
  }

  -- and another pair can still be taken then
  stays_taken : (l : List Piece) → FitPieces g l → (id : ℕ) (p : Pair) → TakenOf g l p → (q : Pair) → TakenOf g l q → (p.start ≡ q.start → ⊥) → TakenOf g (insert (own id p) l) q
  stays_taken l k id p t q u n = record { zone = u.zone; there = u.there; hole = u.hole; free = free; start = u.start; left = u.left; long = u.long }
    where
      z : ℕ
      z = u.zone

      free : In u.hole (holes_in g (insert (own id p) l) u.zone)
      free =
          by_test (eqb (zone_of g p.start) z)
          (λ e. rw (keep_insert (λ x. eqb (zone_of g x.at.start) z) 0 (own id p) l (fit_asc g l f k) e)
          (others_kept (zone_from g z) (zone_end g z) (in_zone g z l) t.hole (own id p) (zone_lies g l f k z u.there)
          (subst (λ (x : ℕ). In t.hole (holes_in g l x)) (sym (taken_zone l k p t) ∙ eqb-true _ _ e) t.free) t.start u.hole u.free
          (λ h. n (t.start ∙ sym (u.start ∙ h)))))
          (λ e. rw (keep_insert_no (λ x. eqb (zone_of g x.at.start) z) (own id p) l e) u.free)

  -- so it may be given all pairs that are taken of different holes
  module _ (l : List Piece) (k : FitPieces g l) (id : ℕ) (o : ltb id (g.ids * g.zones) ≡ true) where
    fits_and_stays : (qs : List Pair) → StartsApart qs → ((q : Pair) → In q qs → TakenOf g l q)
        → FitPieces g (give id qs l) × ((x : Pair) → TakenOf g l x → NotAt x.start qs → TakenOf g (give id qs l) x)
    fits_and_stays [] a t = (k, λ x u n. u)
    fits_and_stays (q ∷ qs) a t =
        let r = fits_and_stays qs a.1 (λ x i. t x (inr i)) in
        let u = r.1 q (t q (inl refl)) a.0 in (
          fit_one (give id qs l) r.0 id o q u,
          λ x v n. stays_taken (give id qs l) r.0 id q u x (r.1 x v n.1) n.0,
        )

    pub fit_claim : (qs : List Pair) → StartsApart qs → ((q : Pair) → In q qs → TakenOf g l q) → FitPieces g (give id qs l)
    fit_claim qs a t = (fits_and_stays qs a t).0
