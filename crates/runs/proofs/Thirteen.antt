-- Refusal 13 on the pieces: those after a place lie apart exactly when no piece has a listed bit and no hole of 1 to m - 1 bits is
-- left. Pieces of different zones share no bit, so the zones are looked at one by one.
use mathlib.Core.Path.{◌≡◌, refl, sym, ap, ◌∙◌, subst}
use mathlib.Core.Bool.{Bool, true, ◌&&◌}
use mathlib.Core.List.{List, [], ◌∷◌, map}
use mathlib.Core.Logic.{inl, inr}
use Prim.Native.Nat.{ℕ, ◌+◌, ◌<◌, ◌≤◌}
use native.Mathlib.Nat.{div-mul-le_self}
use native.Mathlib.Omega.{arith}
use lib.Dec.{eqb, leb}
use borrow.Author.Tests.{eqb-true, eq-eqb, leb-true}
use Rattle.bits.proofs.Tests.{by_test, both}
use Rattle.geometry.specs.declared.Geometry.{Geometry}
use Rattle.geometry.specs.Accepted.{AcceptedGeometry}
use Rattle.geometry.specs.Places.{zone_of, zone_from, zone_end, disc_bits, start_zone}
use Rattle.model.specs.Chain.{Pair}
use Rattle.model.specs.Pieces.{Piece, late}
use Rattle.model.proofs.ChainDrawn.{Lies}
use Rattle.edits.specs.Order.{rank}
use Rattle.edits.specs.Edits.{put, own, give, in_zone}
use Rattle.edits.specs.Holes.{holes, all_apart}
use Rattle.edits.specs.Judge.{pair_fits, pairs_fit}
use Rattle.edits.proofs.Kept.{All, all_keep, all_put}
use Rattle.edits.specs.Room.{In, ShareNone}
use Rattle.edits.proofs.Entries.{in_keep, in_kept, in_map, map_in}
use Rattle.edits.proofs.ByPlace.{keep_put_by_place}
use Rattle.edits.proofs.Gaps.{is_long, all_apart_at}
use Rattle.edits.proofs.HolesLeft.{apart_lies, apart_holes, lies_apart, apart_all}
use Rattle.edits.proofs.Invariant.{FitPieces, some_bits, on_disc, PairTested, pair_tested, list_long}
use Rattle.edits.proofs.HolesAscend.{zone_lies}
use Rattle.edits.proofs.FreeBits.{bit_zone, piece_end}
use Rattle.runs.proofs.Sharing.{put_shares_none, Separate, separate_keep, lies_put}

-- every listed bit is free: no piece has it
abbrev pub ListedFree : List Pair → List Piece → Type 0
ListedFree qs l = (q : Pair) → In q qs → (p : Piece) → In p l → ShareNone q p.at

-- no leftover of 1 to m-1 free bits, where l are the pieces after the place
abbrev pub NoLeftover : Geometry → List Piece → Type 0
NoLeftover g l = (z : ℕ) → z < g.zones → (h : Pair) → In h (holes (zone_from g z) (zone_end g z) (in_zone g z l)) → g.shortest ≤ h.len

-- the listed pairs share no bit
pub pairs_in_law : (g : Geometry) (id from : ℕ) (qs : List Pair) → pairs_fit g id from qs ≡ true → (q : Pair) → In q qs → PairTested g q × (from ≤ rank (late g id) (disc_bits g) (own id q))
pairs_in_law g id from [] h q i = absurd i
pairs_in_law g id from (x ∷ xs) h q i = go i (pairs_in_law g id (r + x.len) xs a.1 q)
  where
    r : ℕ
    r = rank (late g id) (disc_bits g) (own id x)

    a : (pair_fits g x && leb from (rank (late g id) (disc_bits g) (own id x)) ≡ true) × (pairs_fit g id (rank (late g id) (disc_bits g) (own id x) + x.len) xs ≡ true)
    a = both (pair_fits g x && leb from (rank (late g id) (disc_bits g) (own id x))) (pairs_fit g id (rank (late g id) (disc_bits g) (own id x) + x.len) xs) h

    b : (pair_fits g x ≡ true) × (leb from (rank (late g id) (disc_bits g) (own id x)) ≡ true)
    b = both (pair_fits g x) (leb from (rank (late g id) (disc_bits g) (own id x))) a.0

    go : In q (x ∷ xs) → (In q xs → PairTested g q × (rank (late g id) (disc_bits g) (own id x) + x.len ≤ rank (late g id) (disc_bits g) (own id q))) → PairTested g q × (from ≤ rank (late g id) (disc_bits g) (own id q))
    go (inl e) ih = subst (λ (y : Pair). PairTested g y × (from ≤ rank (late g id) (disc_bits g) (own id y))) (sym e) (pair_tested g x b.0, leb-true from r b.1)
    go (inr j) ih = let k = ih j in (k.0, omega (arith, k.1, leb-true from r b.1))

pub in_order_separate : (g : Geometry) (id : ℕ) (q p : Pair) → PairTested g q → PairTested g p → rank (late g id) (disc_bits g) (own id q) + q.len ≤ rank (late g id) (disc_bits g) (own id p) → ShareNone q p
in_order_separate g id q p a b h d i j =
    let e : zone_of g q.start ≡ zone_of g p.start = sym (bit_zone g q d a.in_zone_end i) ∙ bit_zone g p d b.in_zone_end j in
    let k : late g id (own id q) ≡ late g id (own id p) = ap (λ (z : ℕ). leb (start_zone g id) z) e in
    by_test (late g id (own id q))
    (λ t. let c : q.start + q.len ≤ p.start = simp (t, sym k ∙ t) at h in omega arith)
    (λ t. let c : disc_bits g + q.start + q.len ≤ disc_bits g + p.start = simp (t, sym k ∙ t) at h in omega arith)

pub list_separate : (g : Geometry) (id from : ℕ) (qs : List Pair) → pairs_fit g id from qs ≡ true → Separate (map (own id) qs)
list_separate g id from [] h = tt
list_separate g id from (q ∷ qs) h =
    let r = rank (late g id) (disc_bits g) (own id q) in
    let a = both (pair_fits g q && leb from r) (pairs_fit g id (r + q.len) qs) h in
    let b = both (pair_fits g q) (leb from r) a.0 in (
      λ x i. (
          let m = in_map (own id) x qs i in
          let k = pairs_in_law g id (r + q.len) qs a.1 m.0 m.1 in
          subst (λ (y : Piece). ShareNone q y.at) (sym m.2) (in_order_separate g id q m.0 (pair_tested g q b.0) k.0 k.1)
          ),
      list_separate g id (r + q.len) qs a.1,
    )

-- the pieces before the place
module _ (g : Geometry) (id : ℕ) (qs : List Pair) (l : List Piece) (ok : AcceptedGeometry g) (fit : FitPieces g l) (k : pairs_fit g id 0 qs ≡ true) where
  pub after_long : All (is_long g.shortest) (give id qs l)
  after_long = all_put (is_long g.shortest) (map (own id) qs) l (list_long g id 0 qs k) fit.long

  -- a zone's pieces after the place
  pub after_zone : (z : ℕ) → in_zone g z (give id qs l) ≡ put (in_zone g z (map (own id) qs)) (in_zone g z l)
  after_zone z = keep_put_by_place (λ p. eqb (zone_of g p.at.start) z) (map (own id) qs) l fit.weak

  free_if_apart : all_apart g 0 g.zones (give id qs l) ≡ true → ListedFree qs l
  free_if_apart t q i p j d a b =
      let r = (pairs_in_law g id 0 qs k q i).0 in
      let z = zone_of g q.start in
      let e : zone_of g p.at.start ≡ z = sym (bit_zone g p.at d (piece_end g l ok fit p j) b) ∙ bit_zone g q d r.in_zone_end a in
      let h : z < g.zones = on_disc g q.start ok (omega (arith, r.size, r.below, some_bits g ok)) in
      let w = apart_lies g.shortest (zone_from g z) (zone_end g z) (in_zone g z (give id qs l)) (some_bits g ok)
      (all_keep (is_long g.shortest) (λ x. eqb (zone_of g x.at.start) z) (give id qs l) after_long)
      (all_apart_at g 0 g.zones (give id qs l) t z (omega arith) (omega arith)) in
      put_shares_none (zone_from g z) (zone_end g z) (in_zone g z (map (own id) qs)) (in_zone g z l) (rw (after_zone z) at w)
      (own id q) p
      (in_keep (λ x. eqb (zone_of g x.at.start) z) (own id q) (map (own id) qs) (map_in (own id) q qs i) (eq-eqb z z refl))
      (in_keep (λ x. eqb (zone_of g x.at.start) z) p l j (eq-eqb (zone_of g p.at.start) z e))
      d a b

  pub apart_if_free : ListedFree qs l → (z : ℕ) → z < g.zones → Lies (zone_from g z) (zone_end g z) (in_zone g z (give id qs l))
  apart_if_free f z h =
      rw (after_zone z)
      (lies_put (zone_from g z) (zone_end g z) (in_zone g z (map (own id) qs)) (in_zone g z l) (zone_lies g l ok fit z h)
      (separate_keep in_z (map (own id) qs) (list_separate g id 0 qs k))
      (λ p i. bounds p (in_kept in_z p (map (own id) qs) i))
      (λ p x i j. free p x (in_kept in_z p (map (own id) qs) i).0 (in_kept in_z x l j).0))
    where
      in_z : Piece → Bool
      in_z p = eqb (zone_of g p.at.start) z

      bounds : (p : Piece) → In p (map (own id) qs) × (eqb (zone_of g p.at.start) z ≡ true) → (zone_from g z ≤ p.at.start) × (0 < p.at.len) × (p.at.start + p.at.len ≤ zone_end g z)
      bounds p i =
          let m = in_map (own id) p qs i.0 in
          let r = (pairs_in_law g id 0 qs k m.0 m.1).0 in
          let s : p.at ≡ m.0 = ap (λ (x : Piece). x.at) m.2 in
          let e : zone_of g m.0.start ≡ z = ap (λ (x : Pair). zone_of g x.start) (sym s) ∙ eqb-true (zone_of g p.at.start) z i.1 in
          subst (λ (x : Pair). (zone_from g z ≤ x.start) × (0 < x.len) × (x.start + x.len ≤ zone_end g z)) (sym s)
          (subst (λ (y : ℕ). (zone_from g y ≤ m.0.start) × (0 < m.0.len) × (m.0.start + m.0.len ≤ zone_end g y)) e
          (omega (arith, div-mul-le_self (m.0.start + 480) g.bits), omega (arith, r.size, some_bits g ok), r.in_zone_end))

      free : (p x : Piece) → In p (map (own id) qs) → In x l → ShareNone p.at x.at
      free p x i j = let m = in_map (own id) p qs i in subst (λ (y : Piece). ShareNone y.at x.at) (sym m.2) (f m.0 m.1 x j)

  pub pairs_thirteen : (all_apart g 0 g.zones (give id qs l) ≡ true → ListedFree qs l × NoLeftover g (give id qs l)) × (ListedFree qs l × NoLeftover g (give id qs l) → all_apart g 0 g.zones (give id qs l) ≡ true)
  pairs_thirteen = (
    λ t. (free_if_apart t, λ z h. apart_holes g.shortest (zone_from g z) (zone_end g z) (in_zone g z (give id qs l)) (all_apart_at g 0 g.zones (give id qs l) t z (omega arith) (omega arith))),
    λ f. apart_all g 0 g.zones (give id qs l) (λ z lo hi. lies_apart g.shortest (zone_from g z) (zone_end g z) (in_zone g z (give id qs l)) (apart_if_free f.0 z (omega arith)) (f.1 z (omega arith))),
  )
