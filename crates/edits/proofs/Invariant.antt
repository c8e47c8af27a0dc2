-- The invariant of a map's pieces: they come by disc bit, are long enough, in zones, with known ids, and lie apart in each
-- zone. So they ascend; and they keep it when an object is released or placed.
use mathlib.Core.Path.{◌≡◌, refl, sym, ap, ◌∙◌}
use mathlib.Core.Bool.{Bool, true, ◌&&◌}
use mathlib.Core.List.{List, [], ◌∷◌, map}
use mathlib.Core.Logic.{inl}
use Prim.Native.Nat.{ℕ, ◌+◌, ◌-◌, ◌*◌, ◌/◌, ◌%◌, ◌<◌, ◌≤◌}
use native.Mathlib.Nat.{div-lt_iff_lt-mul}
use native.Mathlib.Omega.{arith}
use lib.Dec.{eqb, ltb, leb}
use lib.Arith.{digits_div}
use borrow.Author.Tests.{eqb-true, eqb-false, eq-eqb, lt-ltb, ltb-true, leb-true}
use Rattle.bits.proofs.Tests.{by_test, both}
use Rattle.geometry.specs.declared.Geometry.{Geometry}
use Rattle.geometry.specs.Accepted.{AcceptedGeometry}
use Rattle.geometry.specs.Places.{zone_of, zone_from, zone_end, disc_bits}
use Rattle.model.specs.Chain.{Pair}
use Rattle.model.specs.Pieces.{Piece, keep, late}
use Rattle.edits.specs.Order.{Ascending, rank}
use Rattle.edits.specs.Edits.{not_of, without, own, give, in_zone}
use Rattle.edits.specs.Holes.{apart, all_apart}
use Rattle.edits.specs.Judge.{pair_fits, pairs_fit}
use Rattle.edits.proofs.ObjectOrder.{InOrder}
use Rattle.edits.proofs.Kept.{All, all_keep, all_put, keep_comm}
use Rattle.edits.proofs.ByPlace.{Weak, weak_keep, weak_put}
use Rattle.edits.proofs.PutIn.{asc_weaken}
use Rattle.edits.proofs.Gaps.{is_long, apart_keep, apart_asc, all_apart_at}

-- the invariant
pub record FitPieces (g : Geometry) (l : List Piece) : Type 0 where
  pub weak : Weak 0 l
  pub long : All (is_long g.shortest) l
  pub zoned : All (λ p. ltb (zone_of g p.at.start) g.zones) l
  pub named : All (λ p. ltb p.owner (g.ids * g.zones)) l
  pub parts : (z : ℕ) → z < g.zones → apart g.shortest (zone_from g z) (zone_end g z) (in_zone g z l) ≡ true

-- pieces that ascend in each zone ascend
pub asc_tail : (t : Piece → Bool) (x : Piece) (l : List Piece) → Ascending 0 (keep t (x ∷ l)) → Ascending 0 (keep t l)
asc_tail t x l a =
    by_test (t x)
    (λ h. let b : Ascending 0 (x ∷ keep t l) = simp h at a in asc_weaken (keep t l) (omega arith) b.1)
    (λ h. simp h at a)

pub asc_zones : (g : Geometry) (f : ℕ) (l : List Piece) → Weak f l → All (λ p. ltb (zone_of g p.at.start) g.zones) l → ((z : ℕ) → z < g.zones → Ascending 0 (in_zone g z l)) → Ascending f l
asc_zones g f [] w zs h = tt
asc_zones g f (x ∷ []) w zs h = (w.0, tt)
asc_zones g f (x ∷ y ∷ l) w zs h =
    let rest : Ascending x.at.start (y ∷ l) = asc_zones g x.at.start (y ∷ l) w.1 zs.1 (λ z k. asc_tail (λ p. eqb (zone_of g p.at.start) z) x (y ∷ l) (h z k)) in
    let z = zone_of g x.at.start in (
      w.0,
      (
        by_test (eqb x.at.start y.at.start)
            (λ t. let a : Ascending 0 (x ∷ y ∷ in_zone g z l) = simp (eq-eqb z z refl, eq-eqb (zone_of g y.at.start) z (ap (zone_of g) (sym (eqb-true _ _ t)))) at (h z (ltb-true z g.zones zs.0)) in a.1.0)
            (λ t. omega (arith, eqb-false x.at.start y.at.start t)),
        rest.1,
      ),
    )

-- what the geometry gives
pub some_bits : (g : Geometry) → AcceptedGeometry g → 0 < g.shortest
some_bits g f = omega (arith, f.shortest_low)

pub some_zone : (g : Geometry) → AcceptedGeometry g → 0 < g.bits
some_zone g f = omega (arith, f.bits_low)

-- the pieces ascend
pub fit_asc : (g : Geometry) (l : List Piece) → AcceptedGeometry g → FitPieces g l → Ascending 0 l
fit_asc g l f h = asc_zones g 0 l h.weak h.zoned (λ i k. asc_weaken (in_zone g i l) (omega arith) (apart_asc g.shortest (zone_from g i) (zone_end g i) (in_zone g i l) (some_bits g f) (all_keep (is_long g.shortest) _ l h.long) (h.parts i k)))

-- an object released
pub fit_without : (g : Geometry) (id : ℕ) (l : List Piece) → FitPieces g l → FitPieces g (without id l)
fit_without g id l h = record {
  weak = weak_keep (not_of id) 0 l h.weak;
  long = all_keep _ (not_of id) l h.long;
  zoned = all_keep _ (not_of id) l h.zoned;
  named = all_keep _ (not_of id) l h.named;
  parts = λ z k.
      rw (keep_comm (λ p. eqb (zone_of g p.at.start) z) (not_of id) l)
      (apart_keep g.shortest (zone_from g z) (zone_from g z) (zone_end g z) (not_of id) (in_zone g z l) (all_keep _ _ l h.long) (inl refl) (h.parts z k));
}

-- a bit on the disc map is in one of its zones
pub on_disc : (g : Geometry) (d : ℕ) → AcceptedGeometry g → d < disc_bits g → zone_of g d < g.zones
on_disc g d f h = (div-lt_iff_lt-mul (some_zone g f)).1 (omega arith)

pub zoned_on_disc : (g : Geometry) (d : ℕ) → AcceptedGeometry g → zone_of g d < g.zones → d < disc_bits g
zoned_on_disc g d f h = omega (arith, (div-lt_iff_lt-mul (some_zone g f)).0 h)

-- a disc bit between a zone's ends is in the zone
pub in_zone_law : (g : Geometry) (z d : ℕ) → zone_from g z ≤ d → d < zone_end g z → zone_of g d ≡ z
in_zone_law g z d lo hi =
    let r : d + 480 - z * g.bits < g.bits = omega arith in
    let e : d + 480 ≡ z * g.bits + (d + 480 - z * g.bits) = omega arith in
    ap (λ (x : ℕ). x / g.bits) e ∙ digits_div z r

-- what the test of a pair says
pub record PairTested (g : Geometry) (q : Pair) : Type 0 where
  pub long : leb g.shortest q.len ≡ true
  pub size : g.shortest ≤ q.len
  pub start_clusters : q.start % g.cluster ≡ 0
  pub length_clusters : q.len % g.cluster ≡ 0
  pub below : q.start + q.len ≤ disc_bits g
  pub in_zone_end : q.start + q.len ≤ zone_end g (zone_of g q.start)

pub pair_tested : (g : Geometry) (q : Pair) → pair_fits g q ≡ true → PairTested g q
pair_tested g q h =
    let a = both _ _ h in
    let b = both _ _ a.0 in
    let c = both _ _ a.1 in
    let k = both _ _ b.1 in
    record {
      long = b.0;
      size = leb-true g.shortest q.len b.0;
      start_clusters = eqb-true _ _ k.0;
      length_clusters = eqb-true _ _ k.1;
      below = leb-true _ _ c.0;
      in_zone_end = leb-true _ _ c.1;
    }

pub order_weaken : (t : Piece → Bool) (n : ℕ) {f g : ℕ} (l : List Piece) → f ≤ g → InOrder t n g l → InOrder t n f l
order_weaken t n [] h o = tt
order_weaken t n (x ∷ xs) h o = (o.0, omega arith, o.2)

-- a list that fits is in object order, long enough, in zones
pub list_order : (g : Geometry) (id from : ℕ) (qs : List Pair) → AcceptedGeometry g → pairs_fit g id from qs ≡ true → InOrder (late g id) (disc_bits g) from (map (own id) qs)
list_order g id from [] f h = tt
list_order g id from (q ∷ qs) f h =
    let r = rank (late g id) (disc_bits g) (own id q) in
    let a = both (pair_fits g q && leb from r) (pairs_fit g id (r + q.len) qs) h in
    let b = both (pair_fits g q) (leb from r) a.0 in
    let k = pair_tested g q b.0 in (
      omega arith,
      leb-true from r b.1,
      order_weaken (late g id) (disc_bits g) (map (own id) qs) (omega arith) (list_order g id (r + q.len) qs f a.1),
    )

pub list_long : (g : Geometry) (id from : ℕ) (qs : List Pair) → pairs_fit g id from qs ≡ true → All (is_long g.shortest) (map (own id) qs)
list_long g id from [] h = tt
list_long g id from (q ∷ qs) h =
    let a = both _ _ h in
    let b = both _ _ a.0 in
    ((pair_tested g q b.0).long, list_long g id (rank (late g id) (disc_bits g) (own id q) + q.len) qs a.1)

pub list_zoned : (g : Geometry) (id from : ℕ) (qs : List Pair) → AcceptedGeometry g → pairs_fit g id from qs ≡ true → All (λ p. ltb (zone_of g p.at.start) g.zones) (map (own id) qs)
list_zoned g id from [] f h = tt
list_zoned g id from (q ∷ qs) f h =
    let a = both _ _ h in
    let b = both _ _ a.0 in
    let k = pair_tested g q b.0 in
    (lt-ltb _ _ (on_disc g q.start f (omega arith)), list_zoned g id (rank (late g id) (disc_bits g) (own id q) + q.len) qs f a.1)

pub all_named : (g : Geometry) (id : ℕ) (qs : List Pair) → ltb id (g.ids * g.zones) ≡ true → All (λ p. ltb p.owner (g.ids * g.zones)) (map (own id) qs)
all_named g id [] h = tt
all_named g id (q ∷ qs) h = (h, all_named g id qs h)

-- an object placed
pub fit_give : (g : Geometry) (id : ℕ) (qs : List Pair) (l : List Piece) → AcceptedGeometry g → FitPieces g l → ltb id (g.ids * g.zones) ≡ true → pairs_fit g id 0 qs ≡ true
    → all_apart g 0 g.zones (give id qs l) ≡ true → FitPieces g (give id qs l)
fit_give g id qs l f h o k t = record {
  weak = weak_put (map (own id) qs) l h.weak;
  long = all_put _ (map (own id) qs) l (list_long g id 0 qs k) h.long;
  zoned = all_put _ (map (own id) qs) l (list_zoned g id 0 qs f k) h.zoned;
  named = all_put _ (map (own id) qs) l (all_named g id qs o) h.named;
  parts = λ z i. all_apart_at g 0 g.zones (give id qs l) t z (omega arith) (omega arith);
}
