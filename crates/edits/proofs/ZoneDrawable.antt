-- The pieces of a zone can be drawn: fit pieces lie apart in their zone, and every piece and every gap between them has room
-- for an id.
use mathlib.Core.Path.{◌≡◌, subst}
use mathlib.Core.Bool.{true}
use mathlib.Core.List.{List, [], ◌∷◌, map}
use mathlib.Core.Logic.{inl, inr}
use Prim.Native.Nat.{ℕ, ◌+◌, ◌-◌, ◌*◌, ◌^◌, ◌<◌}
use native.Mathlib.Omega.{arith}
use lib.Dec.{ltb}
use borrow.Author.Tests.{lt-ltb, ltb-true, leb-true}
use Rattle.bits.proofs.Tests.{both}
use Rattle.geometry.specs.declared.Geometry.{Geometry}
use Rattle.geometry.specs.Accepted.{AcceptedGeometry}
use Rattle.geometry.specs.Places.{first_bit, end_bit, zone_from, zone_end}
use Rattle.model.specs.Pieces.{Piece}
use Rattle.model.specs.Drawing.{GapRoom, Drawable}
use Rattle.edits.specs.Edits.{in_zone}
use Rattle.edits.specs.Holes.{gap_fits, apart}
use Rattle.edits.proofs.Kept.{All, all_keep}
use Rattle.edits.proofs.Gaps.{Gap, gap_of_test, gap_le, is_long}
use Rattle.edits.proofs.Invariant.{FitPieces}
use Rattle.edits.specs.Written.{to_block}
use Rattle.edits.proofs.ZonePlaces.{zone_from_law, zone_end_law}

gap_hole : (n m z_z a b a2 : ℕ) → n < m → a + 512 ≡ z_z + a2 → Gap m a b → GapRoom n a2 (b + 512 - z_z)
gap_hole n m z_z a b a2 h k (inl e) = inl (omega arith)
gap_hole n m z_z a b a2 h k (inr e) = inr (omega arith)

-- from disc bits a to e, which are block bits a2 to e2
drawable : (g : Geometry) (z n m a e a2 e2 : ℕ) (l : List Piece) → n < m → All (is_long m) l → All (λ p. ltb p.owner (2 ^ n)) l
    → a + 512 ≡ z * g.bits + a2 → e + 512 ≡ z * g.bits + e2 → apart m a e l ≡ true → Drawable n a2 e2 (map (to_block g z) l)
drawable g z n m a e a2 e2 [] h w o p q t =
    subst (λ (x : ℕ). GapRoom n a2 x) (omega arith) (gap_hole n m (z * g.bits) a e a2 h p (gap_of_test m a e t))
drawable g z n m a e a2 e2 (x ∷ xs) h w o p q t =
    let b = both (gap_fits m a x.at.start) (apart m (x.at.start + x.at.len) e xs) t in
    let k = gap_of_test m a x.at.start b.0 in
    let j = gap_le m a x.at.start k in (
      gap_hole n m (z * g.bits) a x.at.start a2 h p k,
      omega (arith, leb-true m x.at.len w.0),
      ltb-true x.owner (2 ^ n) o.0,
      drawable g z n m (x.at.start + x.at.len) e _ e2 xs h w.1 o.1 (omega arith) q b.1,
    )

owners_in_bits : (g : Geometry) (l : List Piece) → AcceptedGeometry g → All (λ p. ltb p.owner (g.ids * g.zones)) l → All (λ p. ltb p.owner (2 ^ g.idlen)) l
owners_in_bits g [] ok h = tt
owners_in_bits g (p ∷ ps) ok h =
    (lt-ltb p.owner (2 ^ g.idlen) (omega (arith, ltb-true p.owner (g.ids * g.zones) h.0, ok.ids_fit)), owners_in_bits g ps ok h.1)

pub zone_drawable : (g : Geometry) (l : List Piece) (z : ℕ) → AcceptedGeometry g → FitPieces g l → z < g.zones → Drawable g.idlen (first_bit z) (end_bit g) (map (to_block g z) (in_zone g z l))
zone_drawable g l z ok k h =
    drawable g z g.idlen g.shortest (zone_from g z) (zone_end g z) (first_bit z) (end_bit g) (in_zone g z l) (omega (arith, ok.shortest_low))
    (all_keep _ _ l k.long) (all_keep _ _ l (owners_in_bits g l ok k.named)) (zone_from_law g ok z) (zone_end_law g ok z) (k.parts z h)
