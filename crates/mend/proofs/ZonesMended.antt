-- A mended map, zone by zone: each block is drawn from the pieces that the zone has, and these can be drawn; of the cross checks only
-- zone 0's changes. The map's pieces are what was read of its zones, so each zone's part of them is what was read of that zone, and
-- none is one of object 0.
use mathlib.Core.Path.{◌≡◌, refl, sym, ap, ap₂, ◌∙◌, subst, subst⁻¹}
use mathlib.Core.List.{List, [], ◌∷◌, map}
use Prim.Native.Nat.{ℕ, zero, suc, ◌*◌, ◌<◌}
use native.Mathlib.Nat.{zero-add}
use native.Mathlib.Omega.{arith}
use lib.Bits.{bit_xor, xor_zero_r}
use lib.Dec.{leb}
use lib.ListN.{length, get_or, length-map, get_or-map}
use borrow.Author.Tests.{ne_eqb}
use Rattle.bits.specs.Bits.{Bytes}
use Rattle.checks.specs.Cross.{cross_of}
use Rattle.geometry.specs.declared.Geometry.{Geometry}
use Rattle.geometry.specs.Record.{geometry_of}
use Rattle.geometry.specs.Places.{first_bit, end_bit}
use Rattle.model.specs.Answer.{answered}
use Rattle.model.specs.Chain.{Entry}
use Rattle.model.specs.Check.{blocks_of}
use Rattle.model.specs.Drawing.{Drawable}
use Rattle.model.specs.Pieces.{Piece, owned_of, piece_to_disc, pieces_of_zones}
use Rattle.model.specs.Rules.{zone_block}
use Rattle.map.specs.Accepted.{MendableMap}
use Rattle.map.proofs.Accepts.{mendable_entries}
use Rattle.edits.specs.Edits.{without, in_zone}
use Rattle.edits.specs.Written.{written, to_block}
use Rattle.edits.proofs.Kept.{all_keep}
use Rattle.edits.proofs.MapAccepted.{read_geometry, read_of, read_pieces, read_pieces_found, read_count}
use Rattle.edits.proofs.MapFound.{zone_pieces_law}
use Rattle.edits.proofs.Slices.{length_blocks, block_of_slice}
use Rattle.edits.proofs.StepWritten.{length_new_map, block_new}
use Rattle.edits.proofs.ZoneDrawable.{zone_drawable}
use Rattle.writer.specs.Edited.{zone_pieces}
use Rattle.writer.proofs.ZonesEdited.{none_of_zero}
use Rattle.mended.specs.Mended.{lacking, cross_mended, disc_mended, mended_by, mended}
use Rattle.mended.proofs.CrossMended.{mended_count}
use Rattle.mend.specs.Zones.{change_of, own_pieces, block_mended}

-- the cross checks: only the first changes
cross_mended_law : (cs : List ℕ) (z : ℕ) → z < length cs → get_or (cross_mended cs) z 0 ≡ bit_xor (get_or cs z 0) (change_of z (lacking cs))
cross_mended_law [] z h = absurd (omega arith)
cross_mended_law (c ∷ cs) zero h = refl
cross_mended_law (c ∷ cs) (suc z) h = rw (ne_eqb (suc z) 0 (λ e. omega arith)) (sym (xor_zero_r (get_or cs z 0)))

-- what the cross checks of a map lack
abbrev pub lack_of : Geometry → List ℕ → ℕ
lack_of g m = lacking (map cross_of (blocks_of g m))

pub record MendedZones (m : List ℕ) (g : Geometry) : Type 0 where
  pub long : length (mended m) ≡ g.zones * g.sector
  pub block : (z : ℕ) → z < g.zones → zone_block g (mended m) z ≡ block_mended g m z (change_of z (lack_of g m))
  pub drawable : (z : ℕ) → z < g.zones → Drawable g.idlen (first_bit z) (end_bit g) (map (to_block g z) (own_pieces g m z))

module _ {m : List ℕ} (a : MendableMap m (geometry_of m)) (bytes : Bytes m) where
  abbrev g : Geometry
  g = geometry_of m

  abbrev ess : List (List Entry)
  ess = a.zones

  abbrev ps : List Piece
  ps = pieces_of_zones (geometry_of m) 0 a.zones

  own_pieces_law : (z : ℕ) → z < (geometry_of m).zones → own_pieces (geometry_of m) m z ≡ in_zone (geometry_of m) z (pieces_of_zones (geometry_of m) 0 a.zones)
  own_pieces_law z h =
      let here : in_zone g z ps ≡ zone_pieces g m z =
      subst (λ (i : ℕ). in_zone g i ps ≡ map (piece_to_disc g i) (owned_of (get_or ess z []))) (zero-add z)
      (zone_pieces_law g 0 ess (read_pieces_found m ess bytes a.read) z (omega (arith, read_count m ess bytes a.read)))
      ∙ ap (λ (es : List Entry). map (piece_to_disc g z) (owned_of es)) (sym (mendable_entries a z h)) in
      ap (without 0) (sym here) ∙ none_of_zero (in_zone g z ps) (all_keep (λ p. leb 1 p.owner) _ ps (read_pieces m ess bytes a.read).numbered)

  cross_at_law : (z : ℕ) → z < (geometry_of m).zones
      → get_or (cross_mended (map cross_of (blocks_of (geometry_of m) m))) z 0 ≡ bit_xor (cross_of (zone_block (geometry_of m) m z)) (change_of z (lack_of (geometry_of m) m))
  cross_at_law z h =
      let bs = blocks_of g m in
      cross_mended_law (map cross_of bs) z (omega (arith, length-map bs cross_of, length_blocks g.sector g.zones m))
      ∙ ap (λ (c : ℕ). bit_xor c (change_of z (lack_of g m))) (get_or-map cross_of bs z [] ∙ ap cross_of (block_of_slice g.sector g.zones m z a.readable.sized h))

  zones_of_map : MendedZones m (geometry_of m)
  zones_of_map =
      let s = disc_mended m ess in
      let t = read_of m ess bytes a.read in
      let is : mended m ≡ mended_by m (answered ess) = ap (mended_by m) a.read in
      let bs = blocks_of g m in
      record {
        long = ap length is ∙ length_new_map g m t s;
        block = λ z h.
            ap (λ (x : List ℕ). zone_block g x z) is
            ∙ block_new g m t s z (mended_count (map cross_of bs) ∙ length-map bs cross_of ∙ length_blocks g.sector g.zones m) h
            ∙ ap₂ (λ (l : List Piece) (c : ℕ). written g.idlen (first_bit z) (end_bit g) (map (to_block g z) l) c (zone_block g m z)) (sym (own_pieces_law z h)) (cross_at_law z h);
        drawable = λ z h. subst⁻¹ (λ (l : List Piece). Drawable g.idlen (first_bit z) (end_bit g) (map (to_block g z) l)) (own_pieces_law z h)
            (zone_drawable g ps z (read_geometry m ess bytes a.read) (read_pieces m ess bytes a.read).fit h);
      }

-- with the geometry that the check gave
pub mended_zones : {m : List ℕ} {g : Geometry} → MendableMap m g → Bytes m → MendedZones m g
mended_zones {m} a bytes = subst⁻¹ (λ (x : Geometry). MendableMap m x → MendedZones m x) a.geometry (λ k. zones_of_map k bytes) a
