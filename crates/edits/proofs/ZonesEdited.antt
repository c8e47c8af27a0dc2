-- What is known of the map after an accepted call, zone by zone: a zone's block is drawn from the pieces that it has after the edit,
-- over the block that it had, and these can be drawn; a zone that the edit does not touch keeps its block.
use mathlib.Core.Path.{◌≡◌, refl, ap, ap₂, ◌∙◌, subst}
use mathlib.Core.Bool.{false}
use mathlib.Core.List.{List, [], ◌∷◌, map}
use mathlib.Core.Option.{none}
use Prim.Native.Nat.{ℕ, ◌<◌}
use lib.Bits.{bit_xor}
use lib.ListN.{length, get_or}
use Rattle.checks.specs.Cross.{cross_of}
use Rattle.geometry.specs.declared.Geometry.{Geometry}
use Rattle.geometry.specs.Record.{geometry_of}
use Rattle.geometry.specs.Places.{first_bit, end_bit}
use Rattle.model.specs.Pieces.{Piece}
use Rattle.model.specs.Rules.{zone_block}
use Rattle.model.specs.Drawing.{Drawable}
use Rattle.model.specs.Shown.{zones_of, pieces_on}
use Rattle.edits.specs.Edits.{Disc, touches, Edit, takes, gives, pairs_in, edit, in_zone}
use Rattle.model.specs.Answer.{answered}
use Rattle.edits.specs.Judge.{Call, judge}
use Rattle.edits.specs.Written.{written, to_block}
use Rattle.edits.specs.Steps.{disc_of, bytes_after}
use Rattle.edits.specs.Editable.{Editable}
use Rattle.edits.specs.EditableMap.{EditableMap}
use Rattle.edits.proofs.RunsKept.{allowed, cross_edit}
use Rattle.edits.proofs.ZoneDrawable.{zone_drawable}
use Rattle.edits.proofs.MapAccepted.{map_disc}
use Rattle.edits.proofs.RunsOnBytes.{length_kept, step_accepted}
use Rattle.edits.proofs.ZonesTouched.{change_at, crossed_at}
use Rattle.edits.proofs.ZonesAfter.{zone_cross_at, zone_edited, zone_untouched}
use Rattle.edits.proofs.EditableMap.{map_pieces, with_record}

-- the pieces after an edit
abbrev pub new_pieces : Geometry → Edit → List Piece → List Piece
new_pieces g k l = (edit g k (record { pieces = l; cross = [] })).pieces

new_is : (g : Geometry) (k : Edit) (s : Disc) → (edit g k s).pieces ≡ new_pieces g k s.pieces
new_is g (takes id qs) s = refl
new_is g (gives id qs) s = refl

pub record EditedZones (m : List ℕ) (g : Geometry) (k : Edit) (after : List ℕ) : Type 0 where
  pub long : length after ≡ length m
  pub zone_new : (z : ℕ) → z < g.zones
      → zone_block g after z
      ≡ written g.idlen (first_bit z) (end_bit g) (map (to_block g z) (in_zone g z (new_pieces g k (pieces_on g m)))) (bit_xor (cross_of (zone_block g m z)) (change_at g (pairs_in k) z)) (zone_block g m z)
  pub zone_old : (z : ℕ) → z < g.zones → touches g z (pairs_in k) ≡ false → zone_block g after z ≡ zone_block g m z
  pub drawable : (z : ℕ) → z < g.zones → Drawable g.idlen (first_bit z) (end_bit g) (map (to_block g z) (in_zone g z (new_pieces g k (pieces_on g m))))

module _ {m : List ℕ} (e : EditableMap m (geometry_of m)) (c : Call) (k : Edit) (v : judge (geometry_of m) none (pieces_on (geometry_of m) m) c ≡ answered k) where
  abbrev g : Geometry
  g = geometry_of m

  abbrev d : Editable m
  d = e.editable

  abbrev s : Disc
  s = disc_of m (zones_of m)

  cross_is : (z : ℕ) → z < (geometry_of m).zones → get_or (edit (geometry_of m) k (disc_of m (zones_of m))).cross z 0 ≡ bit_xor (cross_of (zone_block (geometry_of m) m z)) (change_at (geometry_of m) (pairs_in k) z)
  cross_is z h =
      ap (λ (cs : List ℕ). get_or cs z 0) (cross_edit g k s)
      ∙ crossed_at g (pairs_in k) s.cross z (map_disc m (zones_of m) d.bytes d.accepted).count h
      ∙ ap (λ (x : ℕ). bit_xor x (change_at g (pairs_in k) z)) (zone_cross_at m (zones_of m) d.bytes d.accepted d.apart z h)

  zones_of_map : EditedZones m (geometry_of m) k (bytes_after m (answered k))
  zones_of_map = subst (EditedZones m g k) (step_accepted m (zones_of m) d.bytes d.accepted d.apart c k v).1 (record {
    long = length_kept m (zones_of m) d.bytes d.accepted d.apart (c ∷ []);
    zone_new = λ z h.
        zone_edited m (zones_of m) d.bytes d.accepted d.apart c k v z h
        ∙ ap₂ (λ (l : List Piece) (x : ℕ). written g.idlen (first_bit z) (end_bit g) (map (to_block g z) (in_zone g z l)) x (zone_block g m z)) (new_is g k s) (cross_is z h);
    zone_old = λ z h t. zone_untouched m (zones_of m) d.bytes d.accepted d.apart c k v z h t;
    drawable = λ z h. zone_drawable g (new_pieces g k s.pieces) z e.accepted.readable.numbers
        ((allowed g s.pieces c k e.accepted.readable.numbers (map_pieces e).fit v).1 []) h;
  })

-- and with the geometry that the check gave
pub edited_zones : {m : List ℕ} {g : Geometry} → EditableMap m g → (c : Call) (k : Edit) → judge g none (pieces_on g m) c ≡ answered k
    → EditedZones m g k (bytes_after m (answered k))
edited_zones {m} e c k v =
    with_record e (λ (x : Geometry). judge x none (pieces_on x m) c ≡ answered k → EditedZones m x k (bytes_after m (answered k))) (λ w u. zones_of_map w c k u) v
