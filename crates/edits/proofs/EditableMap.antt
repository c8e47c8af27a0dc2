-- A map that edits work on: it is accepted and no zone is told to have touching fragments. Its zones are those that the check
-- found, and its pieces keep what the edits lean on.
use mathlib.Core.Path.{◌≡◌, sym, ap, ◌∙◌, subst⁻¹}
use mathlib.Core.List.{List, [], map}
use Prim.Native.Nat.{ℕ, ◌<◌}
use lib.ListN.{get_or}
use Rattle.bits.specs.Bits.{Bytes}
use Rattle.geometry.specs.declared.Geometry.{Geometry}
use Rattle.geometry.specs.Record.{geometry_of}
use Rattle.model.specs.Chain.{Entry, touching}
use Rattle.model.specs.Rules.{zone_block}
use Rattle.model.specs.Answer.{answered}
use Rattle.model.specs.Pieces.{owned_of, piece_to_disc}
use Rattle.zone.specs.Lines.{entries_in}
use Rattle.map.specs.Accepted.{AcceptedMap}
use Rattle.map.proofs.Accepts.{zone_entries}
use Rattle.edits.specs.Edits.{in_zone}
use Rattle.model.specs.Shown.{zones_of, pieces_on}
use Rattle.edits.proofs.MapAccepted.{map_disc}
use Rattle.edits.proofs.PiecesKept.{AcceptedPieces}
use Rattle.edits.proofs.ZonesAfter.{zone_pieces_at}
use Rattle.walk.specs.Touching.{touching_of}
use Rattle.edits.specs.EditableMap.{EditableMap}
use Rattle.std.specs.Prelude.{None}
use Rattle.walk.proofs.ZonesTouching.{none_told, zones_are}

pub map_editable : {m : List ℕ} {g : Geometry} (a : AcceptedMap m g) → Bytes m → touching_of (touching 0 (zones_of m)) ≡ None → EditableMap m g
map_editable {m} a b t = record {
  accepted = a;
  editable = record { bytes = b; accepted = a.read ∙ ap answered (sym (zones_are a)); apart = none_told (touching 0 (zones_of m)) t };
}

pub entries_at : {m : List ℕ} {g : Geometry} → AcceptedMap m g → (z : ℕ) → z < g.zones → get_or (zones_of m) z [] ≡ entries_in g z (zone_block g m z)
entries_at a z h = ap (λ (ess : List (List Entry)). get_or ess z []) (zones_are a) ∙ sym (zone_entries a z h)

-- what holds with the geometry of the map's record holds with the one that the check gave: they are the same
pub with_record : {m : List ℕ} {g : Geometry} → EditableMap m g → (P : Geometry → Type 0) → (EditableMap m (geometry_of m) → P (geometry_of m)) → P g
with_record {m} e P h = subst⁻¹ (λ (x : Geometry). EditableMap m x → P x) e.accepted.geometry h e

-- the pieces, of all zones and of one
pub map_pieces : {m : List ℕ} {g : Geometry} → EditableMap m g → AcceptedPieces g (pieces_on g m)
map_pieces {m} e =
    with_record e (λ (x : Geometry). AcceptedPieces x (pieces_on x m))
    (λ d. (map_disc m (zones_of m) d.editable.bytes d.editable.accepted).pieces)

pub zone_pieces_law : {m : List ℕ} {g : Geometry} → EditableMap m g → (z : ℕ) → z < g.zones
    → in_zone g z (pieces_on g m) ≡ map (piece_to_disc g z) (owned_of (entries_in g z (zone_block g m z)))
zone_pieces_law {m} e z =
    with_record e (λ (x : Geometry). z < x.zones → in_zone x z (pieces_on x m) ≡ map (piece_to_disc x z) (owned_of (entries_in x z (zone_block x m z))))
    (λ d h. zone_pieces_at m (zones_of m) d.editable.bytes d.editable.accepted d.editable.apart z h
    ∙ ap (λ (es : List Entry). map (piece_to_disc (geometry_of m) z) (owned_of es)) (entries_at d.accepted z h))
