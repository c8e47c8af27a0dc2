-- An edit of a map: the pieces of an object leave, or listed ones come; of one zone, and of all. Assumes nothing.
use Rattle.std.specs.Prelude.{◌≡◌, cond, List, [], ◌++◌, map, ℕ, ◌+◌, ◌-◌, ◌*◌, ◌/◌, ◌<◌, ◌≤◌, eqb, ltb, length, take, drop}
use Rattle.std.proofs.Math.Option.{none}
use Rattle.geometry.specs.declared.Geometry.{Geometry}
use Rattle.geometry.specs.Places.{first_bit, end_bit}
use Rattle.model.specs.Chain.{Pair}
use Rattle.model.specs.Pieces.{Piece, owned_of, piece_to_disc}
use Rattle.model.specs.Drawing.{Drawable}
use Rattle.model.specs.Rules.{zone_block}
use Rattle.model.specs.Shown.{pieces_on}
use Rattle.zone.specs.Lines.{entries_in}
use Rattle.map.specs.Accepted.{ReadableFrom}
use Rattle.edits.specs.Order.{Ascending}
use Rattle.edits.specs.Edits.{without, put, own, Edit, takes, gives}
use Rattle.model.specs.Answer.{answered}
use Rattle.edits.specs.Judge.{Call, pairs_from, judge}
use Rattle.edits.specs.Written.{to_block}
use Rattle.edits.specs.Steps.{bytes_after}
use Rattle.edits.specs.EditableMap.{EditableMap}
use Rattle.writer.specs.declared.TheConstants.{MOST_LINES}
use Rattle.writer.specs.Parts.{Ordered}
use Rattle.writer.specs.Listed.{zone_drawn}

-- the owned pieces of zone z in disc bits, of its block and of a map
abbrev pub owned_in_zone : Geometry → ℕ → List ℕ → List Piece
owned_in_zone g z block = map (piece_to_disc g z) (owned_of (entries_in g z block))

abbrev pub zone_pieces : Geometry → List ℕ → ℕ → List Piece
zone_pieces g m z = owned_in_zone g z (zone_block g m z)

-- the pieces that come: none where the id is 0
abbrev pub coming : ℕ → List Pair → List Piece
coming id qs = cond (eqb id 0) [] (map (own id) qs)

-- pieces without those of `gone`, and with those that come
abbrev pub pieces_after : ℕ → ℕ → List Pair → List Piece → List Piece
pieces_after gone id qs l = put (coming id qs) (without gone l)

-- a zone that can be read, and a list of its pairs; there is room for all its pieces and the pairs
pub record PartAsks (m : List ℕ) (g : Geometry) (z : ℕ) (list : List ℕ) (id room : ℕ) : Type 0 where
  pub reads : ReadableFrom m g z
  pub zone : z < g.zones
  pub ascending : Ascending 0 (map (own id) (pairs_from list))
  pub fits : MOST_LINES + length list / 2 ≤ room

-- and what there is after the edit can be drawn
pub record ZoneEdit (m : List ℕ) (g : Geometry) (z gone : ℕ) (list : List ℕ) (id room : ℕ) : Type 0 where
  pub part : PartAsks m g z list id room
  pub drawable : Drawable g.idlen (first_bit z) (end_bit g) (map (to_block g z) (pieces_after gone id (pairs_from list) (zone_pieces g m z)))

-- a zone's block after the edit; without pairs it stays
abbrev pub zone_after : Geometry → ℕ → ℕ → List ℕ → ℕ → ℕ → List ℕ → List ℕ
zone_after g z gone list id change block =
    cond (ltb 0 (length list))
    (zone_drawn g z (pieces_after gone id (pairs_from list) (owned_in_zone g z block)) change block)
    block

-- the map with the block b in zone z, and with zone z edited
abbrev pub zone_put : Geometry → ℕ → List ℕ → List ℕ → List ℕ
zone_put g z m b =
    let from : ℕ = z * g.sector in
    let size : ℕ = z * g.sector + g.sector - z * g.sector in
    take from m ++ (b ++ drop size (drop from m))

abbrev pub zone_edited : Geometry → ℕ → ℕ → List ℕ → ℕ → ℕ → List ℕ → List ℕ
zone_edited g z gone list id change m = zone_put g z m (zone_after g z gone list id change (zone_block g m z))

-- the whole edit: `gone` loses these pairs, or `id` is given them
abbrev pub edit_of : ℕ → List Pair → ℕ → Edit
edit_of gone qs id = cond (eqb id 0) (takes gone qs) (gives id qs)

-- an edit of a call that is accepted, with its pairs in object order
pub record EditAsks (m : List ℕ) (g : Geometry) (gone : ℕ) (list : List ℕ) (id : ℕ) : Type 0 where
  pub editable : EditableMap m g
  -- where pieces come none go
  pub one_way : (id ≡ 0 → ⊥) → gone ≡ 0
  pub ordered : Ordered g list
  pub call : Call
  pub judged : judge g none (pieces_on g m) call ≡ answered (edit_of gone (pairs_from list) id)

-- the bytes after it
abbrev pub edited_map : List ℕ → Edit → List ℕ
edited_map m e = bytes_after m (answered e)
