-- The zones of a map that is mended, one by one. Assumes nothing.
use Rattle.std.specs.Prelude.{cond, List, map, ℕ, ◌<◌, ◌≤◌, eqb}
use Rattle.geometry.specs.declared.Geometry.{Geometry}
use Rattle.geometry.specs.Places.{first_bit, end_bit}
use Rattle.model.specs.Drawing.{Drawable}
use Rattle.model.specs.Pieces.{Piece}
use Rattle.model.specs.Rules.{zone_block}
use Rattle.map.specs.Accepted.{ReadableFrom}
use Rattle.edits.specs.Edits.{without}
use Rattle.edits.specs.Written.{to_block}
use Rattle.writer.specs.Listed.{zone_drawn}
use Rattle.writer.specs.Edited.{zone_pieces}

-- what zone z's cross check changes by: only zone 0's does
abbrev pub change_of : ℕ → ℕ → ℕ
change_of z lack = cond (eqb z 0) lack 0

-- all pieces of zone z: none is one of object 0
abbrev pub own_pieces : Geometry → List ℕ → ℕ → List Piece
own_pieces g m z = without 0 (zone_pieces g m z)

-- a zone that can be read, and its pieces drawn; `room` is that for its pieces
pub record ZoneMend (m : List ℕ) (g : Geometry) (z room : ℕ) : Type 0 where
  pub reads : ReadableFrom m g z
  pub zone : z < g.zones
  pub fits : 682 ≤ room
  pub drawable : Drawable g.idlen (first_bit z) (end_bit g) (map (to_block g z) (own_pieces g m z))

-- zone z's block mended, where its cross check changes by so much
abbrev pub block_mended : Geometry → List ℕ → ℕ → ℕ → List ℕ
block_mended g m z change = zone_drawn g z (own_pieces g m z) change (zone_block g m z)
