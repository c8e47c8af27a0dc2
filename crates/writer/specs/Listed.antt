-- The pieces of a zone as the code lists them. How listed pairs are merged into them, and what can be drawn. Assumes nothing.
use Rattle.std.specs.Prelude.{◌≡◌, Bool, List, map, ℕ, ◌-◌, ◌/◌, ◌<◌, length, take}
use Rattle.std.specs.Int.Bits.{bit_xor}
use Rattle.checks.specs.Cross.{cross_of}
use Rattle.geometry.specs.declared.Geometry.{Geometry}
use Rattle.geometry.specs.declared.BlockBit.{BlockBit}
use Rattle.geometry.specs.Accepted.{AcceptedGeometry}
use Rattle.geometry.specs.Places.{first_bit, end_bit}
use Rattle.model.specs.Chain.{Pair, pair}
use Rattle.model.specs.Pieces.{Piece}
use Rattle.model.specs.Drawing.{Drawable}
use Rattle.edits.specs.Order.{Ascending}
use Rattle.edits.specs.Edits.{put, own}
use Rattle.edits.specs.Judge.{pairs_from}
use Rattle.edits.specs.Written.{to_block, zone_written}
use Rattle.writer.specs.declared.Pair as listed
use Rattle.writer.specs.declared.Piece as code
use Rattle.writer.specs.Redraw.{Redrawn}

abbrev pub piece : ℕ → ℕ → ℕ → Piece
piece at len id = record { at = record { start = at; len = len }; owner = id }

-- the code's pairs and pieces as pairs and pieces
abbrev pub as_pair : listed.Pair → Pair
as_pair q = pair q.start.0 q.len

abbrev pub as_piece : code.Piece → Piece
as_piece x = piece x.start.0 x.len x.owner

abbrev pub as_pieces : List code.Piece → List Piece
as_pieces l = map as_piece l

-- the pairs of the list and the pieces of `old` before the room for them, where both ascend, make up together what `new` has
abbrev pub Merged : ℕ → List ℕ → List code.Piece → List code.Piece → Type 0
Merged id list old new =
    let come = map (own id) (pairs_from list) in
    let there = as_pieces (take (length old - length list / 2) old) in
    Ascending 0 come → Ascending 0 there → as_pieces new ≡ put come there

-- pieces that can be drawn in zone z
pub record ZoneDrawing (g : Geometry) (z : ℕ) (block : List ℕ) (pieces : List code.Piece) : Type 0 where
  pub numbers : AcceptedGeometry g
  pub zone : z < g.zones
  pub sized : length block ≡ g.sector
  pub drawable : Drawable g.idlen (first_bit z) (end_bit g) (map (to_block g z) (as_pieces pieces))

-- the bits of zone z have become `new` by drawing these pieces, and `first` is where the first gap starts
abbrev pub ZoneRedrawn : Geometry → ℕ → List Piece → List Bool → List Bool → BlockBit → Type 0
ZoneRedrawn g z ps old new first = Redrawn g.idlen (first_bit z) (end_bit g) (map (to_block g z) ps) old new first.0

-- the block of zone z drawn with these pieces, and its cross check changed
abbrev pub zone_drawn : Geometry → ℕ → List Piece → ℕ → List ℕ → List ℕ
zone_drawn g z ps change block = zone_written g z ps (bit_xor (cross_of block) change) block
