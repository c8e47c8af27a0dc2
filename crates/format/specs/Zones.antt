-- The zones of a blank disc's map, drawn one by one. Assumes nothing.
use Rattle.std.specs.Prelude.{◌≡◌, true, cond, List, map, ℕ, ◌<◌, eqb, length}
use Rattle.geometry.specs.declared.DiscRecord.{DiscRecord}
use Rattle.geometry.specs.declared.Geometry.{Geometry}
use Rattle.geometry.specs.Record.{geometry_from}
use Rattle.geometry.specs.Accepted.{AcceptedGeometry}
use Rattle.geometry.specs.Places.{first_bit, end_bit}
use Rattle.model.specs.Blocks.{flat}
use Rattle.model.specs.Chain.{Pair}
use Rattle.model.specs.Check.{blocks_of}
use Rattle.model.specs.Drawing.{Drawable}
use Rattle.model.specs.Rules.{zone_block}
use Rattle.edits.specs.Edits.{in_zone}
use Rattle.edits.specs.Written.{to_block, rewritten}
use Rattle.writer.specs.declared.Piece as code
use Rattle.writer.specs.Edited.{zone_put}
use Rattle.writer.specs.Listed.{zone_drawn}
use Rattle.formatted.specs.Blank.{blank_for, disc_fits, blank_map}
use Rattle.formatted.specs.Drawn.{map_length, both_fit, object_two, object_one, blank_pieces, blank_disc}

-- the two pieces as the code has them
abbrev pub piece_of : ℕ → Pair → code.Piece
piece_of id q = record { owner = id; start = record { 0 = q.start }; len = q.len }

abbrev pub two_of : Geometry → code.Piece
two_of g = piece_of 2 (object_two g)

abbrev pub one_of : Geometry → code.Piece
one_of g = piece_of 1 (object_one g)

-- zone z's cross check
abbrev pub cross_at : ℕ → ℕ
cross_at z = cond (eqb z 0) 255 0

-- the record and the geometry of a disc that can be formatted
pub record Blank (r : DiscRecord) (g : Geometry) : Type 0 where
  pub logsector : ℕ
  pub capacity : ℕ
  pub idlen : ℕ
  pub fields : r ≡ blank_for logsector capacity idlen
  pub geometry : g ≡ geometry_from r
  pub fits : disc_fits logsector capacity idlen ≡ true
  pub both : both_fit g ≡ true

-- a map whose blocks are blank but for the record, of a disc that can be formatted
pub record BlankOn (m : List ℕ) (g : Geometry) : Type 0 where
  pub disc : DiscRecord
  pub blank : Blank disc g
  pub bytes : m ≡ blank_map disc (map_length g)

-- a map whose zone z can be drawn
pub record ZoneBlank (m : List ℕ) (g : Geometry) (z : ℕ) : Type 0 where
  pub numbers : AcceptedGeometry g
  pub zone : z < g.zones
  pub sized : length m ≡ map_length g
  pub drawable : Drawable g.idlen (first_bit z) (end_bit g) (map (to_block g z) (in_zone g z (blank_pieces g)))

-- the map with zone z drawn, and with all
abbrev pub zone_formatted : Geometry → ℕ → List ℕ → List ℕ
zone_formatted g z m = zone_put g z m (zone_drawn g z (in_zone g z (blank_pieces g)) (cross_at z) (zone_block g m z))

abbrev pub zones_formatted : Geometry → List ℕ → List ℕ
zones_formatted g m = flat (rewritten g (blocks_of g m) (blank_disc g))
