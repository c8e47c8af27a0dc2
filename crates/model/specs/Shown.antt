-- What a map that was read shows: the entries of its zones, its pieces, and an object's pairs and the free spans as the calls list
-- them (document 01, "The calls"). Assumes nothing.
use Rattle.std.specs.Prelude.{List, [], ℕ}
use Rattle.geometry.specs.declared.Geometry.{Geometry}
use Rattle.geometry.specs.Record.{geometry_of}
use Rattle.model.specs.Answer.{Answer, refused, answered}
use Rattle.model.specs.Chain.{Pair, Entry}
use Rattle.model.specs.Check.{map_read}
use Rattle.model.specs.Pieces.{Piece, pieces_of_zones, object_pairs, free_spans}

-- the entries of a map's zones; none where it is refused
abbrev pub zones_in : Answer (List (List Entry)) → List (List Entry)
zones_in (refused n z) = []
zones_in (answered ess) = ess

abbrev pub zones_of : List ℕ → List (List Entry)
zones_of m = zones_in (map_read m)

-- the pieces of a map with geometry g, ascending by disc bit
abbrev pub pieces_on : Geometry → List ℕ → List Piece
pieces_on g m = pieces_of_zones g 0 (zones_of m)

-- an object's pieces as pairs, as the call `list` shows them; "it is there if it has any"
abbrev pub object_on : Geometry → List ℕ → ℕ → List Pair
object_on g m id = object_pairs g id (pieces_on g m)

abbrev pub listed_on : List ℕ → ℕ → List Pair
listed_on m id = object_on (geometry_of m) m id

-- the free spans, as the call `free` shows them: zones from 0, ascending
abbrev pub spans_on : List ℕ → List Pair
spans_on m = free_spans (geometry_of m) 0 (zones_of m)
