-- The map that is drawn on a blank disc, and the answers of the two calls (document 02, R-13): pieces of object 2 and of object 1, drawn on a map
-- that has the record and else only 0. Assumes nothing.
use Rattle.std.specs.Prelude.{Bool, cond, ◌&&◌, List, [], ◌∷◌, ℕ, ◌+◌, ◌-◌, ◌*◌, ◌/◌, min, max, eqb, ltb, leb, replicate}
use Rattle.geometry.specs.declared.DiscRecord.{DiscRecord}
use Rattle.geometry.specs.declared.Geometry.{Geometry}
use Rattle.geometry.specs.Record.{geometry_from}
use Rattle.geometry.specs.Places.{zone_from, zone_end, disc_bits}
use Rattle.model.specs.Answer.{Answer, refused, answered, unless, and_then}
use Rattle.model.specs.Blocks.{flat}
use Rattle.model.specs.Chain.{Pair, pair}
use Rattle.model.specs.Check.{blocks_of}
use Rattle.model.specs.Pieces.{Piece}
use Rattle.split.specs.Taken.{cut_bits}
use Rattle.edits.specs.Edits.{Disc, own}
use Rattle.edits.specs.Judge.{need}
use Rattle.edits.specs.Written.{rewritten}
use Rattle.formatted.specs.Blank.{blank_for, disc_fits, blank_map}

abbrev pub map_length : Geometry → ℕ
map_length g = g.zones * g.sector

-- "the map's overhang, if any, in object 1 (reaching back to m bits if shorter)": where it starts. It is there if that is before the map's end.
abbrev pub overhang_from : Geometry → ℕ
overhang_from g = cond (ltb g.end.0 (disc_bits g)) (min g.end.0 (disc_bits g - g.shortest)) (disc_bits g)

-- "object 2 at the middle zone": where it starts, and how many bits it may have, up to the zone's end or the overhang
abbrev pub middle_bit : Geometry → ℕ
middle_bit g = zone_from g (g.zones / 2)

abbrev pub middle_room : Geometry → ℕ
middle_room g = min (zone_end g (g.zones / 2)) (overhang_from g) - middle_bit g

-- "as short as m, k and two map copies allow": what a claim of their bytes would need
abbrev pub copies_need : Geometry → ℕ
copies_need g = need g (2 * map_length g)

-- "If object 2 and the overhang can't both be drawn, refuse with 2."
abbrev pub both_fit : Geometry → Bool
both_fit g = leb (copies_need g) (middle_room g)

-- "A stretch shorter than m goes to object 2 if it directly follows object 2": as a claim takes a hole
abbrev pub object_two : Geometry → Pair
object_two g = pair (middle_bit g) (cut_bits g.shortest (copies_need g) (middle_room g))

-- ", else to the overhang it precedes": in the last zone, after object 2 if that is there too
abbrev pub last_from : Geometry → ℕ
last_from g = max (zone_from g (g.zones - 1)) ((object_two g).start + (object_two g).len)

-- where there is no overhang it is the map's end, as neither object 2 nor a whole zone leaves a shorter stretch there
abbrev pub object_one_from : Geometry → ℕ
object_one_from g = cond (ltb (overhang_from g - last_from g) g.shortest) (last_from g) (overhang_from g)

abbrev pub object_one : Geometry → Pair
object_one g = pair (object_one_from g) (disc_bits g - object_one_from g)

-- all owned pieces, ascending; "each other stretch one free fragment", as all that is drawn
abbrev pub if_any : Piece → List Piece
if_any p = cond (ltb 0 p.at.len) (p ∷ []) []

abbrev pub blank_pieces : Geometry → List Piece
blank_pieces g = own 2 (object_two g) ∷ if_any (own 1 (object_one g))

-- "cross checks 255 in zone 0 and 0 elsewhere"
abbrev pub blank_cross : ℕ → List ℕ
blank_cross zones = 255 ∷ replicate (zones - 1) 0

abbrev pub blank_disc : Geometry → Disc
blank_disc g = record { pieces = blank_pieces g; cross = blank_cross g.zones }

-- "zone checks and links by document 01, and bytes not named here 0"
abbrev pub drawn_map : DiscRecord → List ℕ
drawn_map r = let g : Geometry = geometry_from r in flat (rewritten g (blocks_of g (blank_map r (map_length g))) (blank_disc g))

-- the disc that is formatted, or 2
abbrev pub blank_found : ℕ → ℕ → ℕ → Answer DiscRecord
blank_found logsector capacity idlen =
    let r = blank_for logsector capacity idlen in
    unless (disc_fits logsector capacity idlen && both_fit (geometry_from r)) 2 (answered r)

-- "A map buffer of the wrong length is refused with 1, after every 2": what is drawn in a buffer of n bytes
abbrev pub drawn_for : ℕ → DiscRecord → Answer (List ℕ)
drawn_for n r = unless (eqb n (map_length (geometry_from r))) 1 (answered (drawn_map r))

abbrev pub format_found : ℕ → ℕ → ℕ → ℕ → Answer (List ℕ)
format_found logsector capacity idlen n = and_then (blank_found logsector capacity idlen) (drawn_for n)

-- "the lent map buffer is untouched by a refusal"
abbrev pub buffer_after : List ℕ → Answer (List ℕ) → List ℕ
buffer_after old (refused n z) = old
buffer_after old (answered bytes) = bytes

-- the length of the map that will be wanted
abbrev pub length_found : ℕ → ℕ → ℕ → Answer ℕ
length_found logsector capacity idlen = and_then (blank_found logsector capacity idlen) (λ (r : DiscRecord). answered (map_length (geometry_from r)))
