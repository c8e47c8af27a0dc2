-- The calls that edit, on the bytes of a map (document 01, "The calls", "Numbered refusals"): each checks the map as it finds
-- it, is refused with a number and a zone or makes its edit, and leaves these bytes. Assumes nothing.
use Rattle.std.specs.Prelude.{List, [], ◌∷◌, map, ℕ}
use Rattle.checks.specs.Cross.{cross_of}
use Rattle.geometry.specs.declared.Geometry.{Geometry}
use Rattle.geometry.specs.Record.{geometry_of}
use Rattle.model.specs.Chain.{Pair, Entry, touching}
use Rattle.model.specs.Blocks.{flat}
use Rattle.model.specs.Answer.{Answer, refused, answered, and_then}
use Rattle.model.specs.Check.{map_read, blocks_of}
use Rattle.model.specs.Shown.{zones_of}
use Rattle.model.specs.Pieces.{pieces_of_zones}
use Rattle.edits.specs.Edits.{Disc, Edit, pairs_in, edit}
use Rattle.edits.specs.Judge.{Call, judge}
use Rattle.edits.specs.Written.{rewritten}

-- the pieces and cross checks of a map that was read
abbrev pub disc_of : List ℕ → List (List Entry) → Disc
disc_of m ess = record { pieces = pieces_of_zones (geometry_of m) 0 ess; cross = map cross_of (blocks_of (geometry_of m) m) }

-- 1 to 7, then 8, then 9, then the rest in table order
abbrev pub by_read : Geometry → Call → List (List Entry) → Answer Edit
by_read g c ess = judge g (touching 0 ess) (pieces_of_zones g 0 ess) c

abbrev pub outcome : List ℕ → Call → Answer Edit
outcome m c = and_then (map_read m) (by_read (geometry_of m) c)

-- the pairs that an accepted call answers
abbrev pub pairs_told : Answer Edit → Answer (List Pair)
pairs_told r = and_then r (λ (e : Edit). answered (pairs_in e))

-- the bytes after it
abbrev pub bytes_after : List ℕ → Answer Edit → List ℕ
bytes_after m (refused n z) = m
bytes_after m (answered e) = flat (rewritten (geometry_of m) (blocks_of (geometry_of m) m) (edit (geometry_of m) e (disc_of m (zones_of m))))

abbrev pub step : List ℕ → Call → List ℕ
step m c = bytes_after m (outcome m c)

abbrev pub steps : List ℕ → List Call → List ℕ
steps m [] = m
steps m (c ∷ cs) = steps (step m c) cs
