-- The fragments of one holder, by its number: an object's id, or 0 for free space, which no object has on an accepted map. As
-- pairs in disc bits: of lines, of a zone, and of several zones. Assumes nothing.
use Rattle.std.specs.Prelude.{Bool, cond, List, [], ◌∷◌, ◌++◌, map, ℕ, zero, suc, ◌-◌, eqb}
use Rattle.geometry.specs.declared.Geometry.{Geometry}
use Rattle.model.specs.Chain.{Pair, Entry}
use Rattle.model.specs.Rules.{zone_block}
use Rattle.model.specs.Pieces.{to_disc}
use Rattle.zone.specs.Lines.{entries_in, holder_number}
use Rattle.walk.specs.declared.Line.{Line}

-- a pair if it is wanted, and a line's if the line is the holder's
abbrev pub pair_if : Bool → ℕ → ℕ → List Pair
pair_if b d n = cond b (record { start = d; len = n } ∷ []) []

abbrev pub line_pair : ℕ → Line → List Pair
line_pair h l = pair_if (eqb l.holder h) l.start.0 l.len

-- of lines
abbrev pub held_lines : ℕ → List Line → List Pair
held_lines h [] = []
held_lines h (l ∷ ls) = cond (eqb l.holder h) (record { start = l.start.0; len = l.len } ∷ held_lines h ls) (held_lines h ls)

-- of entries in block bits
abbrev pub held_by : ℕ → List Entry → List Pair
held_by h [] = []
held_by h (e ∷ es) = cond (eqb (holder_number e.holder) h) (e.at ∷ held_by h es) (held_by h es)

-- of zone z of a map, in disc bits
abbrev pub in_disc_bits : Geometry → ℕ → List Pair → List Pair
in_disc_bits g z qs = map (to_disc g z) qs

abbrev pub held_in : Geometry → ℕ → List ℕ → ℕ → List Pair
held_in g h m z = in_disc_bits g z (held_by h (entries_in g z (zone_block g m z)))

-- of n zones from z on, of the zones from one up to another, and of all zones in the object order of a start zone
abbrev pub held_from : Geometry → ℕ → List ℕ → ℕ → ℕ → List Pair
held_from g h m z zero = []
held_from g h m z (suc n) = held_in g h m z ++ held_from g h m (suc z) n

abbrev pub held_between : Geometry → ℕ → List ℕ → ℕ → ℕ → List Pair
held_between g h m from to = held_from g h m from (to - from)

abbrev pub held_in_order : Geometry → ℕ → List ℕ → ℕ → List Pair
held_in_order g h m start = held_between g h m start g.zones ++ held_from g h m 0 start
