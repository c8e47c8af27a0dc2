-- The holes between the pieces of each zone (document 01, "Claim", refusal 13). Assumes nothing.
use Rattle.std.specs.Prelude.{Bool, true, cond, ◌&&◌, ◌||◌, List, [], ◌∷◌, ◌++◌, ℕ, zero, suc, ◌+◌, ◌-◌, eqb, ltb, leb}
use Rattle.geometry.specs.declared.Geometry.{Geometry}
use Rattle.geometry.specs.Places.{zone_from, zone_end}
use Rattle.model.specs.Chain.{Pair}
use Rattle.model.specs.Pieces.{Piece}
use Rattle.edits.specs.Edits.{in_zone}

-- from bit `at` to `end`, between ascending pieces
abbrev pub hole : ℕ → ℕ → List Pair → List Pair
hole at end rest = cond (ltb at end) (record { start = at; len = end - at } ∷ rest) rest

abbrev pub holes : ℕ → ℕ → List Piece → List Pair
holes at end [] = hole at end []
holes at end (p ∷ ps) = hole at p.at.start (holes (p.at.start + p.at.len) end ps)

-- of a zone, and of zones in some order
abbrev pub holes_in : Geometry → List Piece → ℕ → List Pair
holes_in g l z = holes (zone_from g z) (zone_end g z) (in_zone g z l)

abbrev pub holes_of : Geometry → List Piece → List ℕ → List Pair
holes_of g l [] = []
holes_of g l (z ∷ zs) = holes_in g l z ++ holes_of g l zs

-- of n zones from z on
abbrev pub upward : ℕ → ℕ → List ℕ
upward z zero = []
upward z (suc n) = z ∷ upward (suc z) n

abbrev pub holes_from : Geometry → ℕ → ℕ → List Piece → List Pair
holes_from g z n l = holes_of g l (upward z n)

-- The pieces do not overlap, lie between `at` and `end`, and leave no hole of 1 to m - 1 bits: what refusal 13 asks of the
-- pieces after a place. The contract of `runs::edit_table` shows that to be document 01's words.
abbrev pub gap_fits : ℕ → ℕ → ℕ → Bool
gap_fits m at end = eqb at end || leb (at + m) end

abbrev pub apart : ℕ → ℕ → ℕ → List Piece → Bool
apart m at end [] = gap_fits m at end
apart m at end (p ∷ ps) = gap_fits m at p.at.start && apart m (p.at.start + p.at.len) end ps

abbrev pub all_apart : Geometry → ℕ → ℕ → List Piece → Bool
all_apart g z zero l = true
all_apart g z (suc n) l = apart g.shortest (zone_from g z) (zone_end g z) (in_zone g z l) && all_apart g (suc z) n l
