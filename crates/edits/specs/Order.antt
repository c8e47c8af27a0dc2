-- Pieces in order: by disc bit on the map, and in object order in a list (document 01, "Object order"). Assumes nothing.
use Rattle.std.specs.Prelude.{Bool, cond, List, [], ◌∷◌, ℕ, suc, ◌+◌, ◌≤◌}
use Rattle.model.specs.Pieces.{Piece}

-- every piece starts at or after `from`, and the starts ascend
abbrev pub Ascending : ℕ → List Piece → Type 0
Ascending from [] = Unit {0}
Ascending from (p ∷ ps) = (from ≤ p.at.start) × Ascending (suc p.at.start) ps

-- a piece's place in object order: from the start zone on its disc bit; before it, counted on round the end of the disc's n
-- bits
abbrev pub rank : (Piece → Bool) → ℕ → Piece → ℕ
rank late n p = cond (late p) p.at.start (n + p.at.start)
