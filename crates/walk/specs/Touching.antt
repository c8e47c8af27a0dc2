-- Refusal 9: two free fragments of a zone touch. Assumes nothing.
use Rattle.std.specs.Prelude.{Option, Some, None, Bool, cond, ◌&&◌, List, [], ◌∷◌, ℕ, eqb}
use Rattle.std.proofs.Math.Option.{none, some}
use Rattle.std.proofs.Math.Option as math
use Rattle.walk.specs.declared.Line.{Line}

-- the zone, as the code answers it
abbrev pub touching_of : math.Option ℕ → Option ℕ
touching_of none = None
touching_of (some z) = Some z

-- of lines: the first zone in which two free ones follow each other, and the zone of the one before and whether it was free
abbrev pub touching_lines : ℕ → Bool → List Line → math.Option ℕ
touching_lines z was_free [] = none
touching_lines z was_free (l ∷ ls) = cond ((was_free && eqb l.holder 0) && eqb l.zone z) (some l.zone) (touching_lines l.zone (eqb l.holder 0) ls)
