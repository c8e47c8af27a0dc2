-- The program's text (document 01, "What the station handles"), as bytes: "one line per fragment, ascending: owner or `free`,
-- disc bit, length. A refusal prints `refused`, number, zone." Assumes nothing.
use Rattle.std.specs.Prelude.{Bool, cond, List, [], ◌∷◌, ◌++◌, map, ℕ, suc, eqb, ltb, length, codes, Result, Err}
use Rattle.std.specs.List.{flat_map}
use Rattle.geometry.specs.declared.Geometry.{Geometry}
use Rattle.geometry.specs.declared.Refusal.{Refusal}
use Rattle.geometry.specs.Record.{geometry_of}
use Rattle.geometry.specs.Answers.{number, refusal}
use Rattle.model.specs.Chain.{Entry}
use Rattle.model.specs.Answer.{Answer, refused, answered}
use Rattle.model.specs.Check.{map_read}
use Rattle.map.specs.Checked.{checked}
use Rattle.walk.specs.declared.Line.{Line}
use Rattle.walk.specs.Remaining.{line_of}
use Rattle.map_text.specs.Decimal.{decimal}

-- two numbers, a space before each, and the line's end
unfoldable pub pair_text : ℕ → ℕ → List ℕ
pair_text a b = codes " " ++ (decimal a ++ (codes " " ++ (decimal b ++ codes "\n")))

-- a line's holder is 0 where the fragment is free
unfoldable pub owner_text : ℕ → List ℕ
owner_text h = cond (eqb h 0) (codes "free") (decimal h)

unfoldable pub line_text : Line → List ℕ
line_text l = owner_text l.holder ++ pair_text l.start.0 l.len

unfoldable pub refusal_text : Refusal → List ℕ
refusal_text r = codes "refused" ++ pair_text (number r.reason) r.zone

abbrev pub lines_text : List Line → List ℕ
lines_text ls = flat_map line_text ls

-- the lines of zones that were read, from zone z on: ascending, zone after zone
abbrev pub lines_of_zones : Geometry → ℕ → List (List Entry) → List Line
lines_of_zones g z [] = []
lines_of_zones g z (es ∷ ess) = map (line_of g z) es ++ lines_of_zones g (suc z) ess

-- the text of a map: by how it reads
abbrev pub read_text : Geometry → Answer (List (List Entry)) → List ℕ
read_text g (refused n z) = refusal_text (refusal n z)
read_text g (answered ess) = lines_text (lines_of_zones g 0 ess)

abbrev pub map_text : List ℕ → List ℕ
map_text m = read_text (geometry_of m) (map_read m)

-- "reads a map of up to 65,536 bytes from standard input (a longer one is treated as refusal 1)"
abbrev pub too_long : List ℕ → Bool
too_long m = ltb 65536 (length m)

abbrev pub program_text : List ℕ → List ℕ
program_text m = cond (too_long m) (refusal_text (refusal 1 0)) (map_text m)

abbrev pub input_checked : List ℕ → Result Geometry Refusal
input_checked m = cond (too_long m) (Err (refusal 1 0)) (checked m)
