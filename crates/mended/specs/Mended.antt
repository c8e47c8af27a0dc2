-- What the mender makes of a map, and which bytes that changes (document 02, R-9). Assumes nothing.
use Rattle.std.specs.Prelude.{cond, List, [], ◌∷◌, map, ℕ, suc, eqb, leb, length}
use Rattle.std.specs.Int.Bits.{bit_xor}
use Rattle.checks.specs.Cross.{cross_of, xor_sum}
use Rattle.geometry.specs.Record.{geometry_of}
use Rattle.model.specs.Answer.{Answer, refused, answered, unless, and_then}
use Rattle.model.specs.Blocks.{flat}
use Rattle.model.specs.Chain.{Entry}
use Rattle.model.specs.Check.{blocks_of, mend_read}
use Rattle.model.specs.Pieces.{pieces_of_zones}
use Rattle.edits.specs.Edits.{Disc}
use Rattle.edits.specs.Written.{rewritten}

-- "sets only zone 0's cross check, so that all give 255": it changes by what they lack
abbrev pub lacking : List ℕ → ℕ
lacking cs = bit_xor (xor_sum cs) 255

abbrev pub cross_mended : List ℕ → List ℕ
cross_mended [] = []
cross_mended (c ∷ cs) = bit_xor c (lacking (c ∷ cs)) ∷ cs

-- the owned pieces as they are read, and those cross checks
abbrev pub disc_mended : List ℕ → List (List Entry) → Disc
disc_mended m ess = record { pieces = pieces_of_zones (geometry_of m) 0 ess; cross = cross_mended (map cross_of (blocks_of (geometry_of m) m)) }

-- "joins touching free fragments in each zone, .. and sets every zone check": each zone is written anew from its owned pieces, and all
-- that lies between two of them is one free fragment. "else it answers the refusal .. and writes nothing"
abbrev pub mended_by : List ℕ → Answer (List (List Entry)) → List ℕ
mended_by m (refused n z) = m
mended_by m (answered ess) = flat (rewritten (geometry_of m) (blocks_of (geometry_of m) m) (disc_mended m ess))

abbrev pub mended : List ℕ → List ℕ
mended m = mended_by m (mend_read m)

-- the positions from i on at which two lists differ, ascending
abbrev pub differ_from : ℕ → List ℕ → List ℕ → List ℕ
differ_from i [] ys = []
differ_from i (x ∷ xs) [] = []
differ_from i (x ∷ xs) (y ∷ ys) = cond (eqb x y) (differ_from (suc i) xs ys) (i ∷ differ_from (suc i) xs ys)

-- "lists, ascending, one 32-bit number each, exactly the byte positions the mender would change"
abbrev pub changed_at : List ℕ → List ℕ
changed_at m = differ_from 0 m (mended m)

-- ", with the mender's refusals, then 17 if the list is too short."
abbrev pub positions_found : List ℕ → ℕ → Answer (List ℕ)
positions_found m room = and_then (mend_read m) (λ (ess : List (List Entry)). unless (leb (length (changed_at m)) room) 17 (answered (changed_at m)))
