-- Cross checks (document 01, "Zone check and cross check"): byte 3 of every block, and what an edit does to them.
-- Assumes nothing.
use Rattle.std.specs.Prelude.{Bool, true, false, cond, List, [], ◌∷◌, ℕ, suc, ◌%◌, eqb, ltb, leb, get_or}
use Rattle.std.specs.Int.Bits.{bit_xor}

-- "byte 3 its cross check"
abbrev pub cross_of : List ℕ → ℕ
cross_of block = get_or block 3 0

-- "all cross check bytes together exclusive-or to 255"
abbrev pub xor_sum : List ℕ → ℕ
xor_sum [] = 0
xor_sum (c ∷ cs) = bit_xor c (xor_sum cs)

-- what the i-th of n touched zones is exclusive-ored with, counted from 0: "an edit touching one zone leaves them
-- alone"; "1 when their number is even; when odd, the first three with 1, 2, 3 and the rest with 1"
abbrev pub amount : ℕ → ℕ → ℕ
amount n i = cond (leb n 1) 0 (cond (eqb (n % 2) 0) 1 (cond (ltb i 3) (suc i) 1))

-- zones in ascending order, true where the edit touches one: how many, and what each is exclusive-ored with
abbrev pub touched_count : List Bool → ℕ
touched_count [] = 0
touched_count (true ∷ zs) = suc (touched_count zs)
touched_count (false ∷ zs) = touched_count zs

abbrev pub changes_from : ℕ → ℕ → List Bool → List ℕ
changes_from n i [] = []
changes_from n i (true ∷ zs) = amount n i ∷ changes_from n (suc i) zs
changes_from n i (false ∷ zs) = 0 ∷ changes_from n i zs

abbrev pub changes : List Bool → List ℕ
changes zs = changes_from (touched_count zs) 0 zs

-- each cross check with its change
abbrev pub xor_each : List ℕ → List ℕ → List ℕ
xor_each [] vs = []
xor_each (c ∷ cs) [] = c ∷ cs
xor_each (c ∷ cs) (v ∷ vs) = bit_xor c v ∷ xor_each cs vs
