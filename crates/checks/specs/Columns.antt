-- The zone check by four byte columns (document 000's C function): a sum for each byte of a word, each column's
-- carry added to the next, the last one's to the first of the next word. Assumes nothing.
use Rattle.std.specs.Prelude.{ℕ, ◌+◌, ◌/◌, ◌%◌, List, [], ◌∷◌, drop}
use Rattle.checks.specs.declared.Columns.{Columns}
use Rattle.checks.specs.Words.{xor4}

abbrev pub no_sums : Columns
no_sums = record { v0 = 0; v1 = 0; v2 = 0; v3 = 0 }

-- a word's four bytes added, in document 000's order: it takes the carry off a column once the next has it
abbrev pub added : Columns → ℕ → ℕ → ℕ → ℕ → Columns
added k a b c d =
    let s0 : ℕ = k.v0 + (a + k.v3 / 256) in
    let s1 : ℕ = k.v1 + (b + s0 / 256) in
    let s2 : ℕ = k.v2 + (c + s1 / 256) in
    let s3 : ℕ = k.v3 % 256 + (d + s2 / 256) in
    record { v0 = s0 % 256; v1 = s1 % 256; v2 = s2 % 256; v3 = s3 }

-- from the last word down to word 0
unfoldable pub columns : List ℕ → Columns
columns [] = no_sums
columns (a ∷ []) = no_sums
columns (a ∷ b ∷ []) = no_sums
columns (a ∷ b ∷ c ∷ []) = no_sums
columns (a ∷ b ∷ c ∷ d ∷ s) = added (columns s) a b c d

abbrev pub fold_columns : Columns → ℕ
fold_columns k = xor4 k.v0 k.v1 k.v2 k.v3 % 256

-- the check byte is not added
unfoldable pub column_check : List ℕ → ℕ
column_check block = fold_columns (columns (0 ∷ drop 1 block))
