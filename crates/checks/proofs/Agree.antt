-- The two zone checks agree on every list: the four columns, read as one word, are the total of the words.
use mathlib.Core.Path.{◌≡◌, refl, sym, ap, ap₂, ◌∙◌}
use mathlib.Core.List.{List, [], ◌∷◌}
use Prim.Native.Nat.{ℕ, ◌+◌, ◌/◌, ◌%◌, ◌<◌}
use native.Mathlib.Omega.{arith}
use lib.ListN.{drop}
use lib.Bits.{bit_xor, xor_mod}
use Rattle.checks.specs.declared.Columns.{Columns}
use Rattle.checks.specs.Words.{word, words_of, total, add_carry, xor4, fold_bytes, zone_check}
use Rattle.checks.specs.Columns.{added, columns, fold_columns, column_check}
use Rattle.checks.proofs.Sums.{CarryTaken, columns_taken}

abbrev word_of : Columns → ℕ
word_of k = word k.v0 k.v1 k.v2 k.v3

-- the word's 32 bits and the carry above them
split_carry : (v0 v1 v2 v3 : ℕ) → v0 < 256 → v1 < 256 → v2 < 256
    → (word v0 v1 v2 v3 % 4294967296 ≡ word v0 v1 v2 (v3 % 256)) × (word v0 v1 v2 v3 / 4294967296 ≡ v3 / 256)
split_carry v0 v1 v2 v3 h0 h1 h2 = (omega arith, omega arith)

-- each column's carry in the next
join_columns : (s0 s1 s2 s3 v0 v1 v2 v3 a b c d e : ℕ)
    → s0 ≡ v0 + (a + e) → s1 ≡ v1 + (b + s0 / 256) → s2 ≡ v2 + (c + s1 / 256) → s3 ≡ v3 + (d + s2 / 256)
    → word (s0 % 256) (s1 % 256) (s2 % 256) s3 ≡ word v0 v1 v2 v3 + e + word a b c d
join_columns s0 s1 s2 s3 v0 v1 v2 v3 a b c d e p0 p1 p2 p3 = omega arith

word_added : (k : Columns) (a b c d : ℕ) → CarryTaken k → word_of (added k a b c d) ≡ add_carry (word_of k) (word a b c d)
word_added k a b c d l =
    let r = split_carry k.v0 k.v1 k.v2 k.v3 l.below0 l.below1 l.below2 in
    join_columns _ _ _ _ k.v0 k.v1 k.v2 (k.v3 % 256) a b c d (k.v3 / 256) refl refl refl refl
    ∙ ap₂ (λ (x y : ℕ). x + y + word a b c d) (sym r.0) (sym r.1)

columns_total : (s : List ℕ) → word_of (columns s) ≡ total (words_of s)
unfolding columns words_of total
columns_total [] = refl
columns_total (a ∷ []) = refl
columns_total (a ∷ b ∷ []) = refl
columns_total (a ∷ b ∷ c ∷ []) = refl
columns_total (a ∷ b ∷ c ∷ d ∷ s) =
    word_added (columns s) a b c d (columns_taken s) ∙ ap (λ (t : ℕ). add_carry t (word a b c d)) (columns_total s)

word_bytes : (a b c d t : ℕ) → a < 256 → b < 256 → c < 256 → word a b c d ≡ t
    → (a % 256 ≡ t % 256) × (b % 256 ≡ t / 256 % 256) × (c % 256 ≡ t / 65536 % 256) × (d % 256 ≡ t / 16777216 % 256)
word_bytes a b c d t ha hb hc e = (omega arith, omega arith, omega arith, omega arith)

xor4_mod : (a b c d : ℕ) → xor4 a b c d % 256 ≡ xor4 (a % 256) (b % 256) (c % 256) (d % 256)
xor4_mod a b c d = xor_mod (bit_xor a b) (bit_xor c d) 8 ∙ ap₂ bit_xor (xor_mod a b 8) (xor_mod c d 8)

fold_total : (k : Columns) (t : ℕ) → CarryTaken k → word_of k ≡ t → fold_columns k ≡ fold_bytes t
fold_total k t l e =
    let q = word_bytes k.v0 k.v1 k.v2 k.v3 t l.below0 l.below1 l.below2 e in
    xor4_mod k.v0 k.v1 k.v2 k.v3 ∙ ap₂ bit_xor (ap₂ bit_xor q.0 q.1) (ap₂ bit_xor q.2 q.3)

pub columns_are_words : (block : List ℕ) → column_check block ≡ zone_check block
unfolding column_check zone_check
columns_are_words block =
    let s : List ℕ = 0 ∷ drop 1 block in
    fold_total (columns s) (total (words_of s)) (columns_taken s) (columns_total s)
