-- The zone check by 32-bit words (document 01, "Zone check and cross check"; document 000's assembler listing).
-- Said of every list of bytes: bytes after the last whole word do not count. Assumes nothing.
use Rattle.std.specs.Prelude.{ℕ, ◌+◌, ◌*◌, ◌/◌, ◌%◌, List, [], ◌∷◌, drop}
use Rattle.std.specs.Int.Bits.{bit_xor}

-- "32-bit words, low byte first"
abbrev pub word : ℕ → ℕ → ℕ → ℕ → ℕ
word a b c d = a + b * 256 + c * 65536 + d * 16777216

unfoldable pub words_of : List ℕ → List ℕ
words_of [] = []
words_of (a ∷ []) = []
words_of (a ∷ b ∷ []) = []
words_of (a ∷ b ∷ c ∷ []) = []
words_of (a ∷ b ∷ c ∷ d ∷ s) = word a b c d ∷ words_of s

-- "add the word and the carry of the previous addition, keeping 32 bits": the sum and the carry above it as one number
abbrev pub add_carry : ℕ → ℕ → ℕ
add_carry t w = t % 4294967296 + t / 4294967296 + w

-- "from sum 0 and carry 0, going from the last word down to word 0"
unfoldable pub total : List ℕ → ℕ
total [] = 0
total (w ∷ ws) = add_carry (total ws) w

-- "the exclusive-or of the four sum bytes"; the carry above them is dropped
abbrev pub xor4 : ℕ → ℕ → ℕ → ℕ → ℕ
xor4 a b c d = bit_xor (bit_xor a b) (bit_xor c d)

abbrev pub fold_bytes : ℕ → ℕ
fold_bytes t = xor4 (t % 256) (t / 256 % 256) (t / 65536 % 256) (t / 16777216 % 256)

-- "in word 0 the check byte counts as 0"
unfoldable pub zone_check : List ℕ → ℕ
zone_check block = fold_bytes (total (words_of (0 ∷ drop 1 block)))
