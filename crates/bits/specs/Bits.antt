-- The one view of bits: a list of Bool, bit 0 first, which is the lowest bit of the first byte
-- (document 01, "Bits, fragments, chains"). Every definition above this crate speaks of bits through it.
-- Assumes nothing.
use Rattle.std.specs.Prelude.{Bool, true, false, cond, List, [], ◌∷◌, ◌++◌, ℕ, zero, suc, ◌+◌, ◌*◌, ◌/◌, ◌%◌, ◌<◌, eqb, take, drop}

-- the n lowest bits of a number, lowest first
abbrev pub number_bits : ℕ → ℕ → List Bool
number_bits zero x = []
number_bits (suc n) x = eqb (x % 2) 1 ∷ number_bits n (x / 2)

-- the number that bits spell, lowest first
abbrev pub value : List Bool → ℕ
value [] = 0
value (b ∷ bs) = cond b 1 0 + 2 * value bs

-- the bits of bytes
abbrev pub byte_bits : List ℕ → List Bool
byte_bits [] = []
byte_bits (b ∷ bs) = number_bits 8 b ++ byte_bits bs

-- the first n bytes that bits spell
abbrev pub bytes_of : ℕ → List Bool → List ℕ
bytes_of zero bs = []
bytes_of (suc n) bs = value (take 8 bs) ∷ bytes_of n (drop 8 bs)

-- how many zero bits stand before the first 1
abbrev pub zeros : List Bool → ℕ
zeros [] = 0
zeros (true ∷ bs) = 0
zeros (false ∷ bs) = suc (zeros bs)

-- every number of the list is a byte
abbrev pub Bytes : List ℕ → Type 0
Bytes [] = Unit {0}
Bytes (b ∷ bs) = (b < 256) × Bytes bs
