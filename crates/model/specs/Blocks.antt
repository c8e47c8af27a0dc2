-- The map as the blocks of its zones, and the parts of a block (document 01, "Bits, fragments, chains"). Assumes nothing.
use Rattle.std.specs.Prelude.{Bool, List, [], ◌∷◌, ◌++◌, ℕ, zero, suc, ◌+◌, ◌-◌, ◌*◌, get_or, take, drop}
use Rattle.bits.specs.Bits.{byte_bits}

-- "the blocks of all zones, zone 0 first": n blocks of `size` bytes, and one slice of them again
abbrev pub blocks : ℕ → ℕ → List ℕ → List (List ℕ)
blocks size zero m = []
blocks size (suc n) m = take size m ∷ blocks size n (drop size m)

abbrev pub flat : List (List ℕ) → List ℕ
flat [] = []
flat (b ∷ bs) = b ++ flat bs

-- "Each zone's block is handed on as its own stretch of the map": from z*S to (z+1)*S
abbrev pub block_at : ℕ → ℕ → List ℕ → List ℕ
block_at size z m =
    let from : ℕ = z * size in
    let to : ℕ = z * size + size in
    take (to - from) (drop from m)

-- "FreeLink is bytes 1 and 2, low byte first, top bit set; the other 15 bits .."
abbrev pub free_link : List ℕ → ℕ
free_link block = get_or block 1 0 + 256 * get_or block 2 0

abbrev pub link_in : List ℕ → ℕ
link_in block = free_link block - 32768

-- a zone's allocation bits, from block bit `at` up to `end`; the header's four bytes come first
abbrev pub alloc_bits : ℕ → ℕ → List ℕ → List Bool
alloc_bits at end block = take (end - at) (drop (at - 32) (byte_bits (drop 4 block)))
