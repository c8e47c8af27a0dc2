-- What holds of runs of zero bits (document 01, "Bits, fragments, chains"), and the places at which a search by words of 64 bits (document 02,
-- R-3) could go wrong. Assumes nothing.
use Rattle.std.specs.Prelude.{◌≡◌, Bool, true, false, List, [], ◌∷◌, ◌++◌, map, ℕ, ◌*◌, replicate, set}
use Rattle.std.proofs.Math.Seq.{slice}
use Rattle.bits.specs.Bits.{value, byte_bits, bytes_of, zeros}

-- n bytes of which bit b alone is 1
abbrev pub one_bit : ℕ → ℕ → List ℕ
one_bit n b = bytes_of n (set (replicate (8 * n) false) b true)

-- the zeros from a bit on before the first 1, or before `end`
abbrev pub zero_run : List ℕ → ℕ → ℕ → ℕ
zero_run s from end = zeros (slice from end (byte_bits s))

pub record BitLaws : Type 0 where
  -- "some zero bits, and a closing 1 bit": those before it are counted
  pub closing_bit : (n : ℕ) (bs : List Bool) → zeros (replicate n false ++ true ∷ bs) ≡ n
  -- all of them where there is no closing bit
  pub no_closing_bit : (n : ℕ) → zeros (replicate n false) ≡ n
  -- "32-bit words, low byte first"
  pub lowest_first : value (byte_bits (1 ∷ 2 ∷ 3 ∷ 4 ∷ [])) ≡ 0x04030201
  -- a closing bit at place 63, 64 and 65 of the first word, searched from its lowest bit and from bit 5
  pub word_ends : map (λ b. zero_run (one_bit 24 b) 0 192) (63 ∷ 64 ∷ 65 ∷ []) ≡ 63 ∷ 64 ∷ 65 ∷ []
  pub word_ends_from_5 : map (λ b. zero_run (one_bit 24 b) 5 192) (63 ∷ 64 ∷ 65 ∷ []) ≡ 58 ∷ 59 ∷ 60 ∷ []
  -- the last bit closes, searched from each of the last seven bytes, and after two whole words
  pub last_bytes : map (λ n. zero_run (one_bit 24 191) (8 * n) 192) (23 ∷ 22 ∷ 21 ∷ 20 ∷ 19 ∷ 18 ∷ 17 ∷ 0 ∷ [])
      ≡ 7 ∷ 15 ∷ 23 ∷ 31 ∷ 39 ∷ 47 ∷ 55 ∷ 191 ∷ []
  -- the last bit before `end` closes; a 1 past it does not, just past it in the same word, at the word's end or in the next
  pub end_closes : zero_run (one_bit 24 40) 3 41 ≡ 37
  pub past_end : map (λ b. zero_run (one_bit 24 b) 3 40) (40 ∷ 63 ∷ 64 ∷ []) ≡ 37 ∷ 37 ∷ 37 ∷ []
  -- a 1 before the search closes nothing, and there is none before `end`
  pub before_search : zero_run (one_bit 24 2) 3 192 ≡ 189
