-- A number as decimal digits in ASCII, the most significant first, with no zero in front; 0 is `0`. Assumes nothing.
use Rattle.std.specs.Prelude.{List, [], ◌∷◌, map, ℕ, zero, suc, ◌+◌}
use Rattle.std.specs.Int.Digits.{digits_of}

-- 48 is `0`
abbrev pub digit : ℕ → ℕ
digit d = 48 + d

unfoldable pub decimal : ℕ → List ℕ
decimal zero = digit 0 ∷ []
decimal (suc n) = map digit (digits_of 10 (suc n))
