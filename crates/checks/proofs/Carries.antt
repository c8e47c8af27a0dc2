-- To add a carry is to take 2^32 - 1 off the sum, and it never makes a sum 0. So the carries may be added when one likes: once all are, what
-- is left is the same.
use mathlib.Core.Path.{◌≡◌, refl}
use mathlib.Core.List.{List, [], ◌∷◌}
use Prim.Native.Nat.{ℕ, suc, ◌+◌, ◌-◌, ◌*◌, ◌/◌, ◌^◌, ◌<◌, ◌≤◌, min}
use native.Mathlib.Omega.{arith}
use lib.ListN.{get_or}
use Rattle.checks.specs.Words.{words_of, total, add_carry}
use Rattle.checks.specs.Sums.{sum_of}

-- t is left of a plain sum once some carries are added: each took 2^32 off and added 1. It is 0 only where the sum is.
pub record Carried (sum t : ℕ) : Type 0 where
  pub carries : ℕ
  pub off : t + carries * (2 ^ 32 - 1) ≡ sum
  pub none : min 1 sum ≤ t

-- no word yet
pub none_carried : (all ahead : ℕ) → all ≡ ahead → Carried (all - ahead) 0
none_carried all ahead e = record { carries = 0; off = omega arith; none = omega arith }

-- the carries added, and w
pub carry_more : (sum t w sum2 : ℕ) → Carried sum t → sum2 ≡ sum + w → Carried sum2 (add_carry t w)
carry_more sum t w sum2 c e = record { carries = c.carries + t / 4294967296; off = omega arith; none = omega arith }

pub total_carried : (ws : List ℕ) → Carried (sum_of ws) (total ws)
unfolding total sum_of
total_carried [] = record { carries = 0; off = refl; none = omega arith }
total_carried (w ∷ ws) = carry_more (sum_of ws) (total ws) w (sum_of ws + w) (total_carried ws) refl

-- a total has one carry at most, and is not all ones then
pub total_lt : (s : List ℕ) → ((j : ℕ) → get_or s j 0 < 256) → total (words_of s) < 2 ^ 33 - 1
unfolding total words_of
total_lt [] byte = omega arith
total_lt (a ∷ []) byte = omega arith
total_lt (a ∷ b ∷ []) byte = omega arith
total_lt (a ∷ b ∷ c ∷ []) byte = omega arith
total_lt (a ∷ b ∷ c ∷ d ∷ s) byte = omega (arith, total_lt s (λ j. byte (suc (suc (suc (suc j))))), byte 0, byte 1, byte 2, byte 3)

-- in 32 bits no carry is left
all_carried : (sum t u : ℕ) → Carried sum t → Carried sum u → t < 2 ^ 32 → u < 2 ^ 32 → t ≡ u
all_carried sum t u c d ht hu = omega arith

-- two sums with one carry left at most
pub one_carry : (sum t u w : ℕ) → Carried sum t → Carried sum u → t < 2 ^ 33 - 1 → u < 2 ^ 33 - 1 → add_carry t w ≡ add_carry u w
one_carry sum t u w c d ht hu =
    let ct = carry_more sum t 0 sum c (omega arith) in
    let cu = carry_more sum u 0 sum d (omega arith) in
    omega (arith, all_carried sum (add_carry t 0) (add_carry u 0) ct cu (omega arith) (omega arith))
