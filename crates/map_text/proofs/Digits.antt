-- A number's digits: its last digit after those of its tenth part, and at most ten for 32 bits.
use Rattle.std.proofs.Common.{◌≡◌, refl, ap, ◌∙◌, [], ◌∷◌, ◌++◌, map, ℕ, zero, suc, ◌/◌, ◌%◌, ◌^◌, ◌<◌, ◌≤◌, length, arith}
use Rattle.std.proofs.lemmas.List.{map-append, length-map}
use Rattle.std.proofs.lemmas.Int.Digits.{digits_of_step, length-digits_of-le}
use Rattle.std.specs.Int.Digits.{digits_of}
use Rattle.map_text.specs.Decimal.{digit, decimal}

pub decimal_some : (n : ℕ) → 0 < n → decimal n ≡ map digit (digits_of 10 n)
unfolding decimal
decimal_some zero h = absurd (omega arith)
decimal_some (suc n) h = refl

step : (n : ℕ) → 0 < n → decimal n ≡ map digit (digits_of 10 (n / 10)) ++ (digit (n % 10) ∷ [])
step n h = decimal_some n h ∙ ap (map digit) (digits_of_step 10 n (omega arith) h) ∙ map-append digit (digits_of 10 (n / 10)) (n % 10 ∷ [])

pub last_alone : (n : ℕ) → n < 10 → decimal n ≡ digit (n % 10) ∷ []
unfolding decimal
last_alone zero h = refl
last_alone (suc n) h =
    let tenth : suc n / 10 ≡ 0 = omega arith in
    step (suc n) (omega arith) ∙ ap (λ (k : ℕ). map digit (digits_of 10 k) ++ (digit (suc n % 10) ∷ [])) tenth

pub last_after : (n : ℕ) → 10 ≤ n → decimal n ≡ decimal (n / 10) ++ (digit (n % 10) ∷ [])
last_after n h = cc (step n (omega arith), decimal_some (n / 10) (omega arith))

pub short : (k n : ℕ) → 0 < k → n < 10 ^ k → length (decimal n) ≤ k
unfolding decimal
short k zero l h = omega arith
short k (suc n) l h = omega (arith, length-map (digits_of 10 (suc n)) digit, length-digits_of-le 10 k (suc n) (omega arith) h)

pub ten_digits : (n : ℕ) → n < 4294967296 → length (decimal n) ≤ 10
ten_digits n h = short 10 n (omega arith) (omega arith)
