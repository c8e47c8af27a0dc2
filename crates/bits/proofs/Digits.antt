-- A number and its bits: the bits of a number spell it, and bits are those of the number that they spell.
use mathlib.Core.Path.{◌≡◌, refl, ap, ◌∙◌}
use mathlib.Core.Bool.{Bool, true, false, cond}
use mathlib.Core.List.{List, [], ◌∷◌, ◌++◌}
use Prim.Native.Nat.{ℕ, zero, suc, ◌+◌, ◌*◌, ◌/◌, ◌%◌, ◌^◌, ◌<◌, ◌≤◌}
use native.Mathlib.Nat.{div-one, pow-suc}
use native.Mathlib.Omega.{arith}
use lib.Dec.{eqb}
use lib.Pow.{shr-shr}
use lib.ListN.{length, get_or, set, replicate}
use borrow.Author.Tests.{eqb-true, eqb-false, eq-eqb, ne_eqb}
use Rattle.bits.specs.Bits.{number_bits, value}
use Rattle.bits.proofs.Tests.{by_test}

-- a number is its lowest bit and twice its half
pub bit_half : (x : ℕ) → cond (eqb (x % 2) 1) 1 0 + 2 * (x / 2) ≡ x
bit_half x =
    by_test (eqb (x % 2) 1)
    (λ h. simp h (omega (arith, eqb-true)))
    (λ h. simp h (omega (arith, eqb-false (x % 2) 1 h)))

pub low_bit : (b : Bool) (i : ℕ) → eqb ((cond b 1 0 + 2 * i) % 2) 1 ≡ b
low_bit true i = eq-eqb ((1 + 2 * i) % 2) 1 (omega arith)
low_bit false i = ne_eqb ((0 + 2 * i) % 2) 1 (λ e. omega arith)

pub high_bits : (b : Bool) (i : ℕ) → (cond b 1 0 + 2 * i) / 2 ≡ i
high_bits true i = omega arith
high_bits false i = omega arith

pub bit_le : (b : Bool) → cond b 1 0 ≤ 1
bit_le true = omega arith
bit_le false = omega arith

pub length_number : (n x : ℕ) → length (number_bits n x) ≡ n
length_number zero x = refl
length_number (suc n) x = ap suc (length_number n _)

pub value_bits : (n x : ℕ) → x < 2 ^ n → value (number_bits n x) ≡ x
value_bits zero x h = omega arith
value_bits (suc n) x h = simp (value_bits n (x / 2) (omega arith)) (bit_half x)

pub bits_value : (bs : List Bool) → number_bits (length bs) (value bs) ≡ bs
bits_value [] = refl
bits_value (b ∷ bs) = simp (low_bit b (value bs), high_bits b (value bs), bits_value bs)

pub value_lt : (bs : List Bool) → value bs < 2 ^ length bs
value_lt [] = omega arith
value_lt (b ∷ bs) = rw pow-suc (omega (arith, bit_le b, value_lt bs))

pub number_at : (n x i : ℕ) → i < n → get_or (number_bits n x) i false ≡ eqb (x / 2 ^ i % 2) 1
number_at zero x i h = absurd (omega arith)
number_at (suc n) x zero h = simp (div-one)
number_at (suc n) x (suc i) h =
    let e : 1 + i ≡ suc i = omega arith in
    let k : x / 2 / 2 ^ i ≡ x / 2 ^ suc i = shr-shr x 1 i ∙ ap (λ (j : ℕ). x / 2 ^ j) e in
    number_at n (x / 2) i (omega arith) ∙ ap (λ (y : ℕ). eqb (y % 2) 1) k

-- a number that fits n bits has zeros above them
pub long_number : (n z v : ℕ) → v < 2 ^ n → number_bits (n + z) v ≡ number_bits n v ++ replicate z false
long_number zero zero v h = refl
long_number zero (suc z) v h =
    let e : v ≡ 0 = omega arith in
    let k : 0 + suc z ≡ suc (0 + z) = omega arith in
    rw (e, k) (ap (λ (r : List Bool). false ∷ r) (long_number zero z 0 (omega arith)))
long_number (suc n) z v h =
    let k : suc n + z ≡ suc (n + z) = omega arith in
    rw k (ap (λ (r : List Bool). eqb (v % 2) 1 ∷ r) (long_number n z (v / 2) (omega arith)))

-- the number whose bits are those of x but for bit i
abbrev pub with_bit : ℕ → ℕ → Bool → ℕ
with_bit zero x v = cond v 1 0 + 2 * (x / 2)
with_bit (suc i) x v = x % 2 + 2 * with_bit i (x / 2) v

same_low : (x y : ℕ) → (x % 2 + 2 * y) / 2 ≡ y
same_low x y = omega arith

same_bit : (x y : ℕ) → (x % 2 + 2 * y) % 2 ≡ x % 2
same_bit x y = omega arith

pub bits_with : (n x i : ℕ) (v : Bool) → i < n → number_bits n (with_bit i x v) ≡ set (number_bits n x) i v
bits_with zero x i v h = absurd (omega arith)
bits_with (suc n) x zero v h = simp (low_bit v (x / 2), high_bits v (x / 2))
bits_with (suc n) x (suc i) v h =
    simp (same_bit x (with_bit i (x / 2) v), same_low x (with_bit i (x / 2) v), bits_with n (x / 2) i v (omega arith))
