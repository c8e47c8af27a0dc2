-- Runs of bits: the number that they spell and the zero bits before the first 1, of a part of them and of the parts that it is cut into.
use mathlib.Core.Path.{◌≡◌, refl, sym, ap, ◌∙◌}
use mathlib.Core.Bool.{Bool, true, false}
use mathlib.Core.List.{List, [], ◌∷◌, ◌++◌}
use Prim.Native.Nat.{ℕ, zero, suc, ◌+◌, ◌-◌, ◌*◌, ◌/◌, ◌%◌, ◌^◌, ◌<◌, ◌≤◌, min}
use native.Mathlib.Nat.{add_comm, mul_comm, mul_assoc, pow-suc}
use native.Mathlib.Omega.{arith}
use lib.Arith.{digits_div, digits_mod}
use lib.Count.{count_trailing_zeros}
use lib.ListN.{length, take, drop, take-append-drop}
use lib.Seq.{slice, slice_empty, take-take, take_at, length-take-le, length-slice, drop-append-le}
use Rattle.bits.specs.Bits.{value, zeros}
use Rattle.bits.proofs.Digits.{value_lt}

module _ (B : List Bool) where
  pub zeros_end : (t : ℕ) → zeros (slice t t B) ≡ 0
  zeros_end t = rw (slice_empty t B)

  pub value_end : (t : ℕ) → 0 ≡ value (slice t t B)
  value_end t = rw (slice_empty t B)

module _ (l : List Bool) (f m t : ℕ) (h : f ≤ m) (k : m ≤ t) (n : m ≤ length l) where
  -- a part, cut at m
  slice_parts : slice f t l ≡ slice f m l ++ slice m t l
  slice_parts =
      ap (drop f) (sym (take-append-drop m (take t l)) ∙ ap (λ (x : List Bool). x ++ slice m t l) (take-take m t l k))
      ∙ drop-append-le f (take m l) (slice m t l) (omega (arith, length-take-le m l n))

  pub slice_first : take (m - f) (slice f t l) ≡ slice f m l
  slice_first = ap (take (m - f)) slice_parts ∙ take_at (slice f m l) (slice m t l) (m - f) (length-slice f m l n)

value_append : (a b : List Bool) → value (a ++ b) ≡ value a + 2 ^ length a * value b
value_append [] b = omega arith
value_append (x ∷ a) b = rw pow-suc (omega (arith, value_append a b, mul_assoc (2 ^ length a) 2 (value b), mul_assoc 2 (2 ^ length a) (value b)))

module _ (B : List Bool) (f n t : ℕ) (h : f + n ≤ t) (l : f + n ≤ length B) where
  low_length : length (slice f (f + n) B) ≡ n
  low_length = length-slice f (f + n) B l ∙ omega arith

  -- the number of a part: its n low bits, and the number of the others
  pub value_parts : value (slice f t B) ≡ value (slice f (f + n) B) + 2 ^ n * value (slice (f + n) t B)
  value_parts =
      ap value (slice_parts B f (f + n) t (omega arith) h l)
      ∙ value_append (slice f (f + n) B) (slice (f + n) t B)
      ∙ ap (λ (x : ℕ). value (slice f (f + n) B) + 2 ^ x * value (slice (f + n) t B)) low_length

  low_lt : value (slice f (f + n) B) < 2 ^ n
  low_lt = rw (ap (λ (x : ℕ). 2 ^ x) (sym low_length)) (value_lt (slice f (f + n) B))

  -- the low bits as the last digit
  value_digits : value (slice f t B) ≡ value (slice (f + n) t B) * 2 ^ n + value (slice f (f + n) B)
  value_digits =
      let low = value (slice f (f + n) B) in
      let high = value (slice (f + n) t B) in
      value_parts ∙ add_comm low (2 ^ n * high) ∙ ap (λ (x : ℕ). x + low) (mul_comm (2 ^ n) high)

  -- without the low bits
  pub value_from : value (slice f t B) / 2 ^ n ≡ value (slice (f + n) t B)
  value_from = ap (λ (x : ℕ). x / 2 ^ n) value_digits ∙ digits_div (value (slice (f + n) t B)) low_lt

  -- without the others
  pub value_first : value (slice f t B) % 2 ^ n ≡ value (slice f (f + n) B)
  value_first = ap (λ (x : ℕ). x % 2 ^ n) value_digits ∙ digits_mod (value (slice (f + n) t B)) low_lt

-- the trailing zeros of a number, of n bits at most
pub trailing_zeros : (k n : ℕ) (bs : List Bool) → n ≤ k → n ≤ length bs → min (count_trailing_zeros k (value bs)) n ≡ zeros (take n bs)
unfolding count_trailing_zeros
trailing_zeros k zero bs h l = omega arith
trailing_zeros zero (suc n) bs h l = absurd (omega arith)
trailing_zeros (suc k) (suc n) [] h l = absurd (omega arith)
trailing_zeros (suc k) (suc n) (true ∷ bs) h l = let e : (1 + 2 * value bs) % 2 ≡ 1 = omega arith in rw e (omega arith)
trailing_zeros (suc k) (suc n) (false ∷ bs) h l =
    let e : (0 + 2 * value bs) % 2 ≡ 0 = omega arith in
    let g : (0 + 2 * value bs) / 2 ≡ value bs = omega arith in
    rw (e, g) (omega (arith, trailing_zeros k n bs (omega arith) (omega arith)))

-- the zeros of bits that others follow, where they have a 1 and where they have none
zeros_within : (a b : List Bool) → zeros a < length a → zeros (a ++ b) ≡ zeros a
zeros_within [] b h = absurd (omega arith)
zeros_within (true ∷ a) b h = refl
zeros_within (false ∷ a) b h = ap suc (zeros_within a b (omega arith))

zeros_beyond : (a b : List Bool) → length a ≤ zeros a → zeros (a ++ b) ≡ length a + zeros b
zeros_beyond [] b h = omega arith
zeros_beyond (true ∷ a) b h = absurd (omega arith)
zeros_beyond (false ∷ a) b h = omega (arith, zeros_beyond a b (omega arith))

-- bits that spell some number, and bits that spell 0
pub some_one : (bs : List Bool) → (value bs ≡ 0 → ⊥) → zeros bs < length bs
some_one [] h = absurd (h refl)
some_one (true ∷ bs) h = omega arith
some_one (false ∷ bs) h = omega (arith, some_one bs (λ e. h (omega arith)))

pub zeros_of_zero : (bs : List Bool) → value bs ≡ 0 → zeros bs ≡ length bs
zeros_of_zero [] e = refl
zeros_of_zero (true ∷ bs) e = absurd (omega arith)
zeros_of_zero (false ∷ bs) e = ap suc (zeros_of_zero bs (omega arith))

module _ (B : List Bool) (j stop end : ℕ) (h : j ≤ stop) (k : stop ≤ end) (l : stop ≤ length B) where
  pub zeros_found : zeros (slice j stop B) < stop - j → zeros (slice j end B) ≡ zeros (slice j stop B)
  zeros_found z = ap zeros (slice_parts B j stop end h k l) ∙ zeros_within (slice j stop B) (slice stop end B) (omega (arith, length-slice j stop B l))

  pub zeros_passed : stop - j ≤ zeros (slice j stop B) → zeros (slice j end B) ≡ (stop - j) + zeros (slice stop end B)
  zeros_passed z =
      ap zeros (slice_parts B j stop end h k l)
      ∙ zeros_beyond (slice j stop B) (slice stop end B) (omega (arith, length-slice j stop B l))
      ∙ ap (λ (x : ℕ). x + zeros (slice stop end B)) (length-slice j stop B l)
