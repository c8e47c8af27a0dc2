-- Bytes of a record that are 0: each of them by the rule, all of them by the test, and their bits without a 1.
use mathlib.Core.Path.{◌≡◌, refl, sym, ap, ◌∙◌}
use mathlib.Core.Bool.{Bool, true, ◌&&◌}
use mathlib.Core.List.{List, [], ◌∷◌}
use Prim.Native.Nat.{ℕ, zero, suc, ◌+◌, ◌-◌, ◌*◌, ◌<◌, ◌≤◌}
use native.Mathlib.Omega.{arith}
use lib.Dec.{eqb}
use lib.ListN.{length, get_or, take, length-take, length-drop}
use lib.Seq.{slice, get_or-take, get_or-drop, slice_empty, slice-cons, length-slice}
use borrow.Author.Tests.{eqb-true, eqb-false, eq-eqb, ne_eqb}
use Rattle.bits.specs.Bits.{value, byte_bits, zeros}
use Rattle.bits.proofs.Tests.{by_test, both, and_true}
use Rattle.bits.proofs.Bytes.{length_byte_bits}
use Rattle.bits.proofs.BitRuns.{value_end, some_one, zeros_of_zero}
use Rattle.bits.proofs.Words.{byte_more}
use Rattle.geometry.specs.Ranges.{ZeroBytes, all_zero, zero_bytes}

-- the test of all bytes answers for each
all_gives_each : (xs : List ℕ) → all_zero xs ≡ true → (i : ℕ) → get_or xs i 0 ≡ 0
all_gives_each [] t i = refl
all_gives_each (x ∷ xs) t zero = eqb-true x 0 (both (eqb x 0) (all_zero xs) t).0
all_gives_each (x ∷ xs) t (suc i) = all_gives_each xs (both (eqb x 0) (all_zero xs) t).1 i

each_gives_all : (xs : List ℕ) → ((i : ℕ) → i < length xs → get_or xs i 0 ≡ 0) → all_zero xs ≡ true
each_gives_all [] h = refl
each_gives_all (x ∷ xs) h = and_true (eqb x 0) (all_zero xs) (eq-eqb x 0 (h 0 (omega arith))) (each_gives_all xs (λ i l. h (suc i) (omega arith)))

-- the rule and the test say the same
module _ (f t : ℕ) (r : List ℕ) where
  in_place : (i : ℕ) → f + i < t → get_or (slice f t r) i 0 ≡ get_or r (f + i) 0
  in_place i h = get_or-drop f (take t r) i 0 ∙ get_or-take t r (f + i) 0 h

  pub test_gives_zero : zero_bytes f t r ≡ true → ZeroBytes f t r
  test_gives_zero e i low high =
      let at : f + (i - f) ≡ i = omega arith in
      ap (λ (j : ℕ). get_or r j 0) (sym at) ∙ sym (in_place (i - f) (omega arith)) ∙ all_gives_each (slice f t r) e (i - f)

  pub zero_gives_test : ZeroBytes f t r → zero_bytes f t r ≡ true
  zero_gives_test k =
      each_gives_all (slice f t r)
      (λ i h. let l : f + i < t = omega (arith, length-drop f (take t r), length-take t r) in
      in_place i l ∙ k (f + i) (omega arith) l)

-- a number is 0 where its lowest byte and all above it are
low_and_high : (x y : ℕ) → eqb (x + 256 * y) 0 ≡ eqb x 0 && eqb y 0
low_and_high x y =
    by_test (eqb x 0)
    (λ t. by_test (eqb y 0)
    (λ u. let e : x + 256 * y ≡ 0 = omega (arith, eqb-true x 0 t, eqb-true y 0 u) in rw (t, u) (eq-eqb _ _ e))
    (λ u. rw (t, u) (ne_eqb (x + 256 * y) 0 (λ e. eqb-false y 0 u (omega arith)))))
    (λ t. rw t (ne_eqb (x + 256 * y) 0 (λ e. eqb-false x 0 t (omega arith))))

-- the bytes are 0 where the number that their bits spell is
module _ (r : List ℕ) (byte : (i : ℕ) → get_or r i 0 < 256) (t : ℕ) (h : t ≤ length r) where
  number_zero : (n f : ℕ) → f + n ≡ t → eqb (value (slice (8 * f) (8 * t) (byte_bits r))) 0 ≡ zero_bytes f t r
  number_zero zero f e =
      let same : f ≡ t = omega arith in
      rw (same, slice_empty t r) (eq-eqb _ _ (sym (value_end (byte_bits r) (8 * t))))
  number_zero (suc n) f e =
      let next : f + 1 ≡ suc f = omega arith in
      let high : ℕ = value (slice (8 * (f + 1)) (8 * t) (byte_bits r)) in
      ap (λ (x : ℕ). eqb x 0) (byte_more r f (8 * t) (omega arith) (byte f) (omega arith))
      ∙ low_and_high (get_or r f 0) high
      ∙ ap (λ (b : Bool). eqb (get_or r f 0) 0 && b) (number_zero n (f + 1) (omega arith))
      ∙ (rw (slice-cons f t r 0 (omega arith) h, next) refl)

  -- so the test finds no 1 among their bits
  pub bits_zero : (f : ℕ) → f ≤ t → eqb (zeros (slice (8 * f) (8 * t) (byte_bits r))) (8 * (t - f)) ≡ zero_bytes f t r
  bits_zero f k =
      let bs = slice (8 * f) (8 * t) (byte_bits r) in
      let l : length bs ≡ 8 * (t - f) = omega (arith, length-slice (8 * f) (8 * t) (byte_bits r) (omega (arith, length_byte_bits r))) in
      by_test (eqb (value bs) 0)
      (λ u. eq-eqb (zeros bs) (8 * (t - f)) (zeros_of_zero bs (eqb-true (value bs) 0 u) ∙ l) ∙ sym u)
      (λ u. ne_eqb (zeros bs) (8 * (t - f)) (λ e. omega (arith, some_one bs (eqb-false (value bs) 0 u))) ∙ sym u)
      ∙ number_zero (t - f) f (omega arith)
