-- Exclusive-or regroups, and a second time undoes the first.
use mathlib.Core.Path.{◌≡◌, refl, sym, ap, ◌∙◌}
use Prim.Native.Nat.{ℕ, zero, suc, ◌+◌, ◌*◌, ◌/◌, ◌%◌, ◌<◌}
use native.Mathlib.Omega.{arith}
use lib.Arith.{bin_ind, digits_div, digits_mod}
use lib.Bits.{bit_xor, differ, xor_step, xor_zero_l, xor_zero_r, xor_self, xor_comm}

differ_lt : (x y : ℕ) → x < 2 → y < 2 → differ x y < 2
differ_lt zero y h k = k
differ_lt (suc x) zero h k = h
differ_lt (suc x) (suc y) h k = differ_lt x y (omega arith) (omega arith)

differ_assoc : (x y w : ℕ) → x < 2 → y < 2 → w < 2 → differ (differ x y) w ≡ differ x (differ y w)
differ_assoc zero y w h k j = refl
differ_assoc (suc zero) zero w h k j = refl
differ_assoc (suc zero) (suc zero) zero h k j = refl
differ_assoc (suc zero) (suc zero) (suc zero) h k j = refl
differ_assoc (suc zero) (suc zero) (suc (suc w)) h k j = absurd (omega arith)
differ_assoc (suc zero) (suc (suc y)) w h k j = absurd (omega arith)
differ_assoc (suc (suc x)) y w h k j = absurd (omega arith)

pub xor_assoc : (a b c : ℕ) → bit_xor (bit_xor a b) c ≡ bit_xor a (bit_xor b c)
xor_assoc = bin_ind (λ (a : ℕ). (b c : ℕ) → bit_xor (bit_xor a b) c ≡ bit_xor a (bit_xor b c))
    (λ b c. ap (λ (x : ℕ). bit_xor x c) (xor_zero_l b) ∙ sym (xor_zero_l (bit_xor b c)))
    (λ a ih b c.
    let ha : a % 2 < 2 = omega arith in
    let hb : b % 2 < 2 = omega arith in
    let hc : c % 2 < 2 = omega arith in
    let h1 = differ_lt (a % 2) (b % 2) ha hb in
    let h2 = differ_lt (b % 2) (c % 2) hb hc in
    let m : ℕ = bit_xor (a / 2) (bit_xor (b / 2) (c / 2)) * 2 + differ (a % 2) (differ (b % 2) (c % 2)) in
    let l : bit_xor (bit_xor a b) c ≡ m = xor_step (bit_xor a b) c
    ∙ simp (xor_step a b, digits_div (bit_xor (a / 2) (b / 2)) h1, digits_mod (bit_xor (a / 2) (b / 2)) h1, ih (b / 2) (c / 2), differ_assoc (a % 2) (b % 2) (c % 2) ha hb hc) in
    let r : bit_xor a (bit_xor b c) ≡ m = xor_step a (bit_xor b c)
    ∙ simp (xor_step b c, digits_div (bit_xor (b / 2) (c / 2)) h2, digits_mod (bit_xor (b / 2) (c / 2)) h2) in
    l ∙ sym r)

pub xor_twice : (x d : ℕ) → bit_xor (bit_xor x d) d ≡ x
xor_twice x d = xor_assoc x d d ∙ ap (bit_xor x) (xor_self d) ∙ xor_zero_r x

-- (a ^ v) ^ (s ^ t) is (a ^ s) ^ (v ^ t)
pub xor_medial : (a v s t : ℕ) → bit_xor (bit_xor a v) (bit_xor s t) ≡ bit_xor (bit_xor a s) (bit_xor v t)
xor_medial a v s t =
    xor_assoc a v (bit_xor s t)
    ∙ ap (bit_xor a) (sym (xor_assoc v s t) ∙ ap (λ (x : ℕ). bit_xor x t) (xor_comm v s) ∙ xor_assoc s v t)
    ∙ sym (xor_assoc a s (bit_xor v t))
