-- The cross checks as the mender sets them: they exclusive-or to 255, since what zone 0's changes by cancels their sum and leaves 255;
-- the others stay, and so do all where nothing was lacking.
use mathlib.Core.Path.{◌≡◌, refl, sym, ap, ◌∙◌}
use mathlib.Core.List.{List, [], ◌∷◌}
use Prim.Native.Nat.{ℕ, zero, suc, ◌<◌}
use native.Mathlib.Omega.{arith}
use lib.Bits.{bit_xor, xor_zero_l, xor_zero_r, xor_comm, xor_lt, xor_self}
use lib.ListN.{length, get_or}
use Rattle.bits.specs.Bits.{Bytes}
use Rattle.bits.proofs.Xor.{xor_assoc}
use Rattle.checks.specs.Cross.{xor_sum}
use Rattle.mended.specs.Mended.{lacking, cross_mended}

pub mended_count : (cs : List ℕ) → length (cross_mended cs) ≡ length cs
mended_count [] = refl
mended_count (c ∷ cs) = refl

pub mended_later : (cs : List ℕ) (z : ℕ) → 0 < z → get_or (cross_mended cs) z 0 ≡ get_or cs z 0
mended_later [] z h = refl
mended_later (c ∷ cs) zero h = absurd (omega arith)
mended_later (c ∷ cs) (suc z) h = refl

-- (c ^ ((c ^ s) ^ 255)) ^ s is 255
set_right : (c s : ℕ) → bit_xor (bit_xor c (bit_xor (bit_xor c s) 255)) s ≡ 255
set_right c s =
    let t = bit_xor c s in
    xor_assoc c (bit_xor t 255) s
    ∙ ap (bit_xor c) (xor_comm (bit_xor t 255) s)
    ∙ sym (xor_assoc c s (bit_xor t 255))
    ∙ sym (xor_assoc t t 255)
    ∙ ap (λ (x : ℕ). bit_xor x 255) (xor_self t)
    ∙ xor_zero_l 255

pub mended_sum : (cs : List ℕ) → 0 < length cs → xor_sum (cross_mended cs) ≡ 255
mended_sum [] h = absurd (omega arith)
mended_sum (c ∷ cs) h = set_right c (xor_sum cs)

sum_is_byte : (cs : List ℕ) → Bytes cs → xor_sum cs < 256
sum_is_byte [] h = omega arith
sum_is_byte (c ∷ cs) h = xor_lt 8 c (xor_sum cs) h.0 (sum_is_byte cs h.1)

pub mended_bytes : (cs : List ℕ) → Bytes cs → Bytes (cross_mended cs)
mended_bytes [] h = tt
mended_bytes (c ∷ cs) h = (xor_lt 8 c (lacking (c ∷ cs)) h.0 (xor_lt 8 (xor_sum (c ∷ cs)) 255 (sum_is_byte (c ∷ cs) h) (omega arith)), h.1)

-- cross checks that are right
pub right_stay : (cs : List ℕ) → xor_sum cs ≡ 255 → cross_mended cs ≡ cs
right_stay [] e = refl
right_stay (c ∷ cs) e = ap (λ (s : ℕ). bit_xor c (bit_xor s 255) ∷ cs) e ∙ ap (λ (x : ℕ). x ∷ cs) (xor_zero_r c)
