-- Bytes and their bits, both ways: how many, each by its place, and back.
use mathlib.Core.Path.{◌≡◌, refl, ap, ap₂, ◌∙◌, subst}
use mathlib.Core.Bool.{Bool, false}
use mathlib.Core.List.{List, [], ◌∷◌, ◌++◌}
use Prim.Native.Nat.{ℕ, zero, suc, ◌+◌, ◌-◌, ◌*◌, ◌/◌, ◌%◌, ◌^◌, ◌<◌, ◌≤◌}
use native.Mathlib.Omega.{arith}
use lib.Dec.{eqb, ltb}
use lib.ListN.{length, get_or, take, drop, length-drop, take-append-drop, get_or-append}
use lib.Seq.{length-take-le, get_or-append-add}
use borrow.Author.Tests.{ltb-true, ltb-false}
use Rattle.bits.specs.Bits.{number_bits, value, byte_bits, bytes_of, Bytes}
use Rattle.bits.proofs.Tests.{by_test}
use Rattle.bits.proofs.Digits.{length_number, value_bits, bits_value, number_at}

pub length_byte_bits : (bs : List ℕ) → length (byte_bits bs) ≡ 8 * length bs
length_byte_bits [] = refl
length_byte_bits (b ∷ bs) = simp (length_byte_bits bs) (omega arith)

pub length_bytes : (n : ℕ) (bs : List Bool) → length (bytes_of n bs) ≡ n
length_bytes zero bs = refl
length_bytes (suc n) bs = ap suc (length_bytes n (drop 8 bs))

pub bytes_bits : (bs : List ℕ) → Bytes bs → bytes_of (length bs) (byte_bits bs) ≡ bs
bytes_bits [] h = refl
bytes_bits (b ∷ bs) h =
    simp (value_bits 8 b h.0, bytes_bits bs h.1)

pub bits_bytes : (n : ℕ) (bs : List Bool) → length bs ≡ 8 * n → byte_bits (bytes_of n bs) ≡ bs
bits_bytes zero [] h = refl
bits_bytes zero (b ∷ bs) h = absurd (omega arith)
bits_bytes (suc n) bs h =
    let e : length (take 8 bs) ≡ 8 = length-take-le 8 bs (omega arith) in
    let f : number_bits 8 (value (take 8 bs)) ≡ take 8 bs = subst (λ (k : ℕ). number_bits k (value (take 8 bs)) ≡ take 8 bs) e (bits_value (take 8 bs)) in
    let r : byte_bits (bytes_of n (drop 8 bs)) ≡ drop 8 bs = bits_bytes n (drop 8 bs) (simp length-drop (omega arith)) in
    ap₂ {C = List Bool} (λ a b. a ++ b) f r ∙ take-append-drop 8 bs

-- a bit by its place
pub bit_at : (bs : List ℕ) (b : ℕ) → b < 8 * length bs → get_or (byte_bits bs) b false ≡ eqb (get_or bs (b / 8) 0 / 2 ^ (b % 8) % 2) 1
bit_at [] b h = absurd (omega arith)
bit_at (x ∷ xs) b h =
    by_test (ltb b 8)
    (λ t. let k : b < 8 = ltb-true b 8 t in
    let e : b / 8 ≡ 0 = omega arith in
    let f : b % 8 ≡ b = omega arith in
    get_or-append (number_bits 8 x) (byte_bits xs) false b (omega (arith, length_number 8 x)) ∙ number_at 8 x b k ∙ rw (e, f) refl)
    (λ t. let k : 8 ≤ b = ltb-false b 8 t in
    let e : b / 8 ≡ suc ((b - 8) / 8) = omega arith in
    let f : b % 8 ≡ (b - 8) % 8 = omega arith in
    let s : 8 + (b - 8) ≡ b = omega arith in
    subst (λ (j : ℕ). get_or (byte_bits (x ∷ xs)) j false ≡ get_or (byte_bits xs) (b - 8) false) s (get_or-append-add (number_bits 8 x) (byte_bits xs) (b - 8) false)
    ∙ bit_at xs (b - 8) (omega arith) ∙ rw (e, f) refl)

-- a slice's bytes, from its rule for each place
pub all_bytes : (s : List ℕ) → ((i : ℕ) → get_or s i 0 < 256) → Bytes s
all_bytes [] h = tt
all_bytes (x ∷ s) h = (h 0, all_bytes s (λ i. h (suc i)))
