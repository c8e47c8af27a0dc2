-- Words of bytes: the number that the bits of a byte, of four and of eight bytes spell, and the zero bits at its low end.
use mathlib.Core.Path.{◌≡◌, sym, ap, ap₂, ◌∙◌}
use mathlib.Core.Bool.{Bool}
use mathlib.Core.List.{List, [], ◌∷◌, ◌++◌}
use Prim.Native.Nat.{ℕ, zero, suc, ◌+◌, ◌-◌, ◌*◌, ◌/◌, ◌%◌, ◌^◌, ◌<◌, ◌≤◌, min}
use native.Mathlib.Nat.{one-mul}
use native.Mathlib.Omega.{arith}
use lib.Bits.{bit_or, or_comm, or_shifted}
use lib.Dec.{lit<, ltb}
use lib.Pow.{shl_exact}
use lib.Count.{count_trailing_zeros}
use lib.ListN.{length, get_or, take, drop, length-take, length-drop}
use lib.Seq.{slice, length-slice, take_all, take_at, take-append-add, drop-append-add}
use borrow.Author.Tests.{ltb-true, ltb-false}
use Rattle.std.proofs.lemmas.List.{drop_all, get_or_past}
use Rattle.bits.specs.Bits.{number_bits, value, byte_bits, zeros}
use Rattle.bits.proofs.Tests.{by_test}
use Rattle.bits.proofs.Digits.{length_number, value_bits}
use Rattle.bits.proofs.Bytes.{length_byte_bits}
use Rattle.bits.proofs.BitRuns.{value_end, slice_first, value_parts, value_from, some_one, trailing_zeros, zeros_of_zero, zeros_found, zeros_passed}

slice_after : (p q : List Bool) (f t : ℕ) → slice (length p + f) (length p + t) (p ++ q) ≡ slice f t q
slice_after p q f t = ap (drop (length p + f)) (take-append-add p q t) ∙ drop-append-add p (take t q) f

-- a byte's bits among those of all bytes
byte_at : (s : List ℕ) (i : ℕ) → i < length s → slice (8 * i) (8 * i + 8) (byte_bits s) ≡ number_bits 8 (get_or s i 0)
byte_at [] i h = absurd (omega arith)
byte_at (x ∷ s) zero h = take_at (number_bits 8 x) (byte_bits s) 8 (length_number 8 x)
byte_at (x ∷ s) (suc i) h =
    let e : 8 * suc i ≡ length (number_bits 8 x) + 8 * i = omega (arith, length_number 8 x) in
    let g : 8 * suc i + 8 ≡ length (number_bits 8 x) + (8 * i + 8) = omega (arith, length_number 8 x) in
    ap₂ (λ (a b : ℕ). slice a b (byte_bits (x ∷ s))) e g ∙ slice_after (number_bits 8 x) (byte_bits s) (8 * i) (8 * i + 8) ∙ byte_at s i (omega arith)

module _ (s : List ℕ) (i t : ℕ) (h : i < length s) (byte : get_or s i 0 < 256) (l : 8 * i + 8 ≤ t) where
  -- the number of some bytes: the lowest, and 256 times that of the others
  pub byte_more : value (slice (8 * i) t (byte_bits s)) ≡ get_or s i 0 + 256 * value (slice (8 * (i + 1)) t (byte_bits s))
  byte_more =
      let e : 8 * i + 8 ≡ 8 * (i + 1) = omega arith in
      value_parts (byte_bits s) (8 * i) 8 t l (omega (arith, length_byte_bits s))
      ∙ ap₂ (λ (x y : ℕ). x + 256 * value (slice y t (byte_bits s))) (ap value (byte_at s i h) ∙ value_bits 8 (get_or s i 0) byte) e

-- a byte that is not there counts as 0
byte_next : (s : List ℕ) (i t : ℕ) → get_or s i 0 < 256 → 8 * i + 8 ≤ t
    → value (slice (8 * i) t (byte_bits s)) ≡ get_or s i 0 + 256 * value (slice (8 * (i + 1)) t (byte_bits s))
byte_next s i t byte l =
    by_test (ltb i (length s))
    (λ k. byte_more s i t (ltb-true i (length s) k) byte l)
    (λ k. let h : length s ≤ i = ltb-false i (length s) k in
    let few : length (take t (byte_bits s)) ≤ 8 * i = simp length-take (omega (arith, length_byte_bits s)) in
    rw (get_or_past s i 0 h, drop_all (8 * i) (take t (byte_bits s)) few, drop_all (8 * (i + 1)) (take t (byte_bits s)) (omega arith)))

-- the number of the four bytes from i on, all of them bytes
abbrev four : List ℕ → ℕ → ℕ
four s i = get_or s i 0 + get_or s (i + 1) 0 * 256 + get_or s (i + 2) 0 * 65536 + get_or s (i + 3) 0 * 16777216

module _ (s : List ℕ) (bytes : (j : ℕ) → get_or s j 0 < 256) (i : ℕ) where
  four_next : (t : ℕ) → 8 * i + 32 ≤ t → value (slice (8 * i) t (byte_bits s)) ≡ four s i + value (slice (8 * (i + 4)) t (byte_bits s)) * 4294967296
  four_next t l =
      let e1 : i + 1 + 1 ≡ i + 2 = omega arith in
      let e2 : i + 2 + 1 ≡ i + 3 = omega arith in
      let e3 : i + 3 + 1 ≡ i + 4 = omega arith in
      let m0 = byte_next s i t (bytes i) (omega arith) in
      let m1 = rw e1 at (byte_next s (i + 1) t (bytes (i + 1)) (omega arith)) in
      let m2 = rw e2 at (byte_next s (i + 2) t (bytes (i + 2)) (omega arith)) in
      let m3 = rw e3 at (byte_next s (i + 3) t (bytes (i + 3)) (omega arith)) in
      omega arith

  pub word_bytes : value (slice (8 * i) (8 * i + 32) (byte_bits s)) ≡ four s i
  word_bytes =
      let e : 8 * (i + 4) ≡ 8 * i + 32 = omega arith in
      omega (arith, rw e at (four_next (8 * i + 32) (omega arith)), value_end (byte_bits s) (8 * i + 32))

  -- a word of eight bytes is two of four
  pub words_joined : (low high : ℕ) → low < 2 ^ 32 → high < 2 ^ 32
      → low ≡ value (slice (8 * i) (8 * i + 32) (byte_bits s)) → high ≡ value (slice (8 * (i + 4)) (8 * (i + 4) + 32) (byte_bits s))
      → bit_or low (high * 4294967296 % 18446744073709551616) ≡ value (slice (8 * i) (8 * i + 64) (byte_bits s))
  words_joined low high l k e f =
      let g : 8 * (i + 4) + 32 ≡ 8 * i + 64 = omega arith in
      let m : high * 4294967296 % 18446744073709551616 ≡ high * 2 ^ 32 = omega arith in
      let j : bit_or low (high * 2 ^ 32) ≡ high * 2 ^ 32 + low = or_comm low (high * 2 ^ 32) ∙ or_shifted high 32 low l in
      rw (m, j) (omega (arith, word_bytes, four_next (8 * i + 64) (omega arith), rw g at f))

-- past the last byte there are no bits
pub none_past_end : (s : List ℕ) (f t : ℕ) → 8 * length s ≤ t → slice f t (byte_bits s) ≡ slice f (8 * length s) (byte_bits s)
none_past_end s f t h =
    let B = byte_bits s in
    ap (drop f) (take_all t B (omega (arith, length_byte_bits s)) ∙ sym (take_all (8 * length s) B (omega (arith, length_byte_bits s))))

-- the n-th word after bit j, which begins a byte: a word of zeros, passed
pub zero_word : (s : List ℕ) (j n end : ℕ) → j % 8 ≡ 0 → j + 64 * (n + 1) ≤ end → end ≤ length s * 8
    → value (slice (8 * (j / 8 + 8 * n)) (8 * (j / 8 + 8 * n) + 64) (byte_bits s)) ≡ 0
    → zeros (slice (j + 64 * n) end (byte_bits s)) ≡ 64 + zeros (slice (j + 64 * (n + 1)) end (byte_bits s))
zero_word s j n end whole h l e =
    let B = byte_bits s in
    let f = j + 64 * n in
    let t = j + 64 * (n + 1) in
    let from : 8 * (j / 8 + 8 * n) ≡ f = omega arith in
    let to : f + 64 ≡ t = omega arith in
    let long : t ≤ length B = omega (arith, length_byte_bits s) in
    let z : 64 ≤ zeros (slice f t B) = omega (arith, zeros_of_zero (slice f t B) (rw (from, to) at e), length-slice f t B long) in
    omega (arith, zeros_passed B f t end (omega arith) h long (omega arith))

-- a word that begins with j's byte, without the bits below j
pub word_from : (s : List ℕ) (j w : ℕ) → j ≤ length s * 8 → w ≡ value (slice (8 * (j / 8)) (8 * (j / 8) + 64) (byte_bits s))
    → w / 2 ^ (j % 8) ≡ value (slice j (8 * (j / 8) + 64) (byte_bits s))
word_from s j w h e =
    let B = byte_bits s in
    let t = 8 * (j / 8) + 64 in
    let at : 8 * (j / 8) + j % 8 ≡ j = omega arith in
    ap (λ (x : ℕ). x / 2 ^ (j % 8)) e
    ∙ value_from B (8 * (j / 8)) (j % 8) t (omega arith) (omega (arith, length_byte_bits s))
    ∙ ap (λ (x : ℕ). value (slice x t B)) at

-- the trailing zeros of what is left of it, w: they end at the first 1 of n bits that stand before `end`, or these are all zeros
module _ (s : List ℕ) (j w n end : ℕ) (h : j + n ≤ end) (l : end ≤ length s * 8) (k : j % 8 + n ≤ 64)
    (e : w ≡ value (slice j (8 * (j / 8) + 64) (byte_bits s))) where
  long : j + n ≤ length (byte_bits s)
  long = omega (arith, length_byte_bits s)

  first_zeros : zeros (slice j (j + n) (byte_bits s)) ≡ min (count_trailing_zeros 64 w) n
  first_zeros =
      let bs = slice j (8 * (j / 8) + 64) (byte_bits s) in
      let d : j + n - j ≡ n = omega arith in
      ap zeros (sym (rw d at (slice_first (byte_bits s) j (j + n) (8 * (j / 8) + 64) (omega arith) (omega arith) long)))
      ∙ sym (trailing_zeros 64 n bs (omega arith) (simp (length-drop, length-take) (omega (arith, long))))
      ∙ ap (λ (x : ℕ). min (count_trailing_zeros 64 x) n) (sym e)

  pub word_found : count_trailing_zeros 64 w < n → zeros (slice j end (byte_bits s)) ≡ count_trailing_zeros 64 w
  word_found g = omega (arith, first_zeros, zeros_found (byte_bits s) j (j + n) end (omega arith) h long (omega (arith, first_zeros)))

  pub word_passed : n ≤ count_trailing_zeros 64 w → zeros (slice j end (byte_bits s)) ≡ n + zeros (slice (j + n) end (byte_bits s))
  word_passed g = omega (arith, zeros_passed (byte_bits s) j (j + n) end (omega arith) h long (omega (arith, first_zeros)))

-- a word that is not 0 has its first 1 among the bits from j on
pub one_inside : (s : List ℕ) (j : ℕ) → (value (slice j (8 * (j / 8) + 64) (byte_bits s)) ≡ 0 → ⊥)
    → count_trailing_zeros 64 (value (slice j (8 * (j / 8) + 64) (byte_bits s))) < 64 - j % 8
one_inside s j some =
    let bs = slice j (8 * (j / 8) + 64) (byte_bits s) in
    let few : length bs ≤ 64 - j % 8 = simp (length-drop, length-take) (omega arith) in
    omega (arith, some_one bs some, trailing_zeros 64 (length bs) bs (omega arith) (omega arith) ∙ ap zeros (take_all (length bs) bs (omega arith)))

-- 1, shifted by fewer places than a word has
pub one_shifted : (n : ℕ) → n < 64 → 1 * 2 ^ n % 2 ^ 64 ≡ 2 ^ n
one_shifted n h = shl_exact {a = 1} 1 n 64 (lit< tt) (omega arith) ∙ one-mul (2 ^ n)
