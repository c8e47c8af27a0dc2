-- The plain sum of a list's words, taken a word or a chunk of words at a time, and the zone check that comes of it.
use mathlib.Core.Path.{◌≡◌, refl, ap}
use mathlib.Core.List.{List, [], ◌∷◌, ◌++◌}
use Prim.Native.Nat.{ℕ, zero, suc, ◌+◌, ◌*◌, ◌^◌, ◌<◌, ◌≤◌, min}
use native.Mathlib.Omega.{arith}
use lib.Dec.{ltb}
use lib.ListN.{length, get_or, take, drop, length-append, length-take, length-drop}
use lib.Seq.{slice, get_or-take, get_or-drop}
use borrow.Author.Tests.{ltb-true, ltb-false}
use Rattle.std.proofs.lemmas.List.{append-nil, get_or_past}
use Rattle.bits.specs.Bits.{value, byte_bits, Bytes}
use Rattle.bits.proofs.Tests.{by_test}
use Rattle.bits.proofs.Words.{word_bytes}
use Rattle.checks.specs.Words.{word, words_of, total, add_carry, fold_bytes, zone_check}
use Rattle.checks.specs.Sums.{sum_of}
use Rattle.checks.proofs.Carries.{Carried, carry_more, total_carried, total_lt, one_carry}

-- fewer than four bytes have no word
words_short : (s : List ℕ) → length s < 4 → words_of s ≡ []
unfolding words_of
words_short [] h = refl
words_short (a ∷ []) h = refl
words_short (a ∷ b ∷ []) h = refl
words_short (a ∷ b ∷ c ∷ []) h = refl
words_short (a ∷ b ∷ c ∷ d ∷ s) h = absurd (omega arith)

pub sum_short : (s : List ℕ) → length s < 4 → sum_of (words_of s) ≡ 0
unfolding sum_of
sum_short s h = rw (words_short s h)

four_bytes : (a b c d : ℕ) → a < 256 → b < 256 → c < 256 → d < 256 → (j : ℕ) → get_or (a ∷ b ∷ c ∷ d ∷ []) j 0 < 256
four_bytes a b c d ha hb hc hd zero = ha
four_bytes a b c d ha hb hc hd (suc zero) = hb
four_bytes a b c d ha hb hc hd (suc (suc zero)) = hc
four_bytes a b c d ha hb hc hd (suc (suc (suc zero))) = hd
four_bytes a b c d ha hb hc hd (suc (suc (suc (suc j)))) = omega arith

-- a word more: the number that its bits spell
pub word_turn : (s w rest : List ℕ) → Bytes s → length w ≡ 4 → s ≡ w ++ rest
    → (sum_of (words_of s) ≡ sum_of (words_of rest) + value (slice 0 32 (byte_bits w))) × Bytes rest
unfolding sum_of words_of
word_turn s [] rest h l e = absurd (omega arith)
word_turn s (a ∷ []) rest h l e = absurd (omega arith)
word_turn s (a ∷ b ∷ []) rest h l e = absurd (omega arith)
word_turn s (a ∷ b ∷ c ∷ []) rest h l e = absurd (omega arith)
word_turn s (a ∷ b ∷ c ∷ d ∷ []) rest h l e =
    let k = rw e at h in
    let n = word_bytes (a ∷ b ∷ c ∷ d ∷ []) (four_bytes a b c d k.0 k.1.0 k.1.1.0 k.1.1.1.0) 0 in
    (rw e (omega (arith, n)), k.1.1.1.1)
word_turn s (a ∷ b ∷ c ∷ d ∷ x ∷ w) rest h l e = absurd (omega arith)

-- words and those after them
sum_append : (n : ℕ) (s rest : List ℕ) → length s ≡ 4 * n → sum_of (words_of (s ++ rest)) ≡ sum_of (words_of rest) + sum_of (words_of s)
unfolding sum_of words_of
sum_append zero [] rest h = omega arith
sum_append zero (a ∷ s) rest h = absurd (omega arith)
sum_append (suc n) [] rest h = absurd (omega arith)
sum_append (suc n) (a ∷ []) rest h = absurd (omega arith)
sum_append (suc n) (a ∷ b ∷ []) rest h = absurd (omega arith)
sum_append (suc n) (a ∷ b ∷ c ∷ []) rest h = absurd (omega arith)
sum_append (suc n) (a ∷ b ∷ c ∷ d ∷ s) rest h = omega (arith, sum_append n s rest (omega arith))

-- a chunk more: it is short only where it is the last
pub chunk_turn : (s chunk rest : List ℕ) → s ≡ chunk ++ rest → length chunk ≡ min 4096 (length s)
    → sum_of (words_of s) ≡ sum_of (words_of rest) + sum_of (words_of chunk)
chunk_turn s chunk [] e h = rw (e, append-nil chunk) (omega (arith, sum_short [] (omega arith)))
chunk_turn s chunk (x ∷ rest) e h =
    let l = length-append chunk (x ∷ rest) in
    rw e (sum_append 1024 chunk (x ∷ rest) (omega (arith, ap length e, l)))

-- word 0, whose first byte counts as 0
words_first : (s first : List ℕ) → 4 ≤ length s → first ≡ take 4 s
    → words_of (0 ∷ drop 1 s) ≡ word 0 (get_or first 1 0) (get_or first 2 0) (get_or first 3 0) ∷ words_of (drop 4 s)
unfolding words_of
words_first [] first h e = absurd (omega arith)
words_first (a ∷ []) first h e = absurd (omega arith)
words_first (a ∷ b ∷ []) first h e = absurd (omega arith)
words_first (a ∷ b ∷ c ∷ []) first h e = absurd (omega arith)
words_first (a ∷ b ∷ c ∷ d ∷ s) first h e = rw e

-- word 0 as it is read from the first four bytes
pub first_word : (s first : List ℕ) → ((j : ℕ) → get_or s j 0 < 256) → 4 ≤ length s → first ≡ take 4 s
    → value (slice (8 * 0) (8 * 0 + 32) (byte_bits first)) ≡ word (get_or first 0 0) (get_or first 1 0) (get_or first 2 0) (get_or first 3 0)
first_word s first byte h f = word_bytes first bytes 0
  where
    bytes : (j : ℕ) → get_or first j 0 < 256
    bytes j =
        by_test (ltb j 4)
        (λ k. rw (f, get_or-take 4 s j 0 (ltb-true j 4 k)) (byte j))
        (λ k. rw (f, get_or_past (take 4 s) j 0 (omega (arith, length-take 4 s, ltb-false j 4 k))) (omega arith))

pub check_end : (s first : List ℕ) (t w : ℕ) → ((j : ℕ) → get_or s j 0 < 256) → 4 ≤ length s → t < 2 ^ 44
    → Carried (sum_of (words_of (drop 4 s))) t → first ≡ take 4 s → w ≡ word 0 (get_or first 1 0) (get_or first 2 0) (get_or first 3 0)
    → fold_bytes (add_carry (add_carry t 0) w) ≡ zone_check s
unfolding zone_check total
check_end s first t w byte h ht c f e =
    let ws = words_of (drop 4 s) in
    let once = carry_more (sum_of ws) t 0 (sum_of ws) c (omega arith) in
    let lt = total_lt (drop 4 s) (λ j. rw (get_or-drop 4 s j 0) (byte (4 + j))) in
    let q = one_carry (sum_of ws) (add_carry t 0) (total ws) w once (total_carried ws) (omega arith) lt in
    rw (words_first s first h f, q, e)

pub check_short : (s : List ℕ) → length s < 4 → 0 ≡ zone_check s
unfolding zone_check total
check_short s h = rw (words_short (0 ∷ drop 1 s) (omega (arith, length-drop 1 s)))
