-- A stored bit: the list of bits has that bit set, and nothing else is changed.
use mathlib.Core.Path.{◌≡◌, refl, sym, ap, ap₂, ◌∙◌}
use mathlib.Core.Bool.{Bool, true, false}
use mathlib.Core.List.{List, [], ◌∷◌, ◌++◌}
use Prim.Native.Nat.{ℕ, zero, suc, ◌+◌, ◌-◌, ◌*◌, ◌/◌, ◌%◌, ◌^◌, ◌<◌, ◌≤◌}
use native.Mathlib.Nat.{mod-lt, add-zero, div-one}
use native.Mathlib.Omega.{arith}
use lib.Dec.{eqb, ltb, lit<}
use lib.Bits.{bit_or, bit_and}
use lib.Pow.{shr-shr}
use lib.ListN.{length, get_or, set, drop, length-append}
use lib.Seq.{sets, sets-eq, set-append_left, drop_at}
use borrow.Author.Tests.{ltb-true, ltb-false, eqb-true}
use Rattle.bits.specs.Bits.{number_bits, byte_bits}
use Rattle.bits.proofs.Tests.{by_test}
use Rattle.bits.proofs.Below.{below, at}
use Rattle.bits.proofs.Digits.{length_number, with_bit, bits_with}

-- the masks of the code, computed at all 256 * 8 bytes and places
or_test : ℕ → ℕ → Bool
or_test x k = eqb (bit_or x (1 * 2 ^ k % 256)) (with_bit k x true)

or_bit : (x k : ℕ) → x < 256 → k < 8 → bit_or x (1 * 2 ^ k % 256) ≡ with_bit k x true
unfolding or_test
or_bit x k hx hk = eqb-true _ _ (at 8 (or_test x) (at 256 (λ y. below 8 (or_test y)) refl x hx) k hk)

and_test : ℕ → ℕ → Bool
and_test x k = eqb (bit_and x (255 - 1 * 2 ^ k % 256)) (with_bit k x false)

and_bit : (x k : ℕ) → x < 256 → k < 8 → bit_and x (255 - 1 * 2 ^ k % 256) ≡ with_bit k x false
unfolding and_test
and_bit x k hx hk = eqb-true _ _ (at 8 (and_test x) (at 256 (λ y. below 8 (and_test y)) refl x hx) k hk)

set_append_right : (xs ys : List Bool) (i : ℕ) (v : Bool) → set (xs ++ ys) (length xs + i) v ≡ xs ++ set ys i v
set_append_right [] ys i v = let e : 0 + i ≡ i = omega arith in rw e
set_append_right (x ∷ xs) ys i v =
    let e : suc (length xs) + i ≡ suc (length xs + i) = omega arith in
    rw e (ap (λ (l : List Bool). x ∷ l) (set_append_right xs ys i v))

-- a byte stored whose bits are the old ones but for one
stored : (s : List ℕ) (b : ℕ) (v : Bool) → b < 8 * length s → byte_bits (set s (b / 8) (with_bit (b % 8) (get_or s (b / 8) 0) v)) ≡ set (byte_bits s) b v
stored [] b v h = absurd (omega arith)
stored (x ∷ s) b v h =
    by_test (ltb b 8)
    (λ t. let k : b < 8 = ltb-true b 8 t in
    let e : b / 8 ≡ 0 = omega arith in
    let f : b % 8 ≡ b = omega arith in
    rw (e, f) (ap (λ (l : List Bool). l ++ byte_bits s) (bits_with 8 x b v k) ∙ sym (set-append_left (number_bits 8 x) (byte_bits s) b v (omega (arith, length_number 8 x)))))
    (λ t. let k : 8 ≤ b = ltb-false b 8 t in
    let e : b / 8 ≡ suc ((b - 8) / 8) = omega arith in
    let f : b % 8 ≡ (b - 8) % 8 = omega arith in
    let j : 8 + (b - 8) ≡ b = omega arith in
    rw (e, f) (ap (λ (l : List Bool). number_bits 8 x ++ l) (stored s (b - 8) v (omega arith))
    ∙ sym (set_append_right (number_bits 8 x) (byte_bits s) (b - 8) v) ∙ ap (λ (i : ℕ). set (byte_bits (x ∷ s)) i v) j))

pub stored_one : (s : List ℕ) (b : ℕ) → b < 8 * length s → get_or s (b / 8) 0 < 256
    → byte_bits (set s (b / 8) (bit_or (get_or s (b / 8) 0) (1 * 2 ^ (b % 8) % 256))) ≡ set (byte_bits s) b true
stored_one s b h k = ap (λ (x : ℕ). byte_bits (set s (b / 8) x)) (or_bit (get_or s (b / 8) 0) (b % 8) k (mod-lt b (lit< tt))) ∙ stored s b true h

pub stored_zero : (s : List ℕ) (b : ℕ) → b < 8 * length s → get_or s (b / 8) 0 < 256
    → byte_bits (set s (b / 8) (bit_and (get_or s (b / 8) 0) (255 - 1 * 2 ^ (b % 8) % 256))) ≡ set (byte_bits s) b false
stored_zero s b h k = ap (λ (x : ℕ). byte_bits (set s (b / 8) x)) (and_bit (get_or s (b / 8) 0) (b % 8) k (mod-lt b (lit< tt))) ∙ stored s b false h

-- a whole byte stored
sets_append_right : (xs ys : List Bool) (i : ℕ) (vs : List Bool) → sets (xs ++ ys) (length xs + i) vs ≡ xs ++ sets ys i vs
sets_append_right xs ys i [] = refl
sets_append_right xs ys i (v ∷ vs) =
    let e : suc (length xs + i) ≡ length xs + suc i = omega arith in
    (λ k. sets (set_append_right xs ys i v k) (e k) vs) ∙ sets_append_right xs (set ys i v) (suc i) vs

byte_sets : (a : List Bool) (l : List Bool) (x : ℕ) → length a ≡ 8 → sets (a ++ l) 0 (number_bits 8 x) ≡ number_bits 8 x ++ l
byte_sets a l x h =
    let e : length (number_bits 8 x) ≡ 8 = length_number 8 x in
    sets-eq (number_bits 8 x) (a ++ l) 0 (omega (arith, length-append a l))
    ∙ ap (λ (k : ℕ). number_bits 8 x ++ drop (0 + k) (a ++ l)) e
    ∙ ap (λ (r : List Bool). number_bits 8 x ++ r) (drop_at a l 8 h)

byte_stored : (s : List ℕ) (i x : ℕ) → i < length s → byte_bits (set s i x) ≡ sets (byte_bits s) (8 * i) (number_bits 8 x)
byte_stored [] i x h = absurd (omega arith)
byte_stored (y ∷ s) zero x h = sym (byte_sets (number_bits 8 y) (byte_bits s) x (length_number 8 y))
byte_stored (y ∷ s) (suc i) x h =
    let e : 8 + 8 * i ≡ 8 * suc i = omega arith in
    ap (λ (l : List Bool). number_bits 8 y ++ l) (byte_stored s i x (omega arith))
    ∙ sym (sets_append_right (number_bits 8 y) (byte_bits s) (8 * i) (number_bits 8 x))
    ∙ ap (λ (k : ℕ). sets (byte_bits (y ∷ s)) k (number_bits 8 x)) e

-- a number's lowest bits are those of its rest by 256, and the others those of its quotient
one_more : (k p : ℕ) → ((w : ℕ) → number_bits k (w % p) ≡ number_bits k w) → ((w : ℕ) → w % (2 * p) % 2 ≡ w % 2) → ((w : ℕ) → w % (2 * p) / 2 ≡ w / 2 % p)
    → (w : ℕ) → number_bits (suc k) (w % (2 * p)) ≡ number_bits (suc k) w
one_more k p s e f w = (λ i. eqb (e w i) 1 ∷ number_bits k (f w i)) ∙ ap (λ (r : List Bool). eqb (w % 2) 1 ∷ r) (s (w / 2))

low_byte : (w : ℕ) → number_bits 8 (w % 256) ≡ number_bits 8 w
low_byte =
    let l1 = one_more 0 1 (λ w. refl) (λ w. omega arith) (λ w. omega arith) in
    let l2 = one_more 1 2 l1 (λ w. omega arith) (λ w. omega arith) in
    let l3 = one_more 2 4 l2 (λ w. omega arith) (λ w. omega arith) in
    let l4 = one_more 3 8 l3 (λ w. omega arith) (λ w. omega arith) in
    let l5 = one_more 4 16 l4 (λ w. omega arith) (λ w. omega arith) in
    let l6 = one_more 5 32 l5 (λ w. omega arith) (λ w. omega arith) in
    let l7 = one_more 6 64 l6 (λ w. omega arith) (λ w. omega arith) in
    one_more 7 128 l7 (λ w. omega arith) (λ w. omega arith)

sets_append : (B : List Bool) (b : ℕ) (us vs : List Bool) → sets (sets B b us) (b + length us) vs ≡ sets B b (us ++ vs)
sets_append B b [] vs = ap (λ (k : ℕ). sets B k vs) (add-zero b)
sets_append B b (u ∷ us) vs =
    let e : b + suc (length us) ≡ suc b + length us = omega arith in
    ap (λ (k : ℕ). sets (sets (set B b u) (suc b) us) k vs) e ∙ sets_append (set B b u) (suc b) us vs

number_split : (k m w : ℕ) → number_bits (k + m) w ≡ number_bits k w ++ number_bits m (w / 2 ^ k)
number_split zero m w = let e : 0 + m ≡ m = omega arith in let f : w / 2 ^ 0 ≡ w = div-one w in (λ i. number_bits (e i) (sym f i))
number_split (suc k) m w =
    let e : suc k + m ≡ suc (k + m) = omega arith in
    let f : 1 + k ≡ suc k = omega arith in
    let g : w / 2 / 2 ^ k ≡ w / 2 ^ suc k = shr-shr w 1 k ∙ ap (λ (j : ℕ). w / 2 ^ j) f in
    ap (λ (j : ℕ). number_bits j w) e ∙ ap (λ (r : List Bool). eqb (w % 2) 1 ∷ r) (number_split k m (w / 2) ∙ ap (λ (x : ℕ). number_bits k (w / 2) ++ number_bits m x) g)

-- a number written byte by byte or bit by bit: what is left to write
pub byte_written : (s : List ℕ) (b n w : ℕ) → b % 8 ≡ 0 → 8 ≤ n → b + n ≤ length s * 8
    → sets (byte_bits (set s (b / 8) (w % 256))) (b + 8) (number_bits (n - 8) (w / 256)) ≡ sets (byte_bits s) b (number_bits n w)
byte_written s b n w h k l =
    let e : 8 * (b / 8) ≡ b = omega arith in
    let f : 8 + (n - 8) ≡ n = omega arith in
    ap (λ (x : List Bool). sets x (b + 8) (number_bits (n - 8) (w / 256)))
    (byte_stored s (b / 8) (w % 256) (omega arith) ∙ ap₂ (λ (x : ℕ) (y : List Bool). sets (byte_bits s) x y) e (low_byte w))
    ∙ sets_append (byte_bits s) b (number_bits 8 w) (number_bits (n - 8) (w / 256))
    ∙ ap (sets (byte_bits s) b) (sym (number_split 8 (n - 8) w) ∙ ap (λ (j : ℕ). number_bits j w) f)

pub bit_written : (B W : List Bool) (b n w : ℕ) → 0 < n → W ≡ set B b (eqb (w % 2) 1) → sets W (b + 1) (number_bits (n - 1) (w / 2)) ≡ sets B b (number_bits n w)
bit_written B W b n w h e =
    let f : suc (n - 1) ≡ n = omega arith in
    let g : b + 1 ≡ suc b = omega arith in
    (λ i. sets (e i) (g i) (number_bits (n - 1) (w / 2))) ∙ ap (λ (k : ℕ). sets B b (number_bits k w)) f
