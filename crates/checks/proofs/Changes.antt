-- An edit leaves the exclusive-or of all cross checks as it was: the changes of the touched zones exclusive-or to 0,
-- since `left` says what those from any place on come to.
use mathlib.Core.Path.{◌≡◌, refl, sym, ap, ◌∙◌}
use mathlib.Core.Bool.{Bool, true, false, cond}
use mathlib.Core.List.{List, [], ◌∷◌}
use Prim.Native.Nat.{ℕ, zero, suc, ◌+◌, ◌%◌, ◌<◌, ◌≤◌}
use native.Mathlib.Omega.{arith}
use lib.Dec.{eqb, leb}
use lib.ListN.{length, get_or, take}
use lib.Bits.{bit_xor, xor_zero_l, xor_zero_r}
use borrow.Author.Tests.{eqb-true, eqb-false, eq-eqb, ne_eqb, lt-ltb, le-ltb, leb-true, leb-false, le-leb, lt-leb}
use Rattle.bits.proofs.Tests.{by_test}
use Rattle.bits.proofs.Xor.{xor_medial}
use Rattle.checks.specs.Cross.{xor_sum, amount, touched_count, changes_from, changes, xor_each}

pub sum_each : (cs vs : List ℕ) → length vs ≤ length cs → xor_sum (xor_each cs vs) ≡ bit_xor (xor_sum cs) (xor_sum vs)
sum_each [] [] h = refl
sum_each [] (v ∷ vs) h = absurd (omega arith)
sum_each (c ∷ cs) [] h = sym (xor_zero_r (xor_sum (c ∷ cs)))
sum_each (c ∷ cs) (v ∷ vs) h = ap (bit_xor (bit_xor c v)) (sum_each cs vs (omega arith)) ∙ xor_medial c v (xor_sum cs) (xor_sum vs)

-- what the amounts from the i-th of n touched zones on come to
abbrev left : ℕ → ℕ → ℕ
left n zero = 0
left n (suc zero) = 1
left n (suc (suc zero)) = cond (eqb (n % 2) 0) 0 3
left n (suc (suc (suc i))) = (n + suc i) % 2

pub one_parity : (n : ℕ) → bit_xor 1 (suc n % 2) ≡ n % 2
one_parity n =
    by_test (eqb (n % 2) 0)
    (λ t. let e : n % 2 ≡ 0 = eqb-true (n % 2) 0 t in let f : suc n % 2 ≡ 1 = omega arith in simp (e, f))
    (λ t. let e : n % 2 ≡ 1 = omega (arith, eqb-false (n % 2) 0 t) in let f : suc n % 2 ≡ 0 = omega arith in simp (e, f))

amount_left : (n i : ℕ) → 2 ≤ n → bit_xor (amount n i) (left n (suc i)) ≡ left n i
amount_left n zero h =
    by_test (eqb (n % 2) 0) (λ k. simp (lt-leb n 1 (omega arith), k)) (λ k. simp (lt-leb n 1 (omega arith), k))
amount_left n (suc zero) h =
    by_test (eqb (n % 2) 0) (λ k. simp (lt-leb n 1 (omega arith), k)) (λ k. simp (lt-leb n 1 (omega arith), k))
amount_left n (suc (suc zero)) h =
    by_test (eqb (n % 2) 0)
    (λ k. let e : (n + 1) % 2 ≡ 1 = omega (arith, eqb-true (n % 2) 0 k) in simp (lt-leb n 1 (omega arith), k, e))
    (λ k. let e : (n + 1) % 2 ≡ 0 = omega (arith, eqb-false (n % 2) 0 k) in simp (lt-leb n 1 (omega arith), k, e))
amount_left n (suc (suc (suc i))) h =
    let e : (n + suc (suc i)) % 2 ≡ suc (n + suc i) % 2 = omega arith in
    by_test (eqb (n % 2) 0)
    (λ k. simp (lt-leb n 1 (omega arith), k, e) (one_parity (n + suc i)))
    (λ k. simp (lt-leb n 1 (omega arith), k, e, le-ltb (suc (suc (suc i))) 3 (omega arith)) (one_parity (n + suc i)))

none_left : (n : ℕ) → 2 ≤ n → left n n ≡ 0
none_left zero h = refl
none_left (suc zero) h = absurd (omega arith)
none_left (suc (suc zero)) h = refl
none_left (suc (suc (suc n))) h = omega arith

changes_left : (n i : ℕ) (zs : List Bool) → 2 ≤ n → i + touched_count zs ≡ n → xor_sum (changes_from n i zs) ≡ left n i
changes_left n i [] h e = let k : i ≡ n = omega arith in sym (ap (left n) k ∙ none_left n h)
changes_left n i (true ∷ zs) h e = ap (bit_xor (amount n i)) (changes_left n (suc i) zs h (omega arith)) ∙ amount_left n i h
changes_left n i (false ∷ zs) h e = xor_zero_l (xor_sum (changes_from n i zs)) ∙ changes_left n i zs h e

-- an edit of one zone or none
changes_of_one : (n i : ℕ) (zs : List Bool) → n ≤ 1 → xor_sum (changes_from n i zs) ≡ 0
changes_of_one n i [] h = refl
changes_of_one n i (true ∷ zs) h = simp (le-leb n 1 h, changes_of_one n (suc i) zs h)
changes_of_one n i (false ∷ zs) h = simp (changes_of_one n i zs h)

changes_cancel : (zs : List Bool) → xor_sum (changes zs) ≡ 0
changes_cancel zs =
    by_test (leb (touched_count zs) 1)
    (λ k. changes_of_one (touched_count zs) 0 zs (leb-true (touched_count zs) 1 k))
    (λ k. changes_left (touched_count zs) 0 zs (leb-false (touched_count zs) 1 k) (omega arith))

length_changes : (n i : ℕ) (zs : List Bool) → length (changes_from n i zs) ≡ length zs
length_changes n i [] = refl
length_changes n i (true ∷ zs) = ap suc (length_changes n (suc i) zs)
length_changes n i (false ∷ zs) = ap suc (length_changes n i zs)

pub sum_kept : (cs : List ℕ) (touched : List Bool) → length cs ≡ length touched → xor_sum (xor_each cs (changes touched)) ≡ xor_sum cs
sum_kept cs touched h =
    sum_each cs (changes touched) (omega (arith, length_changes (touched_count touched) 0 touched))
    ∙ ap (bit_xor (xor_sum cs)) (changes_cancel touched)
    ∙ xor_zero_r (xor_sum cs)

-- the amounts, by how many zones are touched
pub even_number : (n i : ℕ) → 0 < n → n % 2 ≡ 0 → amount n i ≡ 1
even_number n i h e = simp (lt-leb n 1 (omega arith), eq-eqb (n % 2) 0 e)

pub first_of_odd : (n i : ℕ) → 1 < n → n % 2 ≡ 1 → i < 3 → amount n i ≡ suc i
first_of_odd n i h e k = simp (lt-leb n 1 h, ne_eqb (n % 2) 0 (λ z. omega arith), lt-ltb i 3 k)

pub rest_of_odd : (n i : ℕ) → 1 < n → n % 2 ≡ 1 → 3 ≤ i → amount n i ≡ 1
rest_of_odd n i h e k = simp (lt-leb n 1 h, ne_eqb (n % 2) 0 (λ z. omega arith), le-ltb i 3 k)

-- a zone's change
pub changes_from_law : (n i : ℕ) (zs : List Bool) (z : ℕ) → get_or (changes_from n i zs) z 0 ≡ cond (get_or zs z false) (amount n (i + touched_count (take z zs))) 0
changes_from_law n i [] z = refl
changes_from_law n i (true ∷ zs) zero = let e : i ≡ i + 0 = omega arith in ap (amount n) e
changes_from_law n i (false ∷ zs) zero = refl
changes_from_law n i (true ∷ zs) (suc z) =
    let e : suc i + touched_count (take z zs) ≡ i + suc (touched_count (take z zs)) = omega arith in
    changes_from_law n (suc i) zs z ∙ ap (λ (x : ℕ). cond (get_or zs z false) (amount n x) 0) e
changes_from_law n i (false ∷ zs) (suc z) = changes_from_law n i zs z

pub change_by_place : (touched : List Bool) (z : ℕ)
    → get_or (changes touched) z 0 ≡ cond (get_or touched z false) (amount (touched_count touched) (touched_count (take z touched))) 0
change_by_place zs z =
    let e : 0 + touched_count (take z zs) ≡ touched_count (take z zs) = omega arith in
    changes_from_law (touched_count zs) 0 zs z ∙ ap (λ (x : ℕ). cond (get_or zs z false) (amount (touched_count zs) x) 0) e
