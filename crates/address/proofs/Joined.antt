-- The addresses of joined pairs: byte i is found at the i-th of them, with the i-th of their runs, and past them nothing is found.
use mathlib.Core.Path.{◌≡◌, refl, sym, ap, ◌∙◌}
use mathlib.Core.List.{List, [], ◌∷◌, ◌++◌}
use Prim.Native.Nat.{ℕ, zero, suc, ◌+◌, ◌-◌, ◌*◌, ◌<◌, ◌≤◌}
use native.Mathlib.Omega.{arith}
use lib.Dec.{ltb}
use lib.ListN.{length, get_or, length-append, get_or-append}
use lib.Seq.{get_or-append-add}
use borrow.Author.Tests.{ltb-true, ltb-false}
use Rattle.bits.proofs.Tests.{by_test}
use Rattle.model.specs.Chain.{Pair}
use Rattle.address.specs.Address.{at, past, locate, address_sought, seek}
use Rattle.address.specs.Refusals.{addresses_from, joined, countdown, joined_runs, total_length}

pub length_addresses : (a n : ℕ) → length (addresses_from a n) ≡ n
length_addresses a zero = refl
length_addresses a (suc n) = ap suc (length_addresses (suc a) n)

address_at : (a n i : ℕ) → i < n → get_or (addresses_from a n) i 0 ≡ a + i
address_at a zero i h = absurd (omega arith)
address_at a (suc n) zero h = omega arith
address_at a (suc n) (suc i) h = address_at (suc a) n i (omega arith) ∙ omega arith

length_countdown : (n : ℕ) → length (countdown n) ≡ n
length_countdown zero = refl
length_countdown (suc n) = ap suc (length_countdown n)

run_at : (n i : ℕ) → i < n → get_or (countdown n) i 0 ≡ n - i
run_at zero i h = absurd (omega arith)
run_at (suc n) zero h = omega arith
run_at (suc n) (suc i) h = run_at n i (omega arith) ∙ omega arith

-- a place of two lists joined is one of the first, or one of the second behind all of the first
in_first : (xs ys : List ℕ) (l i : ℕ) → length xs ≡ l → i < l → get_or (xs ++ ys) i 0 ≡ get_or xs i 0
in_first xs ys l i e h = get_or-append xs ys 0 i (omega arith)

in_second : (xs ys : List ℕ) (l i : ℕ) → length xs ≡ l → l ≤ i → get_or (xs ++ ys) i 0 ≡ get_or ys (i - l) 0
in_second xs ys l i e h =
    let s : length xs + (i - l) ≡ i = omega arith in
    sym (ap (λ (x : ℕ). get_or (xs ++ ys) x 0) s) ∙ get_or-append-add xs ys (i - l) 0

pub never_at : {A : Type 0} (i : ℕ) (a : A) → past i ≡ at a → ⊥
never_at i a e = let x : ◌≡◌ {A = ℕ} 0 1 = cc in omega arith

pub same_byte : {A : Type 0} (a b : A) → at a ≡ at b → a ≡ b
same_byte a b e = cc

module _ (unit : ℕ) where
  length_joined : (q : Pair) (qs : List Pair) → length (joined unit (q ∷ qs)) ≡ q.len * unit + length (joined unit qs)
  length_joined q qs =
      length-append (addresses_from (q.start * unit) (q.len * unit)) (joined unit qs) ∙ ap (λ (n : ℕ). n + length (joined unit qs)) (length_addresses (q.start * unit) (q.len * unit))

  pub length_total : (qs : List Pair) → length (joined unit qs) ≡ total_length qs * unit
  length_total [] = omega arith
  length_total (q ∷ qs) = omega (arith, length_joined q qs, length_total qs)

  pub located : (qs : List Pair) (i : ℕ) → i < length (joined unit qs)
      → locate unit qs i ≡ at (record { address = get_or (joined unit qs) i 0; run = get_or (joined_runs unit qs) i 0 })
  located [] i h = absurd (omega arith)
  located (q ∷ qs) i h =
      let s : ℕ = q.start * unit in
      let l : ℕ = q.len * unit in
      let these : List ℕ = addresses_from s l in
      let n : length these ≡ l = length_addresses s l in
      let k : length (countdown l) ≡ l = length_countdown l in
      by_test (ltb i l)
      (λ t. let u = ltb-true i l t in
      let a : s + i ≡ get_or (joined unit (q ∷ qs)) i 0 = sym (in_first these (joined unit qs) l i n u ∙ address_at s l i u) in
      let r : l - i ≡ get_or (joined_runs unit (q ∷ qs)) i 0 = sym (in_first (countdown l) (joined_runs unit qs) l i k u ∙ run_at l i u) in
      rw t (λ j. at (record { address = a j; run = r j })))
      (λ t. let u = ltb-false i l t in
      let a : get_or (joined unit qs) (i - l) 0 ≡ get_or (joined unit (q ∷ qs)) i 0 = sym (in_second these (joined unit qs) l i n u) in
      let r : get_or (joined_runs unit qs) (i - l) 0 ≡ get_or (joined_runs unit (q ∷ qs)) i 0 = sym (in_second (countdown l) (joined_runs unit qs) l i k u) in
      rw t (located qs (i - l) (omega (arith, length_joined q qs)) ∙ (λ j. at (record { address = a j; run = r j }))))

  pub joined_found : (qs : List Pair) (i : ℕ) → i < length (joined unit qs) → seek unit qs i ≡ at (get_or (joined unit qs) i 0)
  joined_found qs i h = ap address_sought (located qs i h)

  pub joined_ends : (qs : List Pair) (i a : ℕ) → seek unit qs i ≡ at a → i < length (joined unit qs)
  joined_ends [] i a e = absurd (never_at i a e)
  joined_ends (q ∷ qs) i a e =
      by_test (ltb i (q.len * unit))
      (λ t. omega (arith, ltb-true i (q.len * unit) t, length_joined q qs))
      (λ t. omega (arith, length_joined q qs, joined_ends qs (i - q.len * unit) a (rw t at e)))
