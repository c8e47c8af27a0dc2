-- Lists of numbers and their pairs: how many there are, of an even list nothing is lost, parts of a list are parts of its pairs, and the first
-- pairs that start between two bits are those that pass a test.
use mathlib.Core.Path.{◌≡◌, refl, sym, ap, ◌∙◌}
use mathlib.Core.Bool.{Bool, ◌&&◌}
use mathlib.Core.List.{List, [], ◌∷◌, ◌++◌}
use Prim.Native.Nat.{ℕ, ◌*◌, ◌/◌, ◌%◌, ◌≤◌}
use native.Mathlib.Numerals.{one-add}
use native.Mathlib.Omega.{arith}
use lib.Dec.{ltb, leb}
use lib.ListN.{length, take, drop}
use lib.Seq.{take_at, drop_at}
use Rattle.std.specs.List.{prefix_len}
use Rattle.std.proofs.lemmas.List.Folds.{length-prefix_len}
use Rattle.std.proofs.lemmas.List.Sums.{prefix_len-le-length}
use Rattle.bits.proofs.Tests.{by_test}
use Rattle.model.specs.Chain.{Pair, numbers_of}
use Rattle.model.proofs.Lists.{length_numbers, numbers_append}
use Rattle.edits.specs.Judge.{pairs_from}
use Rattle.writer.specs.Parts.{leading}

pub length_pairs : (list : List ℕ) → length (pairs_from list) ≡ length list / 2
length_pairs [] = refl
length_pairs (a ∷ []) = refl
length_pairs (a ∷ b ∷ l) = omega (arith, length_pairs l)

pub numbers_pairs : (l : List ℕ) → length l % 2 ≡ 0 → numbers_of (pairs_from l) ≡ l
numbers_pairs [] h = refl
numbers_pairs (a ∷ []) h = absurd (omega arith)
numbers_pairs (a ∷ b ∷ l) h = ap (λ (r : List ℕ). a ∷ b ∷ r) (numbers_pairs l (omega arith))

-- the numbers of the first pairs, and those after them
module _ {list : List ℕ} (ps qs : List Pair) (e : list ≡ numbers_of (ps ++ qs)) where
  cut : list ≡ numbers_of ps ++ numbers_of qs
  cut = e ∙ numbers_append ps qs

  pub first_numbers : (n : ℕ) → n ≡ 2 * length ps → take n list ≡ numbers_of ps
  first_numbers n en = ap (take n) cut ∙ take_at (numbers_of ps) (numbers_of qs) n (omega (arith, length_numbers ps))

  pub numbers_after : (n : ℕ) → n ≡ 2 * length ps → drop n list ≡ numbers_of qs
  numbers_after n en = ap (drop n) cut ∙ drop_at (numbers_of ps) (numbers_of qs) n (omega (arith, length_numbers ps))

-- the pairs that lead
abbrev pub between : ℕ → ℕ → Pair → Bool
between low high q = leb low q.start && ltb q.start high

module _ (low high : ℕ) where
  leading_is : (qs : List Pair) → leading low high qs ≡ take (prefix_len (between low high) qs) qs
  leading_is [] = refl
  leading_is (q ∷ qs) = by_test (between low high q) (λ t. rw (t, one-add) (ap (λ (r : List Pair). q ∷ r) (leading_is qs))) (λ t. rw t)

  pub length_leading : (qs : List Pair) → length (take (prefix_len (between low high) qs) qs) ≡ length (leading low high qs)
  length_leading qs = ap length (sym (leading_is qs))

  pub leading_fits : (list : List ℕ) → 2 * length (leading low high (pairs_from list)) ≤ length list
  leading_fits list =
      let qs = pairs_from list in
      omega (arith, length_leading qs, length-prefix_len (between low high) qs, prefix_len-le-length (between low high) qs, length_pairs list)
