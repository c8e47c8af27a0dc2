-- Lists of pairs as numbers, and those of a list that pass a test: of two lists joined, each gives its part.
use mathlib.Core.Path.{◌≡◌, refl, ap}
use mathlib.Core.Bool.{Bool}
use mathlib.Core.List.{List, [], ◌∷◌, ◌++◌}
use Prim.Native.Nat.{ℕ, ◌*◌}
use native.Mathlib.Omega.{arith}
use lib.ListN.{length}
use Rattle.bits.proofs.Tests.{by_test}
use Rattle.model.specs.Chain.{Pair, numbers_of}
use Rattle.model.specs.Pieces.{Piece, keep}

pub length_numbers : (qs : List Pair) → length (numbers_of qs) ≡ 2 * length qs
length_numbers [] = refl
length_numbers (q ∷ qs) = omega (arith, length_numbers qs)

pub numbers_append : (ps qs : List Pair) → numbers_of (ps ++ qs) ≡ numbers_of ps ++ numbers_of qs
numbers_append [] qs = refl
numbers_append (p ∷ ps) qs = ap (λ (r : List ℕ). p.start ∷ p.len ∷ r) (numbers_append ps qs)

pub keep_append : (t : Piece → Bool) (ps qs : List Piece) → keep t (ps ++ qs) ≡ keep t ps ++ keep t qs
keep_append t [] qs = refl
keep_append t (p ∷ ps) qs = by_test (t p) (λ h. simp (h, keep_append t ps qs)) (λ h. simp (h, keep_append t ps qs))
