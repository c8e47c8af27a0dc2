-- The first fragment cut off bits that are long enough for its closing 1: its id, its zero bits and that 1 are one fragment,
-- and the rest is cut as it is. By induction over the zero bits, then over the id's bits.
use Rattle.std.proofs.Common.{◌≡◌, Bool, true, false, List, [], ◌∷◌, ℕ, zero, suc, ◌+◌, ◌<◌, ◌≤◌, length, take, drop, refl, arith}
use Rattle.std.proofs.Math.Option.{none}
use Rattle.bits.specs.Bits.{value, zeros}
use Rattle.model.specs.Fragments.{Fragment, edge, within, cut}
use Rattle.model.specs.Chain.{before}

abbrev pub fragment_of : ℕ → ℕ → Fragment
fragment_of id len = record { id = id; len = len }

cut_zeros : (n : ℕ) (bs : List Bool) → zeros bs < length bs → cut n (within 0) bs ≡ before (fragment_of 0 (suc (zeros bs))) (cut n edge (drop (suc (zeros bs)) bs))
cut_zeros n [] h = absurd (omega arith)
cut_zeros n (true ∷ bs) h = grind arith
cut_zeros n (false ∷ bs) h = grind (arith, cut_zeros n bs)

cut_bits : (n k z : ℕ) (bs : List Bool) → z ≡ zeros (drop k bs) → k + z < length bs
    → cut n (within k) bs ≡ before (fragment_of (value (take k bs)) (k + z + 1)) (cut n edge (drop (k + z + 1) bs))
cut_bits n zero z bs e h = let l : zero + z + 1 ≡ suc (zeros bs) = omega arith in rw l (cut_zeros n bs (omega arith))
cut_bits n (suc k) z [] e h = absurd (omega arith)
cut_bits n (suc k) z (b ∷ bs) e h = grind (arith, cut_bits n k z bs)

-- n is idlen - 1
pub cut_first : (n z : ℕ) (bs : List Bool) → z ≡ zeros (drop (suc n) bs) → suc n + z < length bs
    → cut n edge bs ≡ before (fragment_of (value (take (suc n) bs)) (suc n + z + 1)) (cut n edge (drop (suc n + z + 1) bs))
cut_first n z [] e h = absurd (omega arith)
cut_first n z (b ∷ bs) e h = grind (arith, cut_bits n n z bs)

-- none where no 1 closes it
cut_unclosed : (n k : ℕ) (bs : List Bool) → length bs ≤ k + zeros (drop k bs) → cut n (within k) bs ≡ none
cut_unclosed n zero [] h = refl
cut_unclosed n (suc k) [] h = refl
cut_unclosed n zero (true ∷ bs) h = absurd (omega arith)
cut_unclosed n zero (false ∷ bs) h = grind (arith, cut_unclosed n zero bs)
cut_unclosed n (suc k) (b ∷ bs) h = grind (arith, cut_unclosed n k bs)

pub cut_none : (n : ℕ) (bs : List Bool) → 0 < length bs → length bs ≤ suc n + zeros (drop (suc n) bs) → cut n edge bs ≡ none
cut_none n [] z h = absurd (omega arith)
cut_none n (b ∷ bs) z h = grind (arith, cut_unclosed n n bs)
