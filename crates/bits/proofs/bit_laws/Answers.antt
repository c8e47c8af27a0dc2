-- The two forms of a run by induction, the others by computing.
use mathlib.Core.Path.{◌≡◌, refl, ap}
use mathlib.Core.Bool.{Bool, true, false}
use mathlib.Core.List.{List, ◌∷◌, ◌++◌}
use Prim.Native.Nat.{ℕ, zero, suc}
use lib.ListN.{replicate}
use Rattle.bits.specs.Bits.{zeros}
use Rattle.bits.proofs.bit_laws.Goals as goal

closing_bit : (n : ℕ) (bs : List Bool) → zeros (replicate n false ++ true ∷ bs) ≡ n
closing_bit zero bs = refl
closing_bit (suc n) bs = ap suc (closing_bit n bs)

no_closing_bit : (n : ℕ) → zeros (replicate n false) ≡ n
no_closing_bit zero = refl
no_closing_bit (suc n) = ap suc (no_closing_bit n)

pub returns : goal.returns
returns c =
    record {
      closing_bit = closing_bit;
      no_closing_bit = no_closing_bit;
      lowest_first = refl;
      word_ends = refl;
      word_ends_from_5 = refl;
      last_bytes = refl;
      end_closes = refl;
      past_end = refl;
      before_search = refl;
    }
