-- The laws of what is taken of holes (document 02, R-8), for any lists and numbers unless said. Assumes nothing.
use Rattle.std.specs.Prelude.{◌≡◌, List, [], ◌∷◌, ◌++◌, ◌⊎◌, ℕ, suc, ◌+◌, ◌<◌, ◌≤◌}
use Rattle.std.proofs.Math.Option.{none, some}
use Rattle.model.specs.Chain.{Pair}
use Rattle.split.specs.Taken.{total, by_size, cut_bits, cut, take_from, by_start}
use Rattle.split.specs.Threshold.{IsThreshold, picked, first_longest}

-- every stretch starts at or after `from`, and the starts ascend
abbrev pub Ascends : ℕ → List Pair → Type 0
Ascends from [] = Unit {0}
Ascends from (h ∷ hs) = (from ≤ h.start) × Ascends (suc h.start) hs

-- Holes from the front, all but the last one whole: together with the last one they have enough bits, and without it they have not. The last one is
-- cut where it is longer than what remains.
pub record FrontTaken (m need : ℕ) (hs qs : List Pair) : Type 0 where
  pub whole : List Pair
  pub hole : Pair
  pub behind : List Pair
  pub last : Pair
  pub holes_are : hs ≡ whole ++ (hole ∷ behind)
  pub taken_are : qs ≡ whole ++ (last ∷ [])
  pub rest : ℕ
  pub remains : total whole + rest ≡ need
  pub some_remain : 0 < rest
  pub enough : rest ≤ hole.len
  pub last_is : last ≡ cut m rest hole

-- What is taken of the last one, of n bits: at least what remains, at least m bits, and so many that nothing is left or at least m bits.
pub record CutFits (m rest n : ℕ) : Type 0 where
  pub enough : rest ≤ cut_bits m rest n
  pub long : m ≤ cut_bits m rest n
  pub left : (cut_bits m rest n ≡ n) ⊎ (cut_bits m rest n + m ≤ n)

pub record SplitLaws : Type 0 where
  -- "Refusal 15 is then given exactly if all free bits together are fewer than need"
  pub too_few : (m need : ℕ) (hs : List Pair) → total hs < need → take_from m need (by_size hs) ≡ none
  pub refused_too_few : (m need : ℕ) (hs : List Pair) → take_from m need (by_size hs) ≡ none → total hs < need
  -- what is taken of holes in some order, and that nothing else is
  pub front_taken : (m need : ℕ) (hs qs : List Pair) → 0 < need → take_from m need hs ≡ some qs → FrontTaken m need hs qs
  pub taken_front : (m need : ℕ) (hs qs : List Pair) → FrontTaken m need hs qs → take_from m need hs ≡ some qs
  pub cut_fits : (m rest n : ℕ) → m ≤ n → rest ≤ n → CutFits m rest n
  -- both forms take the same of holes that ascend
  pub same : (m need t : ℕ) (hs : List Pair) → 0 < need → Ascends 0 hs → IsThreshold need hs t
      → (qs : List Pair) × (take_from m need (by_size hs) ≡ some qs) × (by_start qs ≡ picked m need t hs)
  -- the first hole in the order of sizes is the first one of the longest
  pub largest : (h : Pair) (hs : List Pair) → Ascends 0 (h ∷ hs) → (behind : List Pair) × (by_size (h ∷ hs) ≡ first_longest h hs ∷ behind)
