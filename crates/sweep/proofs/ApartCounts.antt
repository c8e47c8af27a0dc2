-- Pairs that lie apart share no address, so their counts one by one are the count of all: that is at most the stretch's length. They ascend, so
-- where one of them lies past the stretch all that follow do.
use mathlib.Core.Path.{◌≡◌, refl, sym, ap, ◌∙◌}
use mathlib.Core.Bool.{false, cond}
use mathlib.Core.List.{List, [], ◌∷◌}
use Prim.Native.Nat.{ℕ, zero, suc, ◌+◌, ◌*◌, ◌<◌, ◌≤◌}
use native.Mathlib.Nat.{mul-le-mul_right}
use native.Mathlib.Omega.{arith}
use lib.Dec.{leb, ltb}
use borrow.Author.Tests.{lt-leb, le-ltb, ltb-true}
use Rattle.bits.proofs.Tests.{by_test, both, and_with_false}
use Rattle.model.specs.Chain.{Pair}
use Rattle.chain.specs.FreeAhead.{EndBy}
use Rattle.listing.proofs.Ascend.{Apart, apart_le}
use Rattle.sweep.specs.Sweep.{in_pair, covers, covered_count, pair_counts}
use Rattle.sweep.proofs.SweptOn.{counted_nothing, count_most}

pub apart_end_by : (at end d : ℕ) (qs : List Pair) → Apart at end qs → end ≤ d → EndBy d qs
apart_end_by at end d [] k h = tt
apart_end_by at end d (q ∷ qs) k h =
    (omega (arith, apart_le (q.start + q.len) end qs k.2), apart_end_by (q.start + q.len) end d qs k.2 h)

module _ (unit : ℕ) where
  -- no address before the first pair is covered
  pub none_before : (at end : ℕ) (qs : List Pair) → Apart at end qs → (a : ℕ) → a < at * unit → covers unit qs a ≡ false
  none_before at end [] k a h = refl
  none_before at end (q ∷ qs) k a h =
      let l : at * unit ≤ q.start * unit = mul-le-mul_right unit k.0 in
      rw (lt-leb (q.start * unit) a (omega arith)) (none_before (q.start + q.len) end qs k.2 a (omega arith))

  -- an address of the first pair is no other's
  one_of_two : (q : Pair) (end : ℕ) (qs : List Pair) → Apart (q.start + q.len) end qs → (a : ℕ)
      → cond (covers unit (q ∷ qs) a) 1 0 ≡ cond (covers unit (q ∷ []) a) 1 0 + cond (covers unit qs a) 1 0
  one_of_two q end qs k a =
      by_test (in_pair unit q a)
      (λ t. let h = ltb-true a ((q.start + q.len) * unit) (both (leb (q.start * unit) a) (ltb a ((q.start + q.len) * unit)) t).1 in
      rw (t, none_before (q.start + q.len) end qs k a h))
      (λ t. rw t (omega arith))

  counts_first : (q : Pair) (end : ℕ) (qs : List Pair) → Apart (q.start + q.len) end qs → (a n : ℕ)
      → covered_count unit (q ∷ qs) a n ≡ covered_count unit (q ∷ []) a n + covered_count unit qs a n
  counts_first q end qs k a zero = refl
  counts_first q end qs k a (suc n) = omega (arith, one_of_two q end qs k a, counts_first q end qs k (suc a) n)

  pub counts_apart : (at end : ℕ) (qs : List Pair) → Apart at end qs → (a n : ℕ) → pair_counts unit qs a n ≡ covered_count unit qs a n
  counts_apart at end [] k a n = sym (counted_nothing unit [] a n (λ x l u. refl))
  counts_apart at end (q ∷ qs) k a n =
      ap (λ (x : ℕ). covered_count unit (q ∷ []) a n + x) (counts_apart (q.start + q.len) end qs k.2 a n) ∙ sym (counts_first q end qs k.2 a n)

  pub counts_fit : (at end : ℕ) (qs : List Pair) → Apart at end qs → (a n : ℕ) → pair_counts unit qs a n ≤ n
  counts_fit at end qs k a n = omega (arith, counts_apart at end qs k a n, count_most unit qs a n)

  -- nor is one from the end of all pairs on
  pub none_after : (d : ℕ) (qs : List Pair) → EndBy d qs → (a : ℕ) → d * unit ≤ a → covers unit qs a ≡ false
  none_after d [] k a h = refl
  none_after d (q ∷ qs) k a h =
      let l : (q.start + q.len) * unit ≤ d * unit = mul-le-mul_right unit k.0 in
      rw (le-ltb a ((q.start + q.len) * unit) (omega arith), and_with_false (leb (q.start * unit) a)) (none_after d qs k.1 a h)
