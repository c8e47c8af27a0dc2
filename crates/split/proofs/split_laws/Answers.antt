-- The laws of `Front` on the holes sorted, and those of `Picked` and `Sorted`.
use mathlib.Core.Path.{sym, subst}
use Prim.Native.Nat.{ℕ, ◌<◌}
use Rattle.split.specs.Taken.{leads, by_size}
use Rattle.split.proofs.Sorted.{total_sorted, largest}
use Rattle.split.proofs.Front.{cut_fits, too_few, refused_too_few, front_taken, taken_front}
use Rattle.split.proofs.Picked.{same}
use Rattle.split.proofs.split_laws.Goals as goal

pub returns : goal.returns
returns c =
    record {
      too_few = λ m n hs k. too_few m n (by_size hs) (subst (λ (x : ℕ). x < n) (sym (total_sorted leads hs)) k);
      refused_too_few = λ m n hs e. subst (λ (x : ℕ). x < n) (total_sorted leads hs) (refused_too_few m n (by_size hs) e);
      front_taken = front_taken;
      taken_front = taken_front;
      cut_fits = cut_fits;
      same = same;
      largest = largest;
    }
