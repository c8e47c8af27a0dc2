-- Bytes that are written over others to their end are all that is there.
use mathlib.Core.Path.{◌≡◌, ap₂, ◌∙◌}
use mathlib.Core.List.{List, ◌++◌, append-nil}
use Prim.Native.Nat.{ℕ, ◌≤◌}
use lib.ListN.{length, take, drop, drop_of_length-le}
use lib.Seq.{take_all}

pub written_all : (n : ℕ) (new old : List ℕ) → length new ≤ n → length old ≤ n → take n new ++ drop n old ≡ new
written_all n new old h k = ap₂ (λ (x y : List ℕ). x ++ y) (take_all n new h) (drop_of_length-le old {i = n} k) ∙ append-nil new
