-- The comparison of two slices says that they are equal.
use mathlib.Core.Path.{◌≡◌}
use mathlib.Core.Bool.{true}
use mathlib.Core.List.{List}
use mathlib.Core.Logic.{◌↔◌}
use Prim.Native.Nat.{ℕ}
use Rattle.std.proofs.lemmas.Slice.Eq.{bytes_eq-Decides}
use Rattle.copies.specs.Copies.{same_bytes}

-- "byte for byte equal"
pub equal_exactly : (a b : List ℕ) → same_bytes a b ≡ true ↔ a ≡ b
equal_exactly = bytes_eq-Decides
