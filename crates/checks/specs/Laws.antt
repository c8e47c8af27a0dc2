-- What holds of the check bytes, for every block and every edit. Assumes nothing.
use Rattle.std.specs.Prelude.{◌≡◌, Bool, true, false, cond, List, [], ◌∷◌, ℕ, suc, ◌%◌, ◌<◌, ◌≤◌, length, get_or, take}
use Rattle.checks.specs.Words.{zone_check}
use Rattle.checks.specs.Columns.{column_check}
use Rattle.checks.specs.Cross.{xor_sum, amount, touched_count, changes, xor_each}
use Rattle.checks.specs.Maps.{map_a, map_b}

pub record CheckLaws : Type 0 where
  -- "both are wanted, shown equal on every block"
  pub columns_are_words : (block : List ℕ) → column_check block ≡ zone_check block
  -- map A has check C7 and map B 28, by words and by columns
  pub words_of_a : zone_check map_a ≡ 0xC7
  pub words_of_b : zone_check map_b ≡ 0x28
  pub columns_of_a : column_check map_a ≡ 0xC7
  pub columns_of_b : column_check map_b ≡ 0x28
  -- the check byte itself plays no part in the check
  pub own_byte_free : (a b : ℕ) (rest : List ℕ) → zone_check (a ∷ rest) ≡ zone_check (b ∷ rest)
  -- an edit leaves the exclusive-or of all cross checks as it was, whichever zones it touches
  pub sum_kept : (cs : List ℕ) (touched : List Bool) → length cs ≡ length touched → xor_sum (xor_each cs (changes touched)) ≡ xor_sum cs
  -- "An edit touching one zone leaves them alone. An edit touching several .. exclusive-ors each with 1 when their number is even; when
  -- odd, the first three with 1, 2, 3 and the rest with 1."
  pub one_zone : (i : ℕ) → amount 1 i ≡ 0
  pub even_number : (n i : ℕ) → 0 < n → n % 2 ≡ 0 → amount n i ≡ 1
  pub first_of_odd : (n i : ℕ) → 1 < n → n % 2 ≡ 1 → i < 3 → amount n i ≡ suc i
  pub rest_of_odd : (n i : ℕ) → 1 < n → n % 2 ≡ 1 → 3 ≤ i → amount n i ≡ 1
  -- a zone's change is that of its place among the touched ones, and none where it is not touched
  pub change_by_place : (touched : List Bool) (z : ℕ)
      → get_or (changes touched) z 0 ≡ cond (get_or touched z false) (amount (touched_count touched) (touched_count (take z touched))) 0
  -- "Zones 1,4 change by 1,1; zones 0,2,3,6,7 by 1,2,3,1,1"
  pub two_zones : changes (false ∷ true ∷ false ∷ false ∷ true ∷ []) ≡ 0 ∷ 1 ∷ 0 ∷ 0 ∷ 1 ∷ []
  pub five_zones : changes (true ∷ false ∷ true ∷ true ∷ false ∷ false ∷ true ∷ true ∷ []) ≡ 1 ∷ 0 ∷ 2 ∷ 3 ∷ 0 ∷ 0 ∷ 1 ∷ 1 ∷ []
