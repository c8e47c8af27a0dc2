-- A station that has edited a map in memory and writes it to the disc: over the second copy, then over the first. It may be cut off after
-- any byte (document 02, R-5). Assumes nothing.
use Rattle.std.specs.Prelude.{◌≡◌, true, List, ◌++◌, ◌⊎◌, ℕ, ◌-◌, ◌*◌, ◌≤◌, length, take, drop}
use Rattle.model.specs.Rules.{MapRules}
use Rattle.copies.specs.Copies.{handed_back, same_bytes}

-- a copy after n of the new map's bytes
abbrev pub written : ℕ → List ℕ → List ℕ → List ℕ
written n new old = take n new ++ drop n old

-- the disc's copies after n bytes in all: the second has been written before the first is begun
pub record Copies : Type 0 where
  pub first : List ℕ
  pub second : List ℕ

abbrev pub cut_off_copies : ℕ → List ℕ → Copies → Copies
cut_off_copies n new p = record { first = written (n - length new) new p.first; second = written n new p.second }

abbrev pub yield : Copies → List ℕ
yield p = handed_back p.first p.second

abbrev pub Equal : Copies → Type 0
Equal p = same_bytes p.first p.second ≡ true

-- What such a pair yields, `old` being the map that its first copy was.
pub record Yields (old new : List ℕ) (n : ℕ) (p : Copies) : Type 0 where
  -- until the second is whole, and as long as the first is not begun: exactly the old map
  pub until_whole : n ≤ length new → yield p ≡ old
  -- at the end exactly the new one, and the copies are equal
  pub at_end : 2 * length new ≤ n → (yield p ≡ new) × Equal p
  -- in any case an accepted map
  pub accepted : MapRules (yield p)
  -- What can be told of it by who does not know n. The first copy is refused only where the second is whole: afterwards exactly the new map
  -- whenever the half-written first is refused. The second is refused only where the first is not begun. Equal copies are one of the two
  -- maps.
  pub first_refused : (MapRules p.first → ⊥) → yield p ≡ new
  pub second_refused : (MapRules p.second → ⊥) → yield p ≡ old
  pub told_equal : Equal p → (yield p ≡ old) ⊎ (yield p ≡ new)
  -- What is left are copies that are both accepted and not equal. No more can be promised of them: a half-written one may be accepted by chance
  -- (`StationLaws.at_block_edge`), and is then neither the old map nor the new one. "Not equal" is the warning.
