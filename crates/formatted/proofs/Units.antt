-- The bytes of a map bit by the table's rows: which row a capacity takes, none above the last limit, and that each is the power of two which the record
-- names.
use mathlib.Core.Path.{◌≡◌, refl}
use mathlib.Core.Bool.{Bool, true, false, cond}
use Prim.Native.Nat.{ℕ, ◌*◌, ◌^◌, ◌<◌, ◌≤◌}
use native.Mathlib.Omega.{arith}
use lib.Count.{count_trailing_zeros}
use lib.Dec.{leb}
use borrow.Author.Tests.{leb-true, leb-false, le-leb, lt-leb}
use Rattle.bits.proofs.Tests.{by_test}
use Rattle.formatted.specs.Blank.{unit_for}

-- what holds of both answers of a test holds of its answer
either_answer : {A : Type 0} (P : A → Type 0) (t : Bool) {x y : A} → P x → P y → P (cond t x y)
either_answer P true p q = p
either_answer P false p q = q

module _ (capacity : ℕ) where
  -- past a limit the next rows decide
  past : (limit : ℕ) → limit < capacity → leb capacity limit ≡ false
  past limit l = lt-leb capacity limit l

  pub to_124 : capacity ≤ 124 * 1048576 → unit_for capacity ≡ 256
  to_124 h = rw (le-leb _ _ h)

  pub to_249 : 124 * 1048576 < capacity → capacity ≤ 249 * 1048576 → unit_for capacity ≡ 512
  to_249 l h = rw (past (124 * 1048576) l, le-leb _ _ h)

  pub to_499 : 249 * 1048576 < capacity → capacity ≤ 499 * 1048576 → unit_for capacity ≡ 1024
  to_499 l h = rw (past (124 * 1048576) (omega arith), past (249 * 1048576) l, le-leb _ _ h)

  pub to_999 : 499 * 1048576 < capacity → capacity ≤ 999 * 1048576 → unit_for capacity ≡ 2048
  to_999 l h = rw (past (124 * 1048576) (omega arith), past (249 * 1048576) (omega arith), past (499 * 1048576) l, le-leb _ _ h)

  pub above_999 : 999 * 1048576 < capacity → unit_for capacity ≡ 0
  above_999 l = rw (past (124 * 1048576) (omega arith), past (249 * 1048576) (omega arith), past (499 * 1048576) (omega arith), past (999 * 1048576) l)

  -- what holds of each row's bytes, and of none
  by_rows : (P : ℕ → Type 0) → P 256 → P 512 → P 1024 → P 2048 → P 0 → P (unit_for capacity)
  by_rows P p q r s none =
      either_answer P (leb capacity (124 * 1048576)) p
      (either_answer P (leb capacity (249 * 1048576)) q (either_answer P (leb capacity (499 * 1048576)) r (either_answer P (leb capacity (999 * 1048576)) s none)))

  -- log2bpmb is the power's
  pub unit_power : 0 < unit_for capacity → 2 ^ count_trailing_zeros 64 (unit_for capacity) ≡ unit_for capacity
  unfolding count_trailing_zeros
  unit_power = by_rows (λ n. 0 < n → 2 ^ count_trailing_zeros 64 n ≡ n) (λ h. refl) (λ h. refl) (λ h. refl) (λ h. refl) (λ h. absurd (omega arith))

  -- and outside its range where no row is taken
  pub some_unit : count_trailing_zeros 64 (unit_for capacity) ≤ 12 → 0 < unit_for capacity
  unfolding count_trailing_zeros
  some_unit = by_rows (λ n. count_trailing_zeros 64 n ≤ 12 → 0 < n) (λ h. omega arith) (λ h. omega arith) (λ h. omega arith) (λ h. omega arith) (λ h. absurd (omega arith))

  -- a row's limit and its bytes are small
  pub unit_within : 0 < unit_for capacity → (capacity ≤ 999 * 1048576) × (unit_for capacity ≤ 2048)
  unit_within h = (
    by_test (leb capacity (999 * 1048576)) (leb-true capacity (999 * 1048576)) (λ t. absurd (omega (arith, above_999 (leb-false capacity (999 * 1048576) t)))),
    by_rows (λ n. n ≤ 2048) (omega arith) (omega arith) (omega arith) (omega arith) (omega arith),
  )
