-- Bytes per map bit by the table, and the record that they give.
use mathlib.Core.Path.{◌≡◌, refl, sym, ap, ap₂, ◌∙◌}
use mathlib.Core.Bool.{Bool}
use mathlib.Core.List.{List, [], ◌∷◌}
use Prim.Native.Nat.{ℕ, zero, suc, ◌+◌, ◌-◌, ◌*◌, ◌/◌, ◌%◌, ◌^◌, ◌<◌, ◌≤◌, min}
use native.Mathlib.Nat.{div-add-mod', mod-lt}
use native.Mathlib.Omega.{arith}
use lib.Arith.{digits_div}
use lib.Count.{count_trailing_zeros}
use lib.Dec.{leb, ltb}
use lib.Pow.{pow_mono}
use denote.Ref.{Bor}
use Rattle.std.specs.Prelude.{Option, None, Some}
use Rattle.std.specs.Bool.{then_some}
use Rattle.std.specs.Int.{div_ceil}
use Rattle.std.specs.Option.{option_map}
use Rattle.std.specs.List.{find}
use Rattle.bits.proofs.Tests.{by_test}
use Rattle.geometry.specs.declared.DiscRecord.{DiscRecord}
use Rattle.formatted.specs.Blank.{unit_for, up_to, blank_for}
use Rattle.format.specs.declared.UnitRow.{UnitRow}

-- the table as the code has it, and whether a row's discs hold so many bytes
abbrev pub unit_table : List UnitRow
unit_table =
    record { limit = 124 * 1048576; unit = 256 }
    ∷ record { limit = 249 * 1048576; unit = 512 }
    ∷ record { limit = 499 * 1048576; unit = 1024 }
    ∷ record { limit = 999 * 1048576; unit = 2048 }
    ∷ []

abbrev pub holds : ℕ → UnitRow → Bool
holds capacity row = leb capacity row.limit

first_unit : (capacity : ℕ) → option_map (λ (row : UnitRow). row.unit) (find (holds capacity) unit_table) ≡ then_some (ltb 0 (unit_for capacity)) (unit_for capacity)
first_unit capacity =
    by_test (leb capacity (124 * 1048576)) (λ a. rw a)
    (λ a. by_test (leb capacity (249 * 1048576)) (λ b. rw (a, b))
    (λ b. by_test (leb capacity (499 * 1048576)) (λ d. rw (a, b, d))
    (λ d. by_test (leb capacity (999 * 1048576)) (λ e. rw (a, b, d, e)) (λ e. rw (a, b, d, e)))))

pub unit_found : (capacity : ℕ) (row : Option (Bor UnitRow)) {unit : Option ℕ} → option_map (λ (x : Bor UnitRow). x.now) row ≡ find (holds capacity) unit_table
    → unit ≡ option_map (λ (x : Bor UnitRow). x.now.unit) row → unit ≡ then_some (ltb 0 (unit_for capacity)) (unit_for capacity)
unit_found capacity row e k = k ∙ of_row row ∙ ap (option_map (λ (x : UnitRow). x.unit)) e ∙ first_unit capacity
  where
    of_row : (o : Option (Bor UnitRow)) → option_map (λ (x : Bor UnitRow). x.now.unit) o ≡ option_map (λ (x : UnitRow). x.unit) (option_map (λ (x : Bor UnitRow). x.now) o)
    of_row None = refl
    of_row (Some x) = refl

-- stretches of n that cover x: one more than the quotient where something is left over
rounded_up : (x n : ℕ) → 0 < n → div_ceil x n ≡ up_to x n
rounded_up x n h = by_rest (x / n) (x % n) (mod-lt x h) (sym (div-add-mod' x n))
  where
    by_rest : (q r : ℕ) → r < n → x ≡ q * n + r → q + min 1 r ≡ (x + n - 1) / n
    by_rest q zero k e =
        let last : n - 1 < n = omega arith in
        let whole : x + n - 1 ≡ q * n + (n - 1) = omega arith in
        let same : q + min 1 0 ≡ q = omega arith in
        same ∙ sym (ap (λ (y : ℕ). y / n) whole ∙ digits_div q last)
    by_rest q (suc r) k e =
        let last : r < n = omega arith in
        let whole : x + n - 1 ≡ suc q * n + r = omega arith in
        let same : q + min 1 (suc r) ≡ suc q = omega arith in
        same ∙ sym (ap (λ (y : ℕ). y / n) whole ∙ digits_div (suc q) last)

pub sector_long : (logsector : ℕ) {p : ℕ} → p ≡ 2 ^ logsector → 8 ≤ logsector → 256 ≤ p
sector_long logsector e h = omega (arith, pow_mono h)

pub record_is : (logsector capacity idlen : ℕ) {unit p bits n : ℕ} → 8 ≤ logsector → unit ≡ unit_for capacity → 0 < unit → p ≡ 2 ^ logsector
    → bits ≡ div_ceil capacity unit → n ≡ div_ceil (bits + 480) (8 * p - 32)
    → ◌≡◌ {A = DiscRecord}
    (record { logsector = logsector; idlen = idlen; logunit = count_trailing_zeros 64 unit; zones = n; spare = 32; size = capacity; version = 0 })
    (blank_for logsector capacity idlen)
record_is logsector capacity idlen {unit} {p} {bits} {n} l u h e b z =
    let covered : bits ≡ up_to capacity (unit_for capacity) = b ∙ rounded_up capacity unit h ∙ ap (up_to capacity) u in
    let zones : n ≡ up_to (up_to capacity (unit_for capacity) + 480) (8 * 2 ^ logsector - 32) =
    z ∙ rounded_up (bits + 480) (8 * p - 32) (omega (arith, sector_long logsector e l)) ∙ ap₂ (λ (x y : ℕ). up_to (x + 480) (8 * y - 32)) covered e in
    λ i. record { logsector = logsector; idlen = idlen; logunit = count_trailing_zeros 64 (u i); zones = zones i; spare = 32; size = capacity; version = 0 }
