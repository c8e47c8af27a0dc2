-- What holds of the text: its numbers can be read back, a longer map is refused, the parts are the text; and examples. Assumes nothing.
use Rattle.std.specs.Prelude.{◌≡◌, List, [], ◌∷◌, ◌++◌, ℕ, ◌+◌, ◌-◌, ◌*◌, ◌<◌, ◌≤◌, length, get_or, take, replicate, codes}
use Rattle.std.specs.List.{AllByRecursion}
use Rattle.checks.specs.Maps.{with_bytes, map_a, map_b, map_d}
use Rattle.map_text.specs.declared.Left.{Left}
use Rattle.map_text.specs.Decimal.{decimal}
use Rattle.map_text.specs.Text.{map_text, program_text}
use Rattle.map_text.specs.Parts.{Begins, IsNextPart}

-- the number that digits spell after a number
abbrev pub spelt : ℕ → List ℕ → ℕ
spelt x [] = x
spelt x (d ∷ ds) = spelt (x * 10 + (d - 48)) ds

-- every byte is a digit
abbrev pub Digits : List ℕ → Type 0
Digits ds = AllByRecursion (λ d. (48 ≤ d) × (d ≤ 57)) ds

-- what is printed: part after part, whatever buffer each is made in, until one has no bytes
pub data Printed : Left → List ℕ → Type 0 where
  done : {left after : Left} {old : List ℕ} {n : ℕ} {new : List ℕ} → IsNextPart left old n after new → n ≡ 0 → Printed left []
  more : {left after : Left} {old : List ℕ} {n : ℕ} {new text : List ℕ} → IsNextPart left old n after new → Printed after text → Printed left (take n new ++ text)

pub record TextLaws : Type 0 where
  -- a number's digits are digits, spell it, and have no zero in front
  pub digits : (n : ℕ) → Digits (decimal n)
  pub read_back : (n : ℕ) → spelt 0 (decimal n) ≡ n
  pub no_zero_first : (n : ℕ) → 0 < n → 48 < get_or (decimal n) 0 0
  pub zero_is : decimal 0 ≡ codes "0"
  -- the limit
  pub longer : (m : List ℕ) → 65536 < length m → program_text m ≡ codes "refused 1 0\n"
  pub not_longer : (m : List ℕ) → length m ≤ 65536 → program_text m ≡ map_text m
  -- the parts that follow one another from the start are the text
  pub all_printed : (m : List ℕ) (left : Left) (text : List ℕ) → Begins m left → Printed left text → text ≡ program_text m
  -- "Map A gives exactly two lines, `2 0 12` and `free 12 1524`"
  pub of_a : program_text map_a ≡ codes "2 0 12\nfree 12 1524\n"
  pub of_b : program_text map_b ≡ codes "2 0 12\n5 12 20\nfree 32 1504\n"
  pub of_d : program_text map_d ≡ codes "free 0 1536\n2 1536 12\nfree 1548 2004\n"
  pub of_spoilt_d : program_text (with_bytes ((256, 0x2F) ∷ []) map_d) ≡ codes "refused 3 1\n"
  pub of_none : program_text [] ≡ codes "refused 1 0\n"
  pub of_zeros : program_text (replicate 64 0) ≡ codes "refused 2 0\n"
