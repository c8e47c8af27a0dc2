-- The laws of the text. Those of digits go digit by digit; the examples compute.
use Rattle.std.proofs.Common.{◌≡◌, refl, sym, ap, ◌∙◌, List, [], ◌∷◌, map, ℕ, zero, suc, ◌+◌, ◌-◌, ◌*◌, ◌<◌, ◌≤◌, length, get_or, arith}
use Rattle.std.proofs.lemmas.Int.Digits.{all_below_base_digits_of, number_digits_of, first_digits_of}
use Rattle.std.specs.Prelude.{codes}
use Rattle.std.specs.Int.Digits.{digits_of, number_from_digits_after, AllBelowBase}
use borrow.Author.Tests.{lt-ltb, le-ltb}
use Rattle.checks.specs.Words.{zone_check, words_of, total}
use Rattle.map_text.specs.declared.Left.{Left}
use Rattle.map_text.specs.Decimal.{digit, decimal}
use Rattle.map_text.specs.Text.{pair_text, owner_text, line_text, refusal_text, map_text, program_text}
use Rattle.map_text.specs.Parts.{left_text}
use Rattle.map_text.specs.Laws.{spelt, Digits, Printed, done, more, TextLaws}
use Rattle.map_text.proofs.Digits.{decimal_some}

all_digits : (ds : List ℕ) → AllBelowBase 10 ds → Digits (map digit ds)
all_digits [] h = tt
all_digits (d ∷ ds) h = ((omega (arith, h.0), omega (arith, h.0)), all_digits ds h.1)

spells : (x : ℕ) (ds : List ℕ) → spelt x (map digit ds) ≡ number_from_digits_after 10 x ds
spells x [] = refl
spells x (d ∷ ds) = let e : x * 10 + (digit d - 48) ≡ x * 10 + d = omega arith in ap (λ (y : ℕ). spelt y (map digit ds)) e ∙ spells (x * 10 + d) ds

first_digit : (ds : List ℕ) → 0 < get_or ds 0 0 → 48 < get_or (map digit ds) 0 0
first_digit [] h = absurd (omega arith)
first_digit (d ∷ ds) h = omega arith

digits : (n : ℕ) → Digits (decimal n)
unfolding decimal
digits zero = ((omega arith, omega arith), tt)
digits (suc n) = all_digits (digits_of 10 (suc n)) (all_below_base_digits_of 10 (suc n) (omega arith))

read_back : (n : ℕ) → spelt 0 (decimal n) ≡ n
unfolding decimal
read_back zero = refl
read_back (suc n) = spells 0 (digits_of 10 (suc n)) ∙ number_digits_of 10 (suc n) (omega arith)

no_zero_first : (n : ℕ) → 0 < n → 48 < get_or (decimal n) 0 0
no_zero_first n h = rw (decimal_some n h) (first_digit (digits_of 10 n) (first_digits_of 10 n (omega arith) h))

longer : (m : List ℕ) → 65536 < length m → program_text m ≡ codes "refused 1 0\n"
unfolding decimal pair_text refusal_text
longer m h = rw (lt-ltb 65536 (length m) h)

not_longer : (m : List ℕ) → length m ≤ 65536 → program_text m ≡ map_text m
not_longer m h = rw (le-ltb 65536 (length m) h)

left_printed : {left : Left} {text : List ℕ} → Printed left text → text ≡ left_text left
left_printed (done p e) = sym (p.ends e)
left_printed (more {n = n} {new = new} p q) = cc (left_printed q, p.part)

pub text_laws : TextLaws
unfolding decimal pair_text owner_text line_text refusal_text zone_check words_of total
text_laws = record {
  digits = digits;
  read_back = read_back;
  no_zero_first = no_zero_first;
  zero_is = refl;
  longer = longer;
  not_longer = not_longer;
  all_printed = λ m left text b p. left_printed p ∙ b;
  of_a = refl;
  of_b = refl;
  of_d = refl;
  of_spoilt_d = refl;
  of_none = refl;
  of_zeros = refl;
}
