-- Each empty program falls to two rows of the bench table that are answered differently, computed.
use mathlib.Core.Path.{◌≡◌, sym, ap, ◌∙◌}
use mathlib.Core.List.{List, [], ◌∷◌}
use Prim.Native.Nat.{ℕ}
use native.Mathlib.Omega.{arith}
use lib.ListN.{get_or, drop}
use lib.Count.{count_trailing_zeros}
use Rattle.checks.specs.Words.{zone_check, words_of, total}
use Rattle.checks.specs.Maps.{map_a, map_b, map_d}
use Rattle.std.specs.Prelude.{Result, Ok, Err}
use Rattle.geometry.specs.declared.Refusal.{Refusal}
use Rattle.claim.specs.Claimed.{claim_numbers}
use Rattle.copies.specs.Copies.{copy_found, same_bytes, choice_told, handed_back}
use Rattle.bench.specs.Table.{touching_d}
use Rattle.bench.specs.Empty.{ChoiceIs}
use Rattle.bench.proofs.empty_programs.Goals as goal

-- an accepted answer is no refusal
no_refusal : {T : Type 0} {x : T} {r : Refusal} → Ok x ≡ Err r → ⊥
no_refusal e = let z : ◌≡◌ {A = ℕ} 0 1 = cc in omega arith

-- how many positions
abbrev listed_many : Result ℕ Refusal → ℕ
listed_many (Ok n) = n
listed_many (Err r) = 0

abbrev second : List ℕ → ℕ
second l = get_or l 1 0

-- a disc that can be formatted, of a map as long as A's: log2secsize, capacity, idlen
abbrev disc : ℕ × ℕ × ℕ
disc = (8, 393216, 11)

-- four bytes of a stretch
abbrev four : List ℕ
four = 1 ∷ 1 ∷ 1 ∷ 1 ∷ []

-- two entries of a list
abbrev lent : List ℕ
lent = 9 ∷ 9 ∷ []

-- what is told of two copies
abbrev which : ℕ × ℕ × ℕ × ℕ → ℕ
which n = n.2

abbrev equal : ℕ × ℕ × ℕ × ℕ → ℕ
equal n = n.3

-- the id that a claim tells, and how many pairs
abbrev new : ℕ × ℕ × ℕ × ℕ → ℕ
new n = n.2

abbrev many : ℕ × ℕ × ℕ × ℕ → ℕ
many n = n.3

-- the first byte of a copy
abbrev byte : List ℕ → ℕ
byte l = get_or l 0 0

told : {a b : List ℕ} {n : ℕ × ℕ × ℕ × ℕ} {l : List ℕ} → ChoiceIs a b n l → n ≡ choice_told (copy_found a b) (same_bytes a b)
told c = sym c.numbers ∙ c.chooses.numbers

back : {a b : List ℕ} {n : ℕ × ℕ × ℕ × ℕ} {l : List ℕ} → ChoiceIs a b n l → l ≡ handed_back a b
back c = sym c.part ∙ c.chooses.part

pub returns : goal.returns
unfolding zone_check words_of total count_trailing_zeros
returns c =
    record {
      check = record {
        refuses = λ h. no_refusal (sym (h map_a tt).2.answer);
        one_answer = λ h. let k = (h tt).1 in no_refusal (sym (k map_a).1.answer ∙ (k []).1.answer);
      };
      list = record {
        refuses = λ h. no_refusal (sym (h map_a (2, lent)).2.answer);
        one_answer = λ h. let k = (h (5, lent)).1 in no_refusal (sym (k map_b).1.answer ∙ (k map_a).1.answer);
      };
      list_writes_nothing = λ h. let e : ◌≡◌ {A = ℕ} 9 12 = ap (λ (l : List ℕ). get_or l 1 0) (h map_a (2, lent)).1.list in omega arith;
      free = record {
        refuses = λ h. no_refusal (sym (h map_a lent).2.answer);
        one_answer = λ h. let k = (h lent).1 in no_refusal (sym (k map_a).1.answer ∙ (k []).1.answer);
      };
      free_writes_nothing = λ h. let e : ◌≡◌ {A = ℕ} 9 12 = ap (λ (l : List ℕ). get_or l 0 0) (h map_a lent).1.list in omega arith;
      address = record {
        refuses = λ h. no_refusal (sym (h map_b (0x000503, 0)).2.answer);
        one_answer = λ h. let k = (h (0x000503, 0)).1 in no_refusal (sym (k map_b).1.answer ∙ (k map_a).1.answer);
      };
      sweep = record {
        refuses = λ h. no_refusal (sym (h map_b (5, 12286, 7, four)).2.answer);
        one_answer = λ h. let k = (h (5, 12286, 7, four)).1 in no_refusal (sym (k map_b).1.answer ∙ (k map_a).1.answer);
      };
      sweep_writes_nothing = λ h. let e : ◌≡◌ {A = ℕ} 1 7 = ap (λ (l : List ℕ). get_or l 2 0) (h map_b (5, 12286, 7, four)).1.image in omega arith;
      sweep_writes_all = λ h. let e : ◌≡◌ {A = ℕ} 7 1 = ap (λ (l : List ℕ). get_or l 1 0) (h map_b (5, 12286, 7, four)).1.image in omega arith;
      free_sweep_law = record {
        refuses = λ h. no_refusal (sym (h map_b (32766, 7, four)).2.answer);
        one_answer = λ h. let k = (h (32766, 7, four)).1 in no_refusal (sym (k map_b).1.answer ∙ (k []).1.answer);
      };
      free_sweep_writes_nothing = λ h. let e : ◌≡◌ {A = ℕ} 1 7 = ap (λ (l : List ℕ). get_or l 2 0) (h map_b (32766, 7, four)).1.image in omega arith;
      free_sweep_writes_all = λ h. let e : ◌≡◌ {A = ℕ} 7 1 = ap (λ (l : List ℕ). get_or l 1 0) (h map_b (32766, 7, four)).1.image in omega arith;
      release = record {
        refuses = λ h. no_refusal (sym (h map_b (5, lent)).2.lists.answer);
        one_answer = λ h. let k = (h (5, lent)).1 in no_refusal (sym (k map_b).1.lists.answer ∙ (k map_a).1.lists.answer);
      };
      release_edits_nothing = λ h. let e : ◌≡◌ {A = ℕ} 40 199 = ap (λ (l : List ℕ). get_or l 0 0) (h map_b (5, lent)).1.bytes in omega arith;
      release_writes_nothing = λ h. let e : ◌≡◌ {A = ℕ} 9 12 = ap (λ (l : List ℕ). get_or l 0 0) (h map_b (5, lent)).1.lists.list in omega arith;
      place = record {
        refuses = λ h. no_refusal (sym (h map_a (5, 12 ∷ 20 ∷ [])).2.answer);
        one_answer = λ h. let k = (h (5, 12 ∷ 20 ∷ [])).1 in no_refusal (sym (k map_a).1.answer ∙ (k map_b).1.answer);
      };
      place_edits_nothing = λ h. let e : ◌≡◌ {A = ℕ} 199 40 = ap (λ (l : List ℕ). get_or l 0 0) (h map_a (5, 12 ∷ 20 ∷ [])).1.bytes in omega arith;
      claim = record {
        refuses = λ h. no_refusal (sym (h map_a (20480, 0, lent)).2.answer);
        one_answer = λ h. let k = (h (20480, 0, lent)).1 in no_refusal (sym (k map_a).1.answer ∙ (k []).1.answer);
      };
      claim_edits_nothing = λ h. let e : ◌≡◌ {A = ℕ} 199 8 = ap (λ (l : List ℕ). get_or l 0 0) (h map_a (20480, 0, lent)).1.bytes in omega arith;
      claim_writes_nothing = λ h. let e : ◌≡◌ {A = ℕ} 9 12 = ap (λ (l : List ℕ). get_or l 0 0) (h map_a (20480, 0, lent)).1.list in omega arith;
      claim_by_size = λ h. let k = (h map_d 1 lent).2 in let e : ◌≡◌ {A = ℕ} 3 168 = sym (ap new (k 0).numbers) ∙ ap new (k 1).numbers in omega arith;
      claim_one_pair = λ h. let k = h map_d (2052097, 0, four) in let e : many (claim_numbers k.0) ≡ 2 = ap many k.2.numbers in omega (arith, k.3);
      choose = record {
        refuses = λ h. let e : ◌≡◌ {A = ℕ} 0 1 = ap which (told (h map_a []).2) in omega arith;
        one_answer = λ h. let k = (h []).1 in let e : ◌≡◌ {A = ℕ} 1 0 = sym (ap which (told (k map_a).1)) ∙ ap which (told (k []).1) in omega arith;
      };
      choose_nothing = λ h. let e : ◌≡◌ {A = ℕ} 0 199 = ap byte (back (h map_a []).1) in omega arith;
      choose_first = λ h. let e : ◌≡◌ {A = ℕ} 0 199 = ap byte (back (h [] map_a).1) in omega arith;
      choose_second = λ h. let e : ◌≡◌ {A = ℕ} 0 199 = ap byte (back (h map_a []).1) in omega arith;
      never_equal = λ h. let e : ◌≡◌ {A = ℕ} 0 1 = ap equal (told (h [] []).1) in omega arith;
      always_equal = λ h. let e : ◌≡◌ {A = ℕ} 1 0 = ap equal (told (h map_a []).1) in omega arith;
      copy = record {
        refuses = λ h. no_refusal (sym (h map_a map_b).2.answer);
        one_answer = λ h. let k = (h map_b).1 in no_refusal (sym (k map_a).1.answer ∙ (k []).1.answer);
      };
      copy_writes_nothing = λ h. let e : ◌≡◌ {A = ℕ} 40 199 = ap byte (h map_a map_b).1.bytes in omega arith;
      copy_writes_always = λ h. let e : ◌≡◌ {A = ℕ} 0 40 = ap byte (h [] map_b).1.bytes in omega arith;
      addresses = record {
        refuses = λ h. no_refusal (sym (h map_a tt).2.answer);
        one_answer = λ h. let k = (h tt).1 in no_refusal (sym (k map_a).1.answer ∙ (k []).1.answer);
      };
      mend = record {
        refuses = λ h. no_refusal (sym (h map_a tt).2.answer);
        one_answer = λ h. let k = (h tt).1 in no_refusal (sym (k map_a).1.answer ∙ (k []).1.answer);
      };
      mend_writes_nothing = λ h. let e : ◌≡◌ {A = ℕ} 111 46 = ap (λ (l : List ℕ). get_or l 256 0) (h touching_d tt).1.bytes in omega arith;
      mend_keeps_bits = λ h. let k = h touching_d tt in let e : ◌≡◌ {A = ℕ} 8 200 = ap second (ap (drop 260) (sym k.2.bytes) ∙ k.3) in omega arith;
      positions = record {
        refuses = λ h. no_refusal (sym (h map_a lent).2.answer);
        one_answer = λ h. let k = (h lent).1 in no_refusal (sym (k map_a).1.answer ∙ (k []).1.answer);
      };
      positions_written_never = λ h. let e : ◌≡◌ {A = ℕ} 1 256 = ap (λ (l : List ℕ). get_or l 0 0) (h touching_d four).1.list in omega arith;
      positions_of_all = λ h. let k = h map_a lent in let e : ◌≡◌ {A = ℕ} 256 0 = sym (ap listed_many k.3) ∙ ap listed_many k.2.answer in omega arith;
      format = record {
        refuses = λ h. no_refusal (sym (h map_a disc).2.answer);
        one_answer = λ h. let k = (h disc).1 in no_refusal (sym (k map_a).1.answer ∙ (k []).1.answer);
      };
      format_writes_nothing = λ h. let e : ◌≡◌ {A = ℕ} 0xC7 0xD7 = ap (λ (l : List ℕ). get_or l 0 0) (h map_a disc).1.bytes in omega arith;
      format_only_clears = λ h. let e : ◌≡◌ {A = ℕ} 0 0xD7 = ap (λ (l : List ℕ). get_or l 0 0) (h map_a disc).1.bytes in omega arith;
      format_one_map = λ h. let k = (h map_a).2 in no_refusal (sym (k disc).answer ∙ (k (8, 0, 11)).answer);
      length_never = λ h. no_refusal (sym (h disc).1.answer);
      length_same = λ h. no_refusal (sym (h.1 disc).answer ∙ (h.1 (8, 0, 11)).answer);
    }
