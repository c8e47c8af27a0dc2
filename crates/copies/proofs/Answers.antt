-- The answers of the three calls, case by case: by what the check found, then by the lengths; and what is left of the target. Each refusal
-- has a number of the table, so an answer tells its numbers.
use mathlib.Core.Path.{◌≡◌, refl, sym, ap, ap₂, ◌∙◌}
use mathlib.Core.Bool.{Bool, cond}
use mathlib.Core.List.{List, []}
use Prim.Native.Nat.{ℕ}
use lib.Dec.{eqb}
use lib.ListN.{length}
use borrow.Author.Tests.{eq-eqb, ne_eqb}
use denote.Ref.{Bor}
use Rattle.std.specs.Prelude.{Result, Ok, Err}
use Rattle.std.specs.Result.{IsErr, IsErrAnd}
use Rattle.geometry.specs.declared.Geometry.{Geometry}
use Rattle.geometry.specs.declared.Refusal.{Refusal}
use Rattle.geometry.specs.Record.{geometry_of}
use Rattle.geometry.specs.Answers.{number, refusal}
use Rattle.geometry.proofs.Reasons.{same_refusal}
use Rattle.geometry.proofs.Results.{handed_on}
use Rattle.model.specs.Answer.{Answer, refused, answered, unless}
use Rattle.model.specs.Chain.{Entry}
use Rattle.model.specs.Check.{map_read}
use Rattle.model.proofs.Numbered.{Numbered, no_refusal, unless_numbered, then_numbered, map_numbered}
use Rattle.map.specs.Checked.{checked}
use Rattle.map.proofs.Answers.{read_refused}
use Rattle.listing.proofs.Answers.{accepted_by, map_refused, map_read_law}
use Rattle.copies.specs.declared.Which.{Which}
use Rattle.copies.specs.declared.Which.TheVariants.{First, Second}
use Rattle.copies.specs.declared.Addresses.{Addresses}
use Rattle.copies.specs.Copies.{or_else, copy_found, part_of, same_bytes, which_answer, which_numbers, choice_told, Chooses}
use Rattle.copies.specs.Copies.{copy_judged, target_after, copy_answer, copy_numbers, copy_told, CopiesOver}
use Rattle.copies.specs.Copies.{copies_of, addresses_found, addresses_answer, addresses_numbers, addresses_told, TellsAddresses}

-- the copy that is handed back
choice_numbered : (r s : Answer (List (List Entry))) → Numbered r → Numbered (or_else r s)
choice_numbered (answered x) s k = no_refusal
choice_numbered (refused n z) (answered y) k = no_refusal
choice_numbered (refused n z) (refused m y) k = record { told = k.told }

choice_tells : (f : Answer Which) (e : Bool) → Numbered f → which_numbers (which_answer f) e ≡ choice_told f e
choice_tells (answered First) e k = refl
choice_tells (answered Second) e k = refl
choice_tells (refused n z) e k = ap (λ (i : ℕ). (i, z, 0, cond e 1 0)) k.told

module _ (a b : Bor (List ℕ)) {equal : Bool} (equal_is : equal ≡ same_bytes a.now b.now) where
  chooses : {chosen : Result Which Refusal × Bor (List ℕ)} {which : Result Which Refusal} {part : Bor (List ℕ)} → chosen ≡ (which, part) → (f : Answer Which)
      → copy_found a.now b.now ≡ f → which ≡ which_answer f → part.now ≡ part_of a.now b.now f
      → Chooses a.now b.now (record { which = chosen.0; part = chosen.1; equal = equal })
  chooses {chosen} {which} {part} k f e ew ep =
      let w : chosen.0 ≡ which_answer (copy_found a.now b.now) = ap (λ (x : Result Which Refusal × Bor (List ℕ)). x.0) k ∙ ew ∙ ap which_answer (sym e) in
      record {
        which = w;
        equal = equal_is;
        numbers = ap₂ which_numbers w equal_is ∙ choice_tells (copy_found a.now b.now) (same_bytes a.now b.now) (choice_numbered (map_read a.now) (map_read b.now) (map_numbered a.now));
        part = ap (λ (x : Result Which Refusal × Bor (List ℕ)). x.1.now) k ∙ ep ∙ sym (ap (part_of a.now b.now) e);
      }

  pub first_chosen : {c : Result Geometry Refusal} {g : Geometry} → c ≡ checked a.now → c ≡ Ok g
      → {chosen : Result Which Refusal × Bor (List ℕ)} → chosen ≡ (Ok First, a) → Chooses a.now b.now (record { which = chosen.0; part = chosen.1; equal = equal })
  first_chosen e k h =
      chooses h (answered First) (ap (λ (r : Answer (List (List Entry))). or_else r (map_read b.now)) (accepted_by {m = a.now} e k).read) refl refl

  module _ {c : Result Geometry Refusal} {r : Refusal} (e : c ≡ checked a.now) (k : c ≡ Err r) {d : Result Geometry Refusal} (f : d ≡ checked b.now) where
    refused_first : map_read a.now ≡ refused (number r.reason) r.zone
    refused_first = read_refused (geometry_of a.now) (map_read a.now) r (map_numbered a.now) (sym e ∙ k)

    pub second_chosen : {g : Geometry} → d ≡ Ok g
        → {chosen : Result Which Refusal × Bor (List ℕ)} → chosen ≡ (Ok Second, b) → Chooses a.now b.now (record { which = chosen.0; part = chosen.1; equal = equal })
    second_chosen l h = chooses h (answered Second) (ap₂ or_else refused_first (accepted_by {m = b.now} f l).read) refl refl

    pub none_chosen : {s : Refusal} → d ≡ Err s
        → {chosen : Result Which Refusal × Bor (List ℕ)} {part : Bor (List ℕ)} → part.now ≡ [] → chosen ≡ (Err r, part)
        → Chooses a.now b.now (record { which = chosen.0; part = chosen.1; equal = equal })
    none_chosen {s} l ep h =
        chooses h (refused (number r.reason) r.zone)
        (ap₂ or_else refused_first (read_refused (geometry_of b.now) (map_read b.now) s (map_numbered b.now) (sym f ∙ l))) (ap Err (sym (same_refusal r))) ep

-- one copy over the other
copy_tells : (f : Answer (List ℕ)) → Numbered f → copy_numbers (copy_answer f) ≡ copy_told f
copy_tells (refused n z) k = ap (λ (i : ℕ). (i, z)) k.told
copy_tells (answered bytes) k = refl

module _ (source target : List ℕ) where
  copies_over : {r : Result (Unit {0}) Refusal} {after : List ℕ} (f : Answer (List ℕ)) → copy_judged source target ≡ f → r ≡ copy_answer f → after ≡ target_after target f
      → CopiesOver source target r after
  copies_over {r} f e er ea =
      let answer : r ≡ copy_answer (copy_judged source target) = er ∙ ap copy_answer (sym e) in
      record {
        answer = answer;
        numbers =
            ap copy_numbers answer
            ∙ copy_tells (copy_judged source target)
            (then_numbered _ (map_numbered source) (λ ess. unless_numbered (eqb (length target) (length source)) 1 refl no_refusal));
        bytes = ea ∙ ap (target_after target) (sym e);
      }

  module _ {c : Result Geometry Refusal} (e : c ≡ checked source) where
    pub source_refused : {r : Refusal} → c ≡ Err r → {q : Result (Unit {0}) Refusal} → IsErr q × IsErrAnd q (λ y. y ≡ r) → CopiesOver source target q target
    source_refused {r} k {q} h =
        copies_over (refused (number r.reason) r.zone)
        (map_refused source (λ ess. unless (eqb (length target) (length source)) 1 (answered source)) e k) (handed_on q h ∙ ap Err (sym (same_refusal r))) refl

    module _ {g : Geometry} (k : c ≡ Ok g) where
      by_length : copy_judged source target ≡ unless (eqb (length target) (length source)) 1 (answered source)
      by_length = map_read_law {m = source} (accepted_by e k) (λ x ess. unless (eqb (length target) (length source)) 1 (answered source))

      pub other_length : {r : Refusal} → r ≡ refusal 1 0 → (length target ≡ length source → ⊥) → CopiesOver source target (Err r) target
      other_length er n = copies_over (refused 1 0) (by_length ∙ rw (ne_eqb (length target) (length source) n)) (ap Err er) refl

      pub copy_done : {after : List ℕ} → length target ≡ length source → after ≡ source → CopiesOver source target (Ok tt) after
      copy_done l ea = copies_over (answered source) (by_length ∙ rw (eq-eqb (length target) (length source) l)) refl ea

-- where the copies lie
addresses_tell : (f : Answer Addresses) → Numbered f → addresses_numbers (addresses_answer f) ≡ addresses_told f
addresses_tell (refused n z) k = ap (λ (i : ℕ). (i, z, 0, 0)) k.told
addresses_tell (answered l) k = refl

module _ (m : List ℕ) where
  tells_addresses : {r : Result Addresses Refusal} (f : Answer Addresses) → addresses_found m ≡ f → r ≡ addresses_answer f → TellsAddresses m r
  tells_addresses {r} f e er =
      let answer : r ≡ addresses_answer (addresses_found m) = er ∙ ap addresses_answer (sym e) in
      record { answer = answer; numbers = ap addresses_numbers answer ∙ addresses_tell (addresses_found m) (then_numbered _ (map_numbered m) (λ ess. no_refusal)) }

  module _ {c : Result Geometry Refusal} (e : c ≡ checked m) where
    pub map_not_read : {r : Refusal} → c ≡ Err r → {q : Result Addresses Refusal} → IsErr q × IsErrAnd q (λ y. y ≡ r) → TellsAddresses m q
    map_not_read {r} k {q} h =
        tells_addresses (refused (number r.reason) r.zone) (map_refused m (λ ess. answered (copies_of (geometry_of m))) e k) (handed_on q h ∙ ap Err (sym (same_refusal r)))

    pub copies_told : {g : Geometry} {l : Addresses} → c ≡ Ok g → l ≡ copies_of g → TellsAddresses m (Ok l)
    copies_told {g} k el = tells_addresses (answered (copies_of g)) (map_read_law {m = m} (accepted_by e k) (λ x ess. answered (copies_of x))) (ap Ok el)
