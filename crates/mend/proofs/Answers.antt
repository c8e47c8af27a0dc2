-- The answers of the two calls, case by case: by what the check found, and for the positions by the room that the list has.
use mathlib.Core.Path.{◌≡◌, refl, sym, ap, ◌∙◌}
use mathlib.Core.List.{List, [], ◌∷◌, ◌++◌}
use Prim.Native.Nat.{ℕ, ◌<◌, ◌≤◌}
use native.Mathlib.Omega.{arith}
use lib.Dec.{leb}
use lib.ListN.{length}
use lib.Seq.{sets}
use borrow.Author.Tests.{le-leb, lt-leb}
use Rattle.geometry.specs.declared.Geometry.{Geometry}
use Rattle.geometry.specs.declared.Refusal.{Refusal}
use Rattle.geometry.specs.Answers.{number, refusal}
use Rattle.geometry.specs.Record.{geometry_of}
use Rattle.model.specs.Answer.{Answer, refused, answered, unless, and_then}
use Rattle.model.specs.Chain.{Entry}
use Rattle.model.specs.Check.{mend_read}
use Rattle.map.specs.Accepted.{MendableMap}
use Rattle.map.specs.Checked.{mend_checked}
use Rattle.std.specs.Prelude.{Result, Ok, Err}
use Rattle.std.specs.Result.{IsErr, IsErrAnd}
use Rattle.geometry.proofs.Results.{handed_on}
use Rattle.geometry.proofs.Reasons.{same_refusal}
use Rattle.model.proofs.Numbered.{mend_numbered}
use Rattle.map.proofs.Accepts.{mendable}
use Rattle.map.proofs.Answers.{read_refused}
use Rattle.listing.proofs.Stored.{stored_front}
use Rattle.mended.specs.Mended.{mended_by, mended, changed_at, positions_found}
use Rattle.mend.specs.Mends.{mend_answer, mend_numbers, mend_told, Mending, positions_answer, positions_numbers, positions_told, positions_after, ListsChanges}

-- an empty part of a list that was lent: the list is as it was
pub none_lent : (new old : List ℕ) → length new ≡ 0 → new ++ old ≡ old
none_lent [] old h = refl
none_lent (x ∷ new) old h = absurd (omega arith)

module _ (m : List ℕ) {c : Result Geometry Refusal} (e : c ≡ mend_checked m) where
  pub mendable_by : {g : Geometry} → c ≡ Ok g → MendableMap m g
  mendable_by {g} k = mendable m g (sym e ∙ k)

  refused_by : {r : Refusal} → c ≡ Err r → mend_read m ≡ refused (number r.reason) r.zone
  refused_by {r} k = read_refused (geometry_of m) (mend_read m) r (mend_numbered m) (sym e ∙ k)

  -- mending
  pub mend_refused : {r : Refusal} → c ≡ Err r → Mending m (Err r) m
  mend_refused {r} k =
      let f = refused_by k in
      record {
        answer = ap Err (sym (same_refusal r)) ∙ sym (ap mend_answer f);
        numbers = sym (ap mend_told f);
        bytes = ap (mended_by m) (sym f);
      }

  pub mend_done : {g : Geometry} → c ≡ Ok g → {after : List ℕ} → after ≡ mended m → Mending m (Ok tt) after
  mend_done k ea = let q = sym (mendable_by k).read in record { answer = ap mend_answer q; numbers = ap mend_told q; bytes = ea }

  -- the positions
  module _ (old : List ℕ) where
    lists_changes : {after : List ℕ} {r : Result ℕ Refusal} (f : Answer (List ℕ)) → positions_found m (length old) ≡ f → r ≡ positions_answer f → positions_numbers r ≡ positions_told f
        → after ≡ positions_after old f → ListsChanges m old r after
    lists_changes f q er en ea = record {
      answer = er ∙ sym (ap positions_answer q);
      numbers = en ∙ sym (ap positions_told q);
      list = ea ∙ sym (ap (positions_after old) q);
    }

    abbrev judged : Answer (List (List Entry)) → Answer (List ℕ)
    judged q = and_then q (λ (ess : List (List Entry)). unless (leb (length (changed_at m)) (length old)) 17 (answered (changed_at m)))

    pub positions_refused : {r : Refusal} → c ≡ Err r → {q : Result ℕ Refusal} → IsErr q × IsErrAnd q (λ y. y ≡ r) → ListsChanges m old q old
    positions_refused {r} k {q} h =
        let e : q ≡ Err r = handed_on q h in
        lists_changes (refused (number r.reason) r.zone) (ap judged (refused_by k)) (e ∙ ap Err (sym (same_refusal r))) (ap positions_numbers e) refl

    module _ {g : Geometry} (k : c ≡ Ok g) {now : List ℕ} (same : now ≡ old) {n : ℕ} (count : n ≡ length (changed_at m)) where
      by_room : positions_found m (length old) ≡ unless (leb (length (changed_at m)) (length old)) 17 (answered (changed_at m))
      by_room = ap judged (mendable_by k).read

      pub too_few : {r : Refusal} → r ≡ refusal 17 0 → length now < n → ListsChanges m old (Err r) now
      too_few er l =
          lists_changes (refused 17 0) (by_room ∙ rw (lt-leb (length (changed_at m)) (length old) (omega (arith, ap length same, count))))
          (ap Err er) (ap (λ (x : Refusal). (number x.reason, x.zone, 0)) er) same

      pub positions_listed : {after : List ℕ} → n ≤ length now → after ≡ sets now 0 (changed_at m) → ListsChanges m old (Ok n) after
      positions_listed l ea =
          let fits : length (changed_at m) ≤ length old = omega (arith, ap length same, count) in
          lists_changes (answered (changed_at m)) (by_room ∙ rw (le-leb (length (changed_at m)) (length old) fits))
          (ap Ok count) (ap (λ (x : ℕ). (0, 0, x)) count)
          (ea ∙ ap (λ (x : List ℕ). sets x 0 (changed_at m)) same ∙ stored_front (changed_at m) old fits)
