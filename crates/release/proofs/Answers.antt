-- The answers of a release, case by case: the check's refusal, 8, 9, and what the listing told, with the map as it was or as the
-- object left it.
use mathlib.Core.Path.{◌≡◌, refl, sym, ap, ◌∙◌, subst, subst⁻¹}
use mathlib.Core.Bool.{true, false}
use mathlib.Core.List.{List, ◌++◌}
use mathlib.Core.Option.{none}
use Prim.Native.Nat.{ℕ, ◌*◌, ◌≤◌}
use native.Mathlib.Omega.{arith}
use lib.ListN.{length, take, drop, length-append}
use lib.Seq.{take_at}
use Rattle.std.specs.Prelude.{Result, Ok, Err, Some}
use Rattle.std.specs.Result.{IsErr, IsErrAnd}
use Rattle.geometry.specs.declared.Geometry.{Geometry}
use Rattle.geometry.specs.declared.Refusal.{Refusal}
use Rattle.geometry.specs.Answers.{number, refusal}
use Rattle.geometry.proofs.Results.{handed_on}
use Rattle.model.specs.Answer.{Answer, refused, answered}
use Rattle.model.specs.Chain.{Pair, numbers_of, touching}
use Rattle.model.specs.Shown.{zones_of, pieces_on, object_on}
use Rattle.model.proofs.Lists.{length_numbers}
use Rattle.model.proofs.Numbered.{told_by}
use Rattle.map.specs.Accepted.{AcceptedMap}
use Rattle.map.specs.Checked.{checked}
use Rattle.walk.specs.Touching.{touching_of}
use Rattle.listing.specs.Listed.{object_found, list_answer, list_after, Lists}
use Rattle.listing.proofs.Answers.{refusal_lists}
use Rattle.edits.specs.Edits.{takes}
use Rattle.edits.specs.Judge.{editable, judge, pairs_from}
use Rattle.edits.specs.Judge as call
use Rattle.edits.specs.Steps.{outcome, pairs_told, bytes_after}
use Rattle.edits.specs.EditableMap.{EditableMap}
use Rattle.edits.proofs.EditableMap.{map_pieces}
use Rattle.edits.proofs.Outcomes.{check_refused, id_refused, touching_refused, judged_told}
use Rattle.edits.proofs.Returned.{pairs_numbers}
use Rattle.writer.specs.Edited.{edit_of, EditAsks, edited_map}
use Rattle.release.specs.Released.{Releases}
use Rattle.release.proofs.ListedVerdict.{listing, verdict_of, judged_as_listed, told_back, nothing_written, Found, found_told, found_is, object_fits}

refusal_releases : {m : List ℕ} {id : ℕ} {old : List ℕ} {r : Refusal} → outcome m (call.release id (length old)) ≡ refused (number r.reason) r.zone → Releases m id old (Err r) m old
refusal_releases {m} {id} {old} e = record { lists = refusal_lists old (ap pairs_told e); bytes = sym (ap (bytes_after m) e) }

pub check_refuses : (m : List ℕ) (id : ℕ) (old : List ℕ) {c : Result Geometry Refusal} {r : Refusal} → c ≡ checked m → c ≡ Err r
    → {q : Result ℕ Refusal} → IsErr q × IsErrAnd q (λ y. y ≡ r) → Releases m id old q m old
check_refuses m id old {r = r} e k {q} h =
    subst⁻¹ (λ (x : Result ℕ Refusal). Releases m id old x m old) (handed_on q h) (refusal_releases (check_refused m (call.release id (length old)) r (sym e ∙ k)))

module _ {m : List ℕ} {g : Geometry} (a : AcceptedMap m g) (id : ℕ) (old : List ℕ) where
  -- 8
  pub not_named : {r : Refusal} → r ≡ refusal 8 0 → editable g id ≡ false → Releases m id old (Err r) m old
  not_named er e = refusal_releases (told_by 8 refl (id_refused a (call.release id (length old)) e) er)

  -- 9
  pub touching_refuses : editable g id ≡ true → (z : ℕ) → touching_of (touching 0 (zones_of m)) ≡ Some z → Releases m id old (Err (refusal 9 z)) m old
  touching_refuses e z t = refusal_releases (touching_refused a (call.release id (length old)) e z t)

-- on a map that edits work on, with an id that they name: r is what the listing answers, and the lent list becomes `new`
pub record Listing (m : List ℕ) (g : Geometry) (id : ℕ) (old new : List ℕ) (r : Result ℕ Refusal) : Type 0 where
  pub sound : EditableMap m g
  pub named : editable g id ≡ true
  pub lists : Lists (object_found m id (length old)) old r new

-- the answer and the list are the listing's
module _ {m : List ℕ} {g : Geometry} {id : ℕ} {old new : List ℕ} {r : Result ℕ Refusal} (l : Listing m g id old new r) where
  abbrev room : ℕ
  room = length old

  abbrev qs : List Pair
  qs = object_on g m id

  found : object_found m id (length old) ≡ listing (length old) (object_on g m id)
  found = found_is l.sound id room l.named

  told : {x : Result ℕ Refusal} → r ≡ x → list_answer (listing (length old) (object_on g m id)) ≡ x
  told t = ap list_answer (sym found) ∙ sym l.lists.answer ∙ t

  verdict : judge g none (pieces_on g m) (call.release id (length old)) ≡ verdict_of id (listing (length old) (object_on g m id))
  verdict = judged_as_listed g (pieces_on g m) id room l.named

  outcome_is : outcome m (call.release id (length old)) ≡ verdict_of id (listing (length old) (object_on g m id))
  outcome_is = judged_told l.sound (call.release id room) (verdict_of id (listing room qs)) verdict

  same_lists : Lists (pairs_told (outcome m (call.release id (length old)))) old r new
  same_lists =
      subst⁻¹ (λ (f : Answer (List Pair)). Lists f old r new) (ap pairs_told outcome_is ∙ told_back id (listing room qs) ∙ sym found) l.lists

  -- 10 and 17 leave the map as it was
  pub listing_refuses : {y : Refusal} → r ≡ Err y → {q : Result ℕ Refusal} → IsErr q × IsErrAnd q (λ x. x ≡ y) → Releases m id old q m new
  listing_refuses t {q} h =
      subst (λ (x : Result ℕ Refusal). Releases m id old x m new) (t ∙ sym (handed_on q h))
      (record { lists = same_lists; bytes = sym (ap (bytes_after m) outcome_is ∙ nothing_written m id (listing room qs) (told t)) })

  module _ {n : ℕ} (t : r ≡ Ok n) where
    is_found : Found (length old) (object_on g m id) n
    is_found = found_told room qs n (told t)

    new_is : new ≡ numbers_of (object_on g m id) ++ drop (2 * length (object_on g m id)) old
    new_is = l.lists.list ∙ ap (list_after old) (found ∙ is_found.told)

    pub pairs_inside : 2 * n ≤ length new
    pairs_inside = omega (arith, is_found.count, length_numbers qs, ap length new_is ∙ length-append (numbers_of qs) (drop (2 * length qs) old))

    -- the pairs are the first of the list
    pairs_first : take (2 * n) new ≡ numbers_of (object_on g m id)
    pairs_first =
        ap (take (2 * n)) new_is ∙ take_at (numbers_of qs) (drop (2 * length qs) old) (2 * n) (omega (arith, length_numbers qs, is_found.count))

    edit_judged : judge g none (pieces_on g m) (call.release id (length old)) ≡ answered (takes id (pairs_from (take (2 * n) new)))
    edit_judged =
        verdict ∙ ap (verdict_of id) is_found.told ∙ ap (λ (ps : List Pair). answered (takes id ps)) (sym (ap pairs_from pairs_first ∙ pairs_numbers qs))

    -- so the edit can be made: an object's pairs are in its order
    pub edit_asks : EditAsks m g id (take (2 * n) new) 0
    edit_asks = record {
      editable = l.sound;
      one_way = λ k. absurd (k refl);
      ordered = record { object = id; fits = rw pairs_first (object_fits l.sound.accepted.readable.numbers (map_pieces l.sound) id is_found.some) };
      call = call.release id room;
      judged = edit_judged;
    }

    pub listing_releases : (after : List ℕ) → after ≡ edited_map m (edit_of id (pairs_from (take (2 * n) new)) 0) → Releases m id old (Ok n) after new
    listing_releases after w =
        subst (λ (x : Result ℕ Refusal). Releases m id old x after new) t
        (record { lists = same_lists; bytes = w ∙ sym (ap (bytes_after m) (judged_told l.sound (call.release id room) _ edit_judged)) })
