-- The answers of a place, case by case: the check's refusal, 8, 9, 11, 12, 13, each with the map as it was, and done with the map
-- after the step.
use mathlib.Core.Path.{◌≡◌, refl, sym, ap, ◌∙◌, subst⁻¹}
use mathlib.Core.Bool.{Bool, true, false}
use mathlib.Core.List.{List}
use mathlib.Core.Option.{none}
use Prim.Native.Nat.{ℕ, ◌*◌}
use native.Mathlib.Omega.{arith}
use lib.Dec.{eqb, ltb, leb}
use lib.ListN.{length}
use borrow.Author.Tests.{eq-eqb, ne_eqb, ltb-true}
use Rattle.std.specs.Prelude.{Result, Ok, Err, Some}
use Rattle.std.specs.Result.{IsErr, IsErrAnd}
use Rattle.bits.proofs.Tests.{both}
use Rattle.geometry.specs.declared.Geometry.{Geometry}
use Rattle.geometry.specs.declared.Refusal.{Refusal}
use Rattle.geometry.specs.Places.{start_zone, id_from}
use Rattle.geometry.specs.Answers.{number, reason_of, refusal, start_of}
use Rattle.geometry.proofs.Starts.{start_in_range, named, not_named}
use Rattle.geometry.proofs.Reasons.{same_refusal}
use Rattle.geometry.proofs.Results.{handed_on}
use Rattle.model.specs.Answer.{refused, answered}
use Rattle.model.specs.Chain.{touching}
use Rattle.model.specs.Pieces.{pieces_of}
use Rattle.model.specs.Shown.{zones_of, pieces_on}
use Rattle.model.proofs.Numbered.{told_by}
use Rattle.map.specs.Checked.{checked}
use Rattle.map.specs.Accepted.{AcceptedMap}
use Rattle.walk.specs.HeldBy.{held_from}
use Rattle.walk.specs.Touching.{touching_of}
use Rattle.edits.specs.Edits.{gives, give}
use Rattle.edits.specs.Holes.{all_apart}
use Rattle.edits.specs.Judge.{is_empty, editable, list_fits, judge, pairs_from}
use Rattle.edits.specs.Judge as judged
use Rattle.edits.specs.Steps.{outcome, bytes_after}
use Rattle.edits.specs.EditableMap.{EditableMap}
use Rattle.edits.proofs.PiecesKept.{editable_from}
use Rattle.edits.proofs.Outcomes.{check_refused, id_refused, touching_refused, judged_told}
use Rattle.writer.specs.Parts.{list_fits_from}
use Rattle.writer.specs.Edited.{edit_of, EditAsks, edited_map}
use Rattle.writer.proofs.ListOrder.{list_fits_is}
use Rattle.place.specs.Placed.{place_answer, place_told, Places}
use Rattle.place.specs.Asked.{PlaceAsks}
use Rattle.place.proofs.Absent.{absent_is}
use Rattle.place.proofs.ZonesJudged.{some_id}

refusal_places : {m list : List ℕ} {id : ℕ} {r : Refusal} → outcome m (judged.place id list) ≡ refused (number r.reason) r.zone → Places m id list (Err r) m
refusal_places {m} {r = r} e =
    record { answer = ap Err (sym (same_refusal r)) ∙ sym (ap place_answer e); numbers = sym (ap place_told e); bytes = sym (ap (bytes_after m) e) }

-- one that a `?` hands on
handed : {m list : List ℕ} {id : ℕ} (r : Refusal) → outcome m (judged.place id list) ≡ refused (number r.reason) r.zone
    → {q : Result (Unit {0}) Refusal} → IsErr q × IsErrAnd q (λ y. y ≡ r) → Places m id list q m
handed {m} {list} {id} r e {q} h = subst⁻¹ (λ (x : Result (Unit {0}) Refusal). Places m id list x m) (handed_on q h) (refusal_places e)

pub check_refuses : (m : List ℕ) (id : ℕ) (list : List ℕ) {c : Result Geometry Refusal} {r : Refusal} → c ≡ checked m → c ≡ Err r
    → {q : Result (Unit {0}) Refusal} → IsErr q × IsErrAnd q (λ y. y ≡ r) → Places m id list q m
check_refuses m id list {r = r} e k h = handed r (check_refused m (judged.place id list) r (sym e ∙ k)) h

module _ {m : List ℕ} {g : Geometry} (a : AcceptedMap m g) (id : ℕ) (list : List ℕ) where
  -- 8
  pub start_refuses : {r : Refusal} → start_of g 3 id ≡ Err r → {q : Result (Unit {0}) Refusal} → IsErr q × IsErrAnd q (λ y. y ≡ r) → Places m id list q m
  start_refuses {r} e h =
      let k = not_named (id_from 3 g id) (start_zone g id) r e in
      handed r (told_by 8 refl (id_refused a (judged.place id list) k.0) k.1) h

  -- 9
  pub touching_refuses : {s : ℕ} → start_of g 3 id ≡ Ok s → (z : ℕ) → touching_of (touching 0 (zones_of m)) ≡ Some z → Places m id list (Err (refusal 9 z)) m
  touching_refuses {s} e z t =
      refusal_places (touching_refused a (judged.place id list) (named (id_from 3 g id) (start_zone g id) s e).0 z t)

-- on a map that edits work on: an id that they name starts in zone s and has n pieces
pub record Counted (m : List ℕ) (g : Geometry) (id s n : ℕ) : Type 0 where
  pub sound : EditableMap m g
  pub starts : start_of g 3 id ≡ Ok s
  pub count : n ≡ length (held_from g id m 0 g.zones)

module _ {m : List ℕ} {g : Geometry} {id s n : ℕ} (k : Counted m g id s n) (list : List ℕ) where
  is_named : (editable g id ≡ true) × (s ≡ start_zone g id)
  is_named = named (id_from 3 g id) (start_zone g id) s k.starts

  absent : is_empty (pieces_of id (pieces_on g m)) ≡ eqb n 0
  absent =
      let l = editable_from g id is_named.0 in
      let u = ltb-true id (g.ids * g.zones) (both (leb 3 id) (ltb id (g.ids * g.zones)) is_named.0).1 in
      absent_is k.sound.accepted id (omega arith) (omega (arith, start_in_range g id (omega arith) u)) k.count

  refuses : {r : Refusal} (i : ℕ) → number (reason_of i) ≡ i → r ≡ refusal i 0 → judge g none (pieces_on g m) (judged.place id list) ≡ refused i 0 → Places m id list (Err r) m
  refuses i t er v = refusal_places (told_by i t (judged_told k.sound (judged.place id list) (refused i 0) v) er)

  -- 11: "id already on the map"
  pub object_refuses : (n ≡ 0 → ⊥) → {r : Refusal} → r ≡ refusal 11 0 → Places m id list (Err r) m
  object_refuses h er = refuses 11 refl er (rw (is_named.0, absent ∙ ne_eqb n 0 h))

  module _ (h : n ≡ 0) {fits : Bool} (ef : fits ≡ list_fits_from g s list) where
    fits_is : fits ≡ list_fits g id list
    fits_is = ef ∙ list_fits_is g id s list is_named.1

    -- 12
    pub list_refuses : fits ≡ false → {r : Refusal} → r ≡ refusal 12 0 → Places m id list (Err r) m
    list_refuses t er = refuses 12 refl er (rw (is_named.0, absent ∙ eq-eqb n 0 h, sym fits_is ∙ t))

    pub place_asks : fits ≡ true → PlaceAsks m g id list
    place_asks t = record { editable = k.sound; named = is_named.0; absent = absent ∙ eq-eqb n 0 h; fits = sym fits_is ∙ t }

-- 13, or done
module _ {m : List ℕ} {g : Geometry} {id : ℕ} {list : List ℕ} (q : PlaceAsks m g id list) {fits : Bool} (ef : fits ≡ all_apart g 0 g.zones (give id (pairs_from list) (pieces_on g m))) where
  pub no_room : fits ≡ false → {r : Refusal} → r ≡ refusal 13 0 → Places m id list (Err r) m
  no_room t er =
      refusal_places (told_by 13 refl (judged_told q.editable (judged.place id list) (refused 13 0) (rw (q.named, q.absent, q.fits, sym ef ∙ t))) er)

  module _ (t : fits ≡ true) where
    room : judge g none (pieces_on g m) (judged.place id list) ≡ answered (gives id (pairs_from list))
    room = rw (q.named, q.absent, q.fits, sym ef ∙ t)

    edit_is : edit_of 0 (pairs_from list) id ≡ gives id (pairs_from list)
    edit_is = rw (ne_eqb id 0 (some_id q))

    pub edit_asks : EditAsks m g 0 list id
    edit_asks = record {
      editable = q.editable;
      one_way = λ n. refl;
      ordered = record { object = id; fits = q.fits };
      call = judged.place id list;
      judged = room ∙ ap answered (sym edit_is);
    }

    pub done_places : (after : List ℕ) → after ≡ edited_map m (edit_of 0 (pairs_from list) id) → Places m id list (Ok tt) after
    done_places after e =
        let o = judged_told q.editable (judged.place id list) (answered (gives id (pairs_from list))) room in
        record { answer = sym (ap place_answer o); numbers = sym (ap place_told o); bytes = e ∙ ap (edited_map m) edit_is ∙ sym (ap (bytes_after m) o) }
