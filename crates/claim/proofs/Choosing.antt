-- What is found is the choice: an id for the zone of the first hole, which is that of the first pair taken, and the pairs in object order. An unused id
-- is always there.
use mathlib.Core.Path.{◌≡◌, refl, sym, ap, ap₂, ◌∙◌, subst⁻¹}
use mathlib.Core.List.{List, [], ◌∷◌}
use mathlib.Core.Option.{Option, none, some}
use Prim.Native.Nat.{ℕ, ◌*◌, ◌<◌, ◌≤◌}
use native.Mathlib.Omega.{arith}
use lib.Dec.{leb}
use lib.ListN.{length}
use Rattle.bits.proofs.Tests.{by_test}
use Rattle.geometry.specs.declared.Geometry.{Geometry}
use Rattle.geometry.specs.declared.Refusal.{Refusal}
use Rattle.geometry.specs.Answers.{refusal}
use Rattle.geometry.specs.Places.{zone_of, disc_bits}
use Rattle.model.specs.Answer.{Answer, refused, answered}
use Rattle.model.specs.Chain.{Pair}
use Rattle.model.specs.Shown.{pieces_on}
use Rattle.listing.specs.Listed.{with_room, list_answer, list_after}
use Rattle.holes.specs.Passes.{holes_on}
use Rattle.edits.specs.Edits.{Edit}
use Rattle.edits.specs.Judge.{need, taken_for, lowest_id, unused, unused_of, or_any, id_for, choice, in_object_order, choose_in, chosen, by_room, by_choice}
use Rattle.edits.specs.Steps.{pairs_told}
use Rattle.edits.specs.EditableMap.{EditableMap}
use Rattle.edits.proofs.Invariant.{some_bits, zoned_on_disc}
use Rattle.edits.proofs.EditableMap.{map_pieces}
use Rattle.edits.proofs.Chosen.{id_found, id_ordinary, need_long}
use Rattle.edits.proofs.Fourteen.{no_fourteen}
use Rattle.std.specs.Prelude.{Result, Ok, Err}
use Rattle.std.specs.Result.{IsErr, IsErrAnd}
use Rattle.geometry.proofs.Results.{handed_on}
use Rattle.claim.specs.declared.Given.{Given}
use Rattle.claim.specs.Claimed.{given_pairs, claim_answer}
use Rattle.claim.specs.Chosen.{first_taken, taken_first, SeveralTaken, ListsTaken, Chooses}
use Rattle.claim.specs.Unused.{IdChosen}
use Rattle.claim.proofs.FirstTaken.{none_taken, several, taken_is, first_zone_law, zone_inside}

-- a listing's answer with the id
abbrev pub with_id : ℕ → Result ℕ Refusal → Result Given Refusal
with_id id (Ok n) = Ok (given_pairs id n)
with_id id (Err r) = Err r

with_room_law : (id : ℕ) (qs : List Pair) (old : List ℕ)
    → (with_id id (list_answer (with_room (length old) qs)) ≡ claim_answer (by_room (length old) (choice id qs)))
    × (list_after old (with_room (length old) qs) ≡ list_after old (pairs_told (by_room (length old) (choice id qs))))
with_room_law id qs old = by_test (leb (2 * length qs) (length old)) (λ t. simp t (refl, refl)) (λ t. simp t (refl, refl))

by_found : (g : Geometry) (m : List ℕ) (size parent : ℕ) {bits : ℕ} → bits ≡ need g size → (i : Option ℕ) (o : Option (List Pair)) → lowest_id g (unused (pieces_on g m)) ≡ i
    → taken_for g (pieces_on g m) bits parent ≡ o → chosen g (pieces_on g m) size parent ≡ choose_in g (pieces_on g m) i o
by_found g m size parent e i o ei eo = ap₂ (choose_in g (pieces_on g m)) ei (ap (λ (n : ℕ). taken_for g (pieces_on g m) n parent) (sym e) ∙ eo)

-- 15
module _ {m : List ℕ} {g : Geometry} (ed : EditableMap m g) (size parent : ℕ) {bits : ℕ} (eb : bits ≡ need g size) (e : first_taken g m bits parent ≡ none) where
  chosen_none : (i : Option ℕ) → lowest_id g (unused (pieces_on g m)) ≡ i → chosen g (pieces_on g m) size parent ≡ refused 15 0
  chosen_none none k = absurd (no_fourteen g (pieces_on g m) ed.accepted.readable.numbers (map_pieces ed).fit k)
  chosen_none (some any) k = by_found g m size parent eb (some any) none k (none_taken ed bits parent e)

  pub none_chosen : (old : List ℕ) {r : Refusal} → r ≡ refusal 15 0 → Chooses (by_choice (length old) (chosen g (pieces_on g m) size parent)) old (Err r) old
  none_chosen old er = rw (chosen_none (lowest_id g (unused (pieces_on g m))) refl) (record { answer = ap Err er; list = refl })

-- the first hole that is taken for a claim of some size near a zone of the disc
pub record FirstFound (m : List ℕ) (g : Geometry) (size parent bits : ℕ) (h : Pair) : Type 0 where
  pub editable : EditableMap m g
  pub inside : parent < g.zones
  pub bits_are : bits ≡ need g size
  pub first : first_taken g m bits parent ≡ some h

module _ {m : List ℕ} {g : Geometry} {size parent bits : ℕ} {h : Pair} (f : FirstFound m g size parent bits h) where
  some_need : 0 < bits
  some_need = omega (arith, f.bits_are, need_long g size, some_bits g f.editable.accepted.readable.numbers)

  pub start_inside : zone_of g h.start < g.zones
  start_inside = zone_inside f.editable bits parent some_need h f.first f.inside

  pub start_on_disc : h.start ≤ disc_bits g
  start_on_disc = omega (arith, zoned_on_disc g h.start f.editable.accepted.readable.numbers start_inside)

  pub several_taken : h.len < bits → SeveralTaken (holes_on g m) bits h.len
  several_taken = several f.editable bits parent some_need h f.first

  module _ {id : ℕ} (i : IdChosen g (pieces_on g m) (zone_of g h.start) id) where
    pub id_low : 3 ≤ id
    id_low = omega (arith, i.chosen, (id_ordinary g (pieces_on g m) (zone_of g h.start) _ (id_found g (pieces_on g m) i.any (h ∷ []) i.any_lowest)).0)

    module _ {old new : List ℕ} {r : Result ℕ Refusal} (t : ListsTaken (taken_first g.shortest bits h (holes_on g m)) g id old r new) where
      chosen_is : chosen g (pieces_on g m) size parent ≡ answered (choice id (in_object_order g id t.taken))
      chosen_is =
          let l = pieces_on g m in
          let k = taken_is f.editable bits parent some_need h f.first ∙ t.taken_is in
          let z = first_zone_law f.editable bits parent some_need h f.first t.taken k in
          let e : id_for g l i.any t.taken ≡ id = ap (λ (x : ℕ). or_any i.any (lowest_id g (unused_of g l x))) z ∙ i.chosen in
          by_found g m size parent f.bits_are (some i.any) (some t.taken) i.any_lowest k
          ∙ ap (λ (x : ℕ). answered (choice x (in_object_order g x t.taken))) e

      pub list_chosen : {x : Result ℕ Refusal} → r ≡ x → Chooses (by_choice (length old) (chosen g (pieces_on g m) size parent)) old (with_id id x) new
      list_chosen e =
          let w = with_room_law id (in_object_order g id t.taken) old in
          let c = ap (by_choice (length old)) chosen_is in
          record {
            answer = ap (with_id id) (sym e ∙ t.lists.answer) ∙ w.0 ∙ ap claim_answer (sym c);
            list = t.lists.list ∙ w.1 ∙ ap (λ (o : Answer Edit). list_after old (pairs_told o)) (sym c);
          }

      -- a refusal that a `?` hands on
      pub refusal_chosen : {e : Refusal} → r ≡ Err e → {q : Result Given Refusal} → IsErr q × IsErrAnd q (λ y. y ≡ e)
          → Chooses (by_choice (length old) (chosen g (pieces_on g m) size parent)) old q new
      refusal_chosen e {q} k = subst⁻¹ (λ (x : Result Given Refusal). Chooses (by_choice (length old) (chosen g (pieces_on g m) size parent)) old x new) (handed_on q k) (list_chosen e)
