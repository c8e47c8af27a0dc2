-- What is taken, listed: 17 where there are too few entries, or the pairs, stored from the first entry on. Of several holes the pieces on both sides of
-- the id's start zone, one side stored after the other, are the pairs in object order.
use mathlib.Core.Path.{◌≡◌, refl, sym, ap, ◌∙◌, subst⁻¹}
use mathlib.Core.Bool.{true, false}
use mathlib.Core.List.{List, [], ◌∷◌, ◌++◌}
use mathlib.Core.Option.{some}
use Prim.Native.Nat.{ℕ, ◌+◌, ◌*◌, ◌/◌, ◌<◌, ◌≤◌}
use native.Mathlib.Omega.{arith}
use lib.ListN.{length, length-append}
use lib.Seq.{sets}
use borrow.Author.Tests.{le-leb, lt-leb, ne_eqb}
use Rattle.bits.proofs.Tests.{by_test}
use Rattle.geometry.specs.declared.Geometry.{Geometry}
use Rattle.geometry.specs.declared.Refusal.{Refusal}
use Rattle.geometry.specs.Answers.{refusal}
use Rattle.std.specs.Prelude.{Result, Ok, Err}
use Rattle.geometry.specs.Places.{start_zone}
use Rattle.model.specs.Chain.{Pair, pair, numbers_of}
use Rattle.model.specs.Pieces.{keep, late, rotate}
use Rattle.split.specs.Taken.{by_size, cut_bits, take_from, by_start}
use Rattle.split.specs.Threshold.{pick_from}
use Rattle.split.proofs.Picked.{same}
use Rattle.listing.specs.Listed.{with_room, Lists}
use Rattle.listing.proofs.Stored.{stored_append}
use Rattle.model.proofs.Numbered.{told_by}
use Rattle.listing.proofs.Answers.{refusal_lists, pairs_list, too_few, enough}
use Rattle.holes.specs.declared.Threshold.{Threshold}
use Rattle.holes.specs.Passes.{holes_on, ThresholdFound, on_side}
use Rattle.holes.proofs.HoleBits.{total_small}
use Rattle.edits.specs.Edits.{own}
use Rattle.edits.specs.Judge.{in_object_order}
use Rattle.edits.specs.EditableMap.{EditableMap}
use Rattle.edits.proofs.Kept.{length_parts}
use Rattle.claim.specs.Chosen.{taken_first, SeveralTaken, ListsTaken}
use Rattle.claim.proofs.HolesFree.{free_ascend}

module _ (old : List ℕ) {n : ℕ} (qs : List Pair) (count : n ≡ length qs) where
  pub few_entries : length old / 2 < n → {r : Refusal} → r ≡ refusal 17 0 → Lists (with_room (length old) qs) old (Err r) old
  few_entries h er = refusal_lists old (told_by 17 refl (too_few (length old) n qs count h) er)

  pub pairs_listed : n ≤ length old / 2 → {new : List ℕ} → new ≡ sets old 0 (numbers_of qs) → Lists (with_room (length old) qs) old (Ok n) new
  pairs_listed h e = pairs_list old qs (enough (length old) n qs count h) count (omega arith) e

-- one pair is in any object's order
one_in_order : (g : Geometry) (id : ℕ) (q : Pair) → in_object_order g id (q ∷ []) ≡ q ∷ []
one_in_order g id q = by_test (late g id (own id q)) (λ t. simp t) (λ t. simp t)

pub one_listed : (g : Geometry) (id need start : ℕ) {len n : ℕ} (hs : List Pair) {old new : List ℕ} {r : Result ℕ Refusal} → need ≤ len → n ≡ cut_bits g.shortest need len
    → Lists (with_room (length old) (pair start n ∷ [])) old r new → ListsTaken (taken_first g.shortest need (pair start len) hs) g id old r new
one_listed g id need start {len} {n} hs {old} {new} {r} k e t = record {
  taken = pair start n ∷ [];
  taken_is = rw (le-leb need len k) (ap (λ (x : ℕ). some (pair start x ∷ [])) (sym e));
  lists = subst⁻¹ (λ (qs : List Pair). Lists (with_room (length old) qs) old r new) (one_in_order g id (pair start n)) t;
}

pub several_listed : (g : Geometry) (id need start : ℕ) {len : ℕ} (hs : List Pair) {old new : List ℕ} {r : Result ℕ Refusal} → len < need
    → ListsTaken (take_from g.shortest need (by_size hs)) g id old r new → ListsTaken (taken_first g.shortest need (pair start len) hs) g id old r new
several_listed g id need start {len} hs k t = record { taken = t.taken; taken_is = rw (lt-leb need len k) t.taken_is; lists = t.lists }

-- of several holes
module _ {m : List ℕ} {g : Geometry} (ed : EditableMap m g) {need longest : ℕ} (s : SeveralTaken (holes_on g m) need longest) {t : Threshold}
    (f : ThresholdFound need (holes_on g m) t) where
  pub rest_small : t.rest < 4294967296
  rest_small = omega (arith, f.rest, s.enough, total_small ed.accepted)

  abbrev picks : List Pair
  picks = pick_from g.shortest t.len t.rest (holes_on g m)

  takes : (qs : List Pair) × (take_from g.shortest need (by_size (holes_on g m)) ≡ some qs) × (by_start qs ≡ picks)
  takes =
      let r = same g.shortest need t.len (holes_on g m) s.some_bits (free_ascend ed) f.parts in
      (r.0, r.1, r.2 ∙ ap (λ (x : ℕ). pick_from g.shortest t.len x (holes_on g m)) (sym f.rest))

  module _ (id : ℕ) (low : 3 ≤ id) (old : List ℕ) {n : ℕ} (count : n ≡ length picks) where
    abbrev lates : List Pair
    lates = keep (on_side g (id / g.ids) true) picks

    abbrev earlies : List Pair
    earlies = keep (on_side g (id / g.ids) false) picks

    in_order : in_object_order g id takes.0 ≡ lates ++ earlies
    in_order =
        let z : start_zone g id ≡ id / g.ids = rw (ne_eqb id 2 (λ e. omega arith)) in
        ap (rotate (λ q. late g id (own id q))) takes.2 ∙ ap (λ (x : ℕ). keep (on_side g x true) picks ++ keep (on_side g x false) picks) z

    counts : n ≡ length lates + length earlies
    counts = omega (arith, length_parts (on_side g (id / g.ids) true) picks)

    lists : {r : Result ℕ Refusal} {new : List ℕ} → Lists (with_room (length old) (lates ++ earlies)) old r new
        → ListsTaken (take_from g.shortest need (by_size (holes_on g m))) g id old r new
    lists {r} {new} k = record {
      taken = takes.0;
      taken_is = takes.1;
      lists = subst⁻¹ (λ (qs : List Pair). Lists (with_room (length old) qs) old r new) in_order k;
    }

    pub few_for_several : length old / 2 < n → {r : Refusal} → r ≡ refusal 17 0
        → ListsTaken (take_from g.shortest need (by_size (holes_on g m))) g id old (Err r) old
    few_for_several h er = lists (few_entries old (lates ++ earlies) (omega (arith, counts, length-append lates earlies)) h er)

    module _ (fits : n ≤ length old / 2) where
      pub late_fits : 0 + 2 * length lates ≤ length old
      late_fits = omega (arith, counts)

      pub early_fits : (mid : List ℕ) {at : ℕ} → length mid ≡ length old → at ≡ 0 + 2 * length lates → at + 2 * length earlies ≤ length mid
      early_fits mid el ea = omega (arith, counts)

      pub pieces_listed : {mid new : List ℕ} {at : ℕ} → mid ≡ sets old 0 (numbers_of lates) → at ≡ 0 + 2 * length lates → new ≡ sets mid at (numbers_of earlies)
          → ListsTaken (take_from g.shortest need (by_size (holes_on g m))) g id old (Ok n) new
      pieces_listed em ea en =
          lists (pairs_listed old (lates ++ earlies) (omega (arith, counts, length-append lates earlies)) fits
          (en ∙ (λ i. sets (em i) (ea i) (numbers_of earlies)) ∙ sym (stored_append lates earlies old 0)))
