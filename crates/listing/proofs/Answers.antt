-- The answers of the two calls, case by case: the check's refusal, 8, 10, 17, and the pairs. A refusal leaves the list as it
-- was; the pairs are stored from its first entry on. What `address` and `sweep` say alike is said here for any answer.
use mathlib.Core.Path.{◌≡◌, refl, sym, ap, ◌∙◌, subst⁻¹}
use mathlib.Core.Bool.{true}
use mathlib.Core.List.{List, [], ◌∷◌, ◌++◌}
use Prim.Native.Nat.{ℕ, ◌+◌, ◌-◌, ◌*◌, ◌/◌, ◌<◌, ◌≤◌}
use native.Mathlib.Nat.{sub-zero}
use native.Mathlib.Omega.{arith}
use lib.Dec.{leb, ltb}
use lib.ListN.{length, length-append}
use lib.Seq.{sets}
use borrow.Author.Tests.{le-leb, lt-leb, leb-true, ltb-true}
use Rattle.bits.proofs.Tests.{both}
use Rattle.geometry.specs.declared.Geometry.{Geometry}
use Rattle.geometry.specs.declared.Refusal.{Refusal}
use Rattle.std.specs.Prelude.{Result, Ok, Err}
use Rattle.std.specs.Result.{IsErr, IsErrAnd}
use Rattle.geometry.proofs.Results.{handed_on}
use Rattle.geometry.proofs.Reasons.{same_refusal}
use Rattle.model.proofs.Numbered.{map_numbered, told_by}
use Rattle.geometry.specs.Record.{geometry_of}
use Rattle.geometry.specs.Places.{id_from, start_zone}
use Rattle.geometry.specs.Answers.{number, refusal, start_of}
use Rattle.geometry.proofs.Starts.{start_in_range, named, not_named}
use Rattle.model.specs.Answer.{Answer, refused, answered, unless, and_then}
use Rattle.model.specs.Chain.{Entry, Pair, numbers_of}
use Rattle.model.specs.Check.{map_read}
use Rattle.model.specs.Pieces.{free_spans, pieces_of_zones, object_pairs}
use Rattle.map.specs.Accepted.{AcceptedMap}
use Rattle.map.specs.Checked.{checked}
use Rattle.map.proofs.Accepts.{accepts}
use Rattle.map.proofs.Answers.{read_refused}
use Rattle.walk.specs.HeldBy.{held_from}
use Rattle.listing.specs.Listed.{with_room, present, object_read, object_found, free_found, list_numbers, Lists}
use Rattle.listing.proofs.Stored.{stored_append, stored_first}
use Rattle.walk.proofs.HeldZones.{held_all}
use Rattle.listing.proofs.FreeHeld.{free_spans_law}
use Rattle.listing.proofs.ObjectOrder.{in_object_order}

-- what is found, and the answer
pub refusal_lists : {f : Answer (List Pair)} (old : List ℕ) {r : Refusal} → f ≡ refused (number r.reason) r.zone → Lists f old (Err r) old
refusal_lists old {r} e = rw e (record { answer = ap Err (sym (same_refusal r)); numbers = refl; list = refl })

-- a refusal that a `?` hands on
pub handed : {f : Answer (List Pair)} {old : List ℕ} (r : Refusal) → f ≡ refused (number r.reason) r.zone
    → {q : Result ℕ Refusal} → IsErr q × IsErrAnd q (λ y. y ≡ r) → Lists f old q old
handed {f} {old} r e {q} h = subst⁻¹ (λ (x : Result ℕ Refusal). Lists f old x old) (handed_on q h) (refusal_lists old e)

pub pairs_list : {f : Answer (List Pair)} (old : List ℕ) {new : List ℕ} {n : ℕ} (qs : List Pair) → f ≡ answered qs → n ≡ length qs → 2 * length qs ≤ length old → new ≡ sets old 0 (numbers_of qs)
    → Lists f old (Ok n) new
pairs_list old qs e en h es = rw e (record { answer = ap Ok en; numbers = ap (λ (n : ℕ). list_numbers (Ok n)) en; list = es ∙ stored_first qs old h })

-- 17 is told where the pairs do not fit
pub too_few : (room n : ℕ) (qs : List Pair) → n ≡ length qs → room / 2 < n → with_room room qs ≡ refused 17 0
too_few room n qs e h = rw (lt-leb (2 * length qs) room (omega arith))

pub enough : (room n : ℕ) (qs : List Pair) → n ≡ length qs → n ≤ room / 2 → with_room room qs ≡ answered qs
enough room n qs e h = rw (le-leb (2 * length qs) room (omega arith))

-- how a call starts: the check's answer c accepts the map, or the call refuses as the check does
pub accepted_by : {m : List ℕ} {g : Geometry} {c : Result Geometry Refusal} → c ≡ checked m → c ≡ Ok g → AcceptedMap m g
accepted_by {m} {g} e k = accepts m g (sym e ∙ k)

module _ {A : Type 0} where
  pub map_refused : (m : List ℕ) (f : List (List Entry) → Answer A) {c : Result Geometry Refusal} {r : Refusal} → c ≡ checked m → c ≡ Err r → and_then (map_read m) f ≡ refused (number r.reason) r.zone
  map_refused m f {r = r} e k = ap (λ (x : Answer (List (List Entry))). and_then x f) (read_refused (geometry_of m) (map_read m) r (map_numbered m) (sym e ∙ k))

  pub map_read_law : {m : List ℕ} {g : Geometry} (a : AcceptedMap m g) (f : Geometry → List (List Entry) → Answer A) → and_then (map_read m) (f (geometry_of m)) ≡ f g a.zones
  map_read_law a f = (λ i. and_then (a.read i) (f (sym a.geometry i)))

  -- 10 is told where there are no pairs
  pub absent : (f : List Pair → Answer A) (qs : List Pair) → length qs ≡ 0 → and_then (present qs) f ≡ refused 10 0
  absent f [] k = refl
  absent f (q ∷ qs) k = absurd (omega arith)

  pub there : (f : List Pair → Answer A) (qs : List Pair) → (length qs ≡ 0 → ⊥) → and_then (present qs) f ≡ f qs
  there f [] k = absurd (k refl)
  there f (q ∷ qs) k = refl

pub refused_by_check : (m old : List ℕ) (f : List (List Entry) → Answer (List Pair)) {c : Result Geometry Refusal} {r : Refusal} → c ≡ checked m → c ≡ Err r
    → {q : Result ℕ Refusal} → IsErr q × IsErrAnd q (λ y. y ≡ r) → Lists (and_then (map_read m) f) old q old
refused_by_check m old f {r = r} e k h = handed r (map_refused m f e k) h

-- the free spans
module _ {m : List ℕ} {g : Geometry} (a : AcceptedMap m g) (old : List ℕ) {n : ℕ} (count : n ≡ length (held_from g 0 m 0 g.zones)) where
  abbrev spans : List Pair
  spans = held_from g 0 m 0 g.zones

  free_found_law : free_found m (length old) ≡ with_room (length old) spans
  free_found_law = map_read_law a (λ (x : Geometry) (ess : List (List Entry)). with_room (length old) (free_spans x 0 ess)) ∙ ap (with_room (length old)) (free_spans_law a)

  pub few_for_free : length old / 2 < n → {r : Refusal} → r ≡ refusal 17 0 → Lists (free_found m (length old)) old (Err r) old
  few_for_free h er = refusal_lists old (told_by 17 refl (free_found_law ∙ too_few (length old) n spans count h) er)

  module _ (fits : n ≤ length old / 2) where
    pub free_fits : 0 + 2 * length (held_from g 0 m 0 (g.zones - 0)) ≤ length old
    free_fits = omega (arith, count, ap (λ (k : ℕ). length (held_from g 0 m 0 k)) (sub-zero g.zones))

    pub free_listed : {new : List ℕ} → new ≡ sets old 0 (numbers_of (held_from g 0 m 0 (g.zones - 0))) → Lists (free_found m (length old)) old (Ok n) new
    free_listed e =
        pairs_list old spans (free_found_law ∙ enough (length old) n spans count fits) count (omega arith) (e ∙ ap (λ (k : ℕ). sets old 0 (numbers_of (held_from g 0 m 0 k))) (sub-zero g.zones))

-- 8, as the start zone tells it
pub no_id : {A : Type 0} (g : Geometry) (low id : ℕ) (q : Answer A) {r : Refusal} → start_of g low id ≡ Err r → (unless (id_from low g id) 8 q ≡ refused 8 0) × (r ≡ refusal 8 0)
no_id g low id q {r} e = let k = not_named (id_from low g id) (start_zone g id) r e in (rw k.0, k.1)

-- an object of an accepted map, with an id from `low` on, that starts in zone s and has n fragments
pub record Object (m : List ℕ) (g : Geometry) (low id s n : ℕ) : Type 0 where
  pub accepted : AcceptedMap m g
  pub some : 1 ≤ low
  pub starts : start_of g low id ≡ Ok s
  pub count : n ≡ length (held_from g id m 0 g.zones)

-- its pieces are those of the zones from s on, and then those of the zones before it
module _ {m : List ℕ} {g : Geometry} {low id s n : ℕ} (o : Object m g low id s n) where
  abbrev late_held : List Pair
  late_held = held_from g id m s (g.zones - s)

  abbrev early_held : List Pair
  early_held = held_from g id m 0 s

  is_named : (id_from low g id ≡ true) × (s ≡ start_zone g id)
  is_named = named (id_from low g id) (start_zone g id) s o.starts

  in_range : (1 ≤ id) × (id < g.ids * g.zones)
  in_range =
      let t = both (leb low id) (ltb id (g.ids * g.zones)) is_named.0 in
      (omega (arith, o.some, leb-true low id t.0), ltb-true id (g.ids * g.zones) t.1)

  pub start_inside : s ≤ g.zones
  start_inside = omega (arith, is_named.1, start_in_range g id in_range.0 in_range.1)

  pub all_held : held_from g id m 0 g.zones ≡ early_held ++ late_held
  all_held = held_all g id m s g.zones start_inside

  count_parts : n ≡ length late_held + length early_held
  count_parts = omega (arith, o.count, ap length all_held ∙ length-append early_held late_held)

  count_all : n ≡ length (late_held ++ early_held)
  count_all = omega (arith, count_parts, length-append late_held early_held)

  -- 10, and what follows where there are any
  module _ {A : Type 0} (f : List Pair → Answer A) where
    abbrev judged : Answer A
    judged = unless (id_from low g id) 8 (and_then (present (object_pairs g id (pieces_of_zones g 0 o.accepted.zones))) f)

    found_pieces : judged ≡ and_then (present (late_held ++ early_held)) f
    found_pieces =
        let e : object_pairs g id (pieces_of_zones g 0 o.accepted.zones) ≡ late_held ++ early_held =
        in_object_order o.accepted id in_range.0 (omega (arith, is_named.1, start_inside))
        ∙ ap (λ (x : ℕ). held_from g id m x (g.zones - x) ++ held_from g id m 0 x) (sym is_named.1) in
        rw is_named.0 (ap (λ (x : List Pair). and_then (present x) f) e)

    pub no_pieces : n ≡ 0 → judged ≡ refused 10 0
    no_pieces h = found_pieces ∙ absent f (late_held ++ early_held) (sym count_all ∙ h)

    pub some_pieces : (n ≡ 0 → ⊥) → judged ≡ f (late_held ++ early_held)
    some_pieces k = found_pieces ∙ there f (late_held ++ early_held) (λ h. k (count_all ∙ h))

object_read_law : {m : List ℕ} {g : Geometry} (a : AcceptedMap m g) (id room : ℕ) → object_found m id room ≡ object_read g id room a.zones
object_read_law a id room = map_read_law a (λ (x : Geometry). object_read x id room)

pub start_refused : {m : List ℕ} {g : Geometry} (a : AcceptedMap m g) (id : ℕ) {old : List ℕ} {r : Refusal} → start_of g 1 id ≡ Err r
    → {q : Result ℕ Refusal} → IsErr q × IsErrAnd q (λ y. y ≡ r) → Lists (object_found m id (length old)) old q old
start_refused {g = g} a id {old} {r} e h =
    let k = no_id g 1 id (and_then (present (object_pairs g id (pieces_of_zones g 0 a.zones))) (with_room (length old))) e in
    handed r (told_by 8 refl (object_read_law a id (length old) ∙ k.0) k.1) h

module _ {m : List ℕ} {g : Geometry} {id s n : ℕ} (o : Object m g 1 id s n) (old : List ℕ) where
  pub no_object : n ≡ 0 → {r : Refusal} → r ≡ refusal 10 0 → Lists (object_found m id (length old)) old (Err r) old
  no_object h er = refusal_lists old (told_by 10 refl (object_read_law o.accepted id (length old) ∙ no_pieces o (with_room (length old)) h) er)

  module _ (some : n ≡ 0 → ⊥) where
    object_there : object_found m id (length old) ≡ with_room (length old) (late_held o ++ early_held o)
    object_there = object_read_law o.accepted id (length old) ∙ some_pieces o (with_room (length old)) some

    pub few_for_object : length old / 2 < n → {r : Refusal} → r ≡ refusal 17 0 → Lists (object_found m id (length old)) old (Err r) old
    few_for_object h er = refusal_lists old (told_by 17 refl (object_there ∙ too_few (length old) n (late_held o ++ early_held o) (count_all o) h) er)

    module _ (fits : n ≤ length old / 2) where
      pub late_fits : 0 + 2 * length (late_held o) ≤ length old
      late_fits = omega (arith, count_parts o)

      pub early_fits : (mid : List ℕ) {at : ℕ} → length mid ≡ length old → at ≡ 0 + 2 * length (late_held o) → at + 2 * length (held_from g id m 0 (s - 0)) ≤ length mid
      early_fits mid el ea = omega (arith, count_parts o, ap (λ (k : ℕ). length (held_from g id m 0 k)) (sub-zero s))

      pub object_listed : {mid new : List ℕ} {at : ℕ} → mid ≡ sets old 0 (numbers_of (late_held o)) → at ≡ 0 + 2 * length (late_held o)
          → new ≡ sets mid at (numbers_of (held_from g id m 0 (s - 0))) → Lists (object_found m id (length old)) old (Ok n) new
      object_listed em ea en =
          pairs_list old (late_held o ++ early_held o) (object_there ∙ enough (length old) n (late_held o ++ early_held o) (count_all o) fits) (count_all o) (omega (arith, count_all o))
          (en ∙ (λ i. sets (em i) (ea i) (numbers_of (held_from g id m 0 (sub-zero s i)))) ∙ sym (stored_append (late_held o) (early_held o) old 0))
