-- The answers of an address, case by case: the check's refusal, 8, 10, 16, and where the byte lies. An object's pieces are those
-- from its start zone on and then those before it, and all of them have less than 2^42 bytes.
use mathlib.Core.Path.{◌≡◌, refl, sym, ap, ◌∙◌, subst⁻¹}
use mathlib.Core.List.{List, [], ◌∷◌, ◌++◌}
use Prim.Native.Nat.{ℕ, ◌+◌, ◌-◌, ◌*◌, ◌/◌, ◌<◌, ◌≤◌}
use native.Mathlib.Nat.{mul-le-mul}
use native.Mathlib.Omega.{arith}
use borrow.Author.Tests.{lt-ltb, le-ltb, eq-eqb, ne_eqb}
use Rattle.std.specs.Prelude.{Result, Err}
use Rattle.std.specs.Result.{IsErr, IsErrAnd}
use Rattle.geometry.specs.declared.Geometry.{Geometry}
use Rattle.geometry.specs.declared.Refusal.{Refusal}
use Rattle.geometry.specs.Record.{geometry_of}
use Rattle.geometry.specs.Places.{disc_bits}
use Rattle.geometry.specs.Answers.{number, refusal, start_of}
use Rattle.geometry.proofs.DiscBits.{disc_bits_small}
use Rattle.geometry.proofs.Reasons.{same_refusal}
use Rattle.geometry.proofs.Results.{handed_on}
use Rattle.model.specs.Chain.{Pair}
use Rattle.model.specs.Answer.{Answer, refused, answered}
use Rattle.model.specs.Pieces.{pieces_of_zones, object_pairs}
use Rattle.model.proofs.Numbered.{Numbered, no_refusal, refused_by, unless_numbered, then_numbered, map_numbered}
use Rattle.map.specs.Accepted.{AcceptedMap}
use Rattle.map.specs.Checked.{checked}
use Rattle.walk.specs.HeldBy.{held_from, held_in_order}
use Rattle.listing.specs.Listed.{present}
use Rattle.listing.proofs.Ascend.{map_apart}
use Rattle.listing.proofs.Answers.{map_refused, map_read_law, no_id, Object, all_held, no_pieces, some_pieces}
use Rattle.address.specs.declared.Location.{Location}
use Rattle.address.specs.Address.{start_offset, Sought, at, past, locate, within, number_fits, location_read, location_found, address_answer, address_numbers, address_told, Reaches}
use Rattle.address.specs.Refusals.{total_length}
use Rattle.address.proofs.SeekOn.{total_append, total_apart, locate_past}

-- each refusal has a number of the table, so an answer tells its numbers
present_numbered : (qs : List Pair) → Numbered (present qs)
present_numbered [] = refused_by 10 refl
present_numbered (q ∷ qs) = no_refusal

within_numbered : (s : Sought Location) → Numbered (within s)
within_numbered (at l) = no_refusal
within_numbered (past i) = refused_by 16 refl

numbers_told : (f : Answer Location) → Numbered f → address_numbers (address_answer f) ≡ address_told f
numbers_told (refused n z) k = ap (λ (i : ℕ). (i, z, 0, 0)) k.told
numbers_told (answered l) k = refl

module _ (m : List ℕ) (n position : ℕ) where
  abbrev g : Geometry
  g = geometry_of m

  location_numbered : Numbered (location_found m n position)
  location_numbered =
      then_numbered (location_read g n position) (map_numbered m)
      (λ ess. unless_numbered (number_fits g n) 8 refl
      (then_numbered (λ qs. within (locate g.unit qs (start_offset g n + position))) (present_numbered (object_pairs g (n / 256) (pieces_of_zones g 0 ess)))
      (λ qs. within_numbered (locate g.unit qs (start_offset g n + position)))))

  pub reaches : {q : Result Location Refusal} → q ≡ address_answer (location_found m n position) → Reaches m n position q
  reaches e = record { answer = e; numbers = ap address_numbers e ∙ numbers_told (location_found m n position) location_numbered }

  -- a refusal, and one that a `?` hands on
  pub refusal_reaches : (k z : ℕ) {r : Refusal} → location_found m n position ≡ refused k z → r ≡ refusal k z → Reaches m n position (Err r)
  refusal_reaches k z e er = reaches (ap Err er ∙ ap address_answer (sym e))

  pub handed_reaches : (k z : ℕ) {r : Refusal} → location_found m n position ≡ refused k z → r ≡ refusal k z
      → {q : Result Location Refusal} → IsErr q × IsErrAnd q (λ y. y ≡ r) → Reaches m n position q
  handed_reaches k z e er {q} h = subst⁻¹ (Reaches m n position) (handed_on q h) (refusal_reaches k z e er)

  pub check_refuses : {c : Result Geometry Refusal} {r : Refusal} → c ≡ checked m → c ≡ Err r
      → {q : Result Location Refusal} → IsErr q × IsErrAnd q (λ y. y ≡ r) → Reaches m n position q
  check_refuses {r = r} e k h = handed_reaches (number r.reason) r.zone (map_refused m (location_read g n position) e k) (sym (same_refusal r)) h

-- on an accepted map
module _ {m : List ℕ} {g : Geometry} (a : AcceptedMap m g) (n position : ℕ) where
  location_read_law : location_found m n position ≡ location_read g n position a.zones
  location_read_law = map_read_law a (λ (x : Geometry). location_read x n position)

  -- 8: the edition, the number, and the id
  pub edition_refused : g.version ≡ 1 → {r : Refusal} → r ≡ refusal 8 0 → Reaches m n position (Err r)
  edition_refused v er = refusal_reaches m n position 8 0 (location_read_law ∙ rw (eq-eqb g.version 1 v)) er

  module _ (v : g.version ≡ 1 → ⊥) where
    pub number_high : 16777216 ≤ n → {r : Refusal} → r ≡ refusal 8 0 → Reaches m n position (Err r)
    number_high h er = refusal_reaches m n position 8 0 (location_read_law ∙ rw (ne_eqb g.version 1 v, le-ltb n 16777216 h)) er

    pub start_refused : n < 16777216 → {r : Refusal} → start_of g 2 (n / 256) ≡ Err r
        → {q : Result Location Refusal} → IsErr q × IsErrAnd q (λ y. y ≡ r) → Reaches m n position q
    start_refused low e h =
        let k = no_id g 2 (n / 256) _ e in
        handed_reaches m n position 8 0 (location_read_law ∙ rw (ne_eqb g.version 1 v, lt-ltb n 16777216 low) k.0) k.1 h

-- a number that is a file's
module _ {m : List ℕ} {g : Geometry} (n position : ℕ) {s count : ℕ} (o : Object m g 2 (n / 256) s count) (v : g.version ≡ 1 → ⊥) (low : n < 16777216) where
  abbrev byte : List Pair → Answer Location
  byte qs = within (locate g.unit qs (start_offset g n + position))

  -- 10
  pub no_object : count ≡ 0 → {r : Refusal} → r ≡ refusal 10 0 → Reaches m n position (Err r)
  no_object h er =
      refusal_reaches m n position 10 0 (location_read_law o.accepted n position ∙ rw (ne_eqb g.version 1 v, lt-ltb n 16777216 low) (no_pieces o byte h)) er

  module _ (some : count ≡ 0 → ⊥) where
    object_there : location_found m n position ≡ byte (held_in_order g (n / 256) m s)
    object_there =
        location_read_law o.accepted n position ∙ rw (ne_eqb g.version 1 v, lt-ltb n 16777216 low) (some_pieces o byte some)

    -- 16
    pub past_object : 4398046511104 ≤ position → {r : Refusal} → r ≡ refusal 16 0 → Reaches m n position (Err r)
    past_object h er =
        let late : List Pair = held_from g (n / 256) m s (g.zones - s) in
        let early : List Pair = held_from g (n / 256) m 0 s in
        let all : List Pair = held_from g (n / 256) m 0 g.zones in
        let ok = o.accepted.readable.numbers in
        let t : total_length (late ++ early) ≤ 534773760 =
        omega (arith, total_append late early, ap total_length (all_held o) ∙ total_append early late, total_apart 0 (disc_bits g) all (map_apart o.accepted (n / 256)), disc_bits_small g ok) in
        let l : total_length (late ++ early) * g.unit ≤ start_offset g n + position = omega (arith, mul-le-mul t ok.unit_high) in
        refusal_reaches m n position 16 0 (object_there ∙ ap within (locate_past g.unit (late ++ early) (start_offset g n + position) l)) er

    -- where it lies
    pub object_sought : {offset : ℕ} → offset ≡ start_offset g n → {q : Result Location Refusal}
        → q ≡ address_answer (within (locate g.unit (held_in_order g (n / 256) m s) (offset + position))) → Reaches m n position q
    object_sought e eq =
        reaches m n position (eq ∙ ap (λ (x : ℕ). address_answer (within (locate g.unit (held_in_order g (n / 256) m s) (x + position)))) e ∙ ap address_answer (sym object_there))
