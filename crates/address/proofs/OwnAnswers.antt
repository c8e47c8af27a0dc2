-- The laws of the call's own answers: an answer says that the byte is there (`ByTable`), so it was sought and found; and a byte that is
-- found is answered.
use mathlib.Core.Path.{◌≡◌, refl, sym, ap, ◌∙◌, subst}
use mathlib.Core.Bool.{Bool, true, false}
use mathlib.Core.List.{List, [], ◌∷◌}
use mathlib.Core.Logic.{inl, inr}
use Prim.Native.Nat.{ℕ, ◌+◌, ◌*◌, ◌/◌, ◌^◌, ◌<◌, ◌≤◌}
use native.Mathlib.Omega.{arith}
use lib.Dec.{ltb}
use lib.ListN.{length, get_or}
use lib.Pow.{pow_mono}
use borrow.Author.Tests.{ltb-true, ltb-false}
use Rattle.bits.proofs.Tests.{by_test}
use Rattle.geometry.specs.declared.Geometry.{Geometry}
use Rattle.geometry.specs.Record.{version_of, geometry_of}
use Rattle.geometry.specs.Ranges.{longest_id}
use Rattle.model.specs.Answer.{Answer, refused, answered, unless, and_then}
use Rattle.model.specs.Chain.{Pair, Entry}
use Rattle.model.specs.Rules.{MapRules}
use Rattle.model.specs.Check.{map_read}
use Rattle.model.specs.Pieces.{pieces_of_zones, object_pairs}
use Rattle.model.specs.Shown.{zones_in, listed_on}
use Rattle.model.specs.Refusals.{by_lines}
use Rattle.model.proofs.LinesJudged.{table_answered, not_answered, same_answer}
use Rattle.listing.specs.Listed.{present, object_found}
use Rattle.listing.specs.Laws.{Place, piece, in_piece}
use Rattle.listing.proofs.Hits.{hit_somewhere}
use Rattle.listing.proofs.Cover.{covers}
use Rattle.listing.proofs.OwnAnswers.{shown, list_shows}
use Rattle.address.specs.declared.Location.{Location}
use Rattle.address.specs.Address.{id_of, start_offset, at, locate, address_sought, seek, within, number_fits, location_read, location_found, address_found}
use Rattle.address.specs.Refusals.{joined, bytes_long, byte_address, byte_location}
use Rattle.address.proofs.Bounds.{whole_object}
use Rattle.address.proofs.ByTable.{fits, address_by_table}
use Rattle.address.proofs.Joined.{never_at, same_byte, length_total, located, joined_found, joined_ends}
use Rattle.address.proofs.OneToOne.{seek_hit, object_one_to_one}
use Rattle.address.proofs.DiscEnd.{object_on_disc}

-- In version 0 an object's number with low byte 0 is an internal number: its id has at most 15 bits
number_low : (m : List ℕ) → MapRules m → version_of m ≡ 0 → (id : ℕ) → id < (geometry_of m).ids * (geometry_of m).zones → id * 256 < 16777216
number_low m w v id h =
    let l : (geometry_of m).idlen ≤ 15 = subst (λ (x : ℕ). (geometry_of m).idlen ≤ longest_id x) v w.record_rules.fields.idlen_high in
    let p : 2 ^ (geometry_of m).idlen ≤ 2 ^ 15 = pow_mono {i = (geometry_of m).idlen} {j = 15} l in
    omega (arith, w.record_rules.together.enough_ids)

-- and byte i of its file is byte i of the object
file_byte : (m : List ℕ) (id i : ℕ)
    → seek (geometry_of m).unit (listed_on m (id_of (id * 256))) (start_offset (geometry_of m) (id * 256) + i) ≡ seek (geometry_of m).unit (listed_on m id) i
file_byte m id i =
    let e : id_of (id * 256) ≡ id = omega arith in
    let o : start_offset (geometry_of m) (id * 256) + i ≡ i = omega (arith, whole_object (geometry_of m) id) in
    λ t. seek (geometry_of m).unit (listed_on m (e t)) (o t)

module _ (m : List ℕ) where
  abbrev g : Geometry
  g = geometry_of m

  -- what an answer says
  pub record Located (n position : ℕ) (l : Location) : Type 0 where
    pub rules : MapRules m
    pub not_1 : id_of n ≡ 1 → ⊥
    pub below : start_offset (geometry_of m) n + position < length (joined (geometry_of m).unit (listed_on m (id_of n)))
    pub value : l ≡ byte_location m n position
    pub byte : locate (geometry_of m).unit (listed_on m (id_of n)) (start_offset (geometry_of m) n + position) ≡ at l

  pub is_located : (n position : ℕ) (l : Location) → location_found m n position ≡ answered l → Located n position l
  is_located n position l e =
      let v = table_answered (address_by_table m n position) e in
      let qs : List Pair = listed_on m (id_of n) in
      let i : ℕ = start_offset g n + position in
      let b : i < length (joined g.unit qs) =
      by_test (ltb i (bytes_long m (id_of n)))
      (λ t. omega (arith, ltb-true i (bytes_long m (id_of n)) t, length_total g.unit qs))
      (λ t. absurd (v.none_given.1.1.0 0 (refl, ltb-false i (bytes_long m (id_of n)) t))) in
      record {
        rules = v.rules;
        not_1 = λ k. v.none_given.0 0 (refl, inr (inl (λ r. omega (arith, r.0))));
        below = b;
        value = v.value;
        byte = located g.unit qs i b ∙ ap at (sym v.value);
      }

  -- what an address says that is answered
  pub record Found (n position a : ℕ) : Type 0 where
    pub location : Location
    pub answer : location_found m n position ≡ answered location
    pub known : Located n position location
    pub same : location.address ≡ a
    pub sought : seek (geometry_of m).unit (listed_on m (id_of n)) (start_offset (geometry_of m) n + position) ≡ at a

  pub found : (n position a : ℕ) → address_found m n position ≡ answered a → Found n position a
  found n position a e = go (location_found m n position) refl e
    where
      go : (f : Answer Location) → location_found m n position ≡ f → and_then f (λ (l : Location). answered l.address) ≡ answered a → Found n position a
      go (refused k z) r u = absurd (not_answered u)
      go (answered l) r u =
          let k = is_located n position l r in
          record { location = l; answer = r; known = k; same = same_answer u; sought = ap address_sought k.byte ∙ ap at (same_answer u) }

  -- a byte that is found is answered
  pub answers : (n position a : ℕ) → MapRules m → (g.version ≡ 1 → ⊥) → n < 16777216 → 2 ≤ id_of n → id_of n < g.ids * g.zones
      → seek g.unit (listed_on m (id_of n)) (start_offset g n + position) ≡ at a → address_found m n position ≡ answered a
  answers n position a w v low l h e =
      let qs : List Pair = listed_on m (id_of n) in
      let i : ℕ = start_offset g n + position in
      let b : i < length (joined g.unit qs) = joined_ends g.unit qs i a e in
      let same : byte_address m n position ≡ a = same_byte (byte_address m n position) a (sym (joined_found g.unit qs i b) ∙ e) in
      let f : location_found m n position ≡ answered (byte_location m n position) =
      (address_by_table m n position).only (answered (byte_location m n position))
      (by_lines _ w
      (inr (
        (λ z p. fits g n v low (l, h) p.1),
        inr (
          (λ z p. never_at i a (sym (ap (λ (x : List Pair). seek g.unit x i) p.1) ∙ e)),
          inr ((λ z p. omega (arith, p.1, length_total g.unit qs)), refl),
        ),
      ))) in
      ap (λ x. and_then x (λ (k : Location). answered k.address)) f ∙ ap answered same

  -- in version 0, every byte of an object from 2 on
  pub object_answers : MapRules m → version_of m ≡ 0 → (id : ℕ) → 2 ≤ id → id < g.ids * g.zones
      → (i a : ℕ) → seek g.unit (listed_on m id) i ≡ at a → address_found m (id * 256) i ≡ answered a
  object_answers w v id l h i a e =
      let d : id_of (id * 256) ≡ id = omega arith in
      let old : g.version ≡ 1 → ⊥ = λ p. omega arith in
      answers (id * 256) i a w old (number_low m w v id h) (omega arith) (omega arith) (file_byte m id i ∙ e)

  -- the same file asked elsewhere: only the position counts
  module _ (n position : ℕ) (l : Location) where
    abbrev byte_at : ℕ → List Pair → Answer Location
    byte_at i qs = within (locate g.unit qs (start_offset g n + i))

    on_pairs : (i : ℕ) (b : Bool) (qs : List Pair) → unless b 8 (and_then (present qs) (byte_at position)) ≡ answered l → unless b 8 (and_then (present qs) (byte_at i)) ≡ byte_at i qs
    on_pairs i false qs e = absurd (not_answered e)
    on_pairs i true [] e = absurd (not_answered e)
    on_pairs i true (q ∷ qs) e = refl

    on_zones : (i : ℕ) (r : Answer (List (List Entry))) → and_then r (location_read g n position) ≡ answered l
        → and_then r (location_read g n i) ≡ byte_at i (object_pairs g (id_of n) (pieces_of_zones g 0 (zones_in r)))
    on_zones i (refused k z) e = absurd (not_answered e)
    on_zones i (answered ess) e = on_pairs i (number_fits g n) (object_pairs g (id_of n) (pieces_of_zones g 0 ess)) e

    pub asked_again : location_found m n position ≡ answered l → (i : ℕ) → location_found m n i ≡ within (locate g.unit (listed_on m (id_of n)) (start_offset g n + i))
    asked_again e i = on_zones i (map_read m) e

  -- the byte of the object as `list` answers it
  pub answer_is_byte : (n position a : ℕ) → address_found m n position ≡ answered a → (room : ℕ) (qs : List Pair) → object_found m (id_of n) room ≡ answered qs
      → (start_offset g n + position < length (joined g.unit qs)) × (a ≡ get_or (joined g.unit qs) (start_offset g n + position) 0)
  answer_is_byte n position a e room qs el =
      let f = found n position a e in
      let k : listed_on m (id_of n) ≡ qs = sym (list_shows m (id_of n) room qs el) in
      let v : a ≡ byte_address m n position = sym f.same ∙ ap (λ (l : Location). l.address) f.known.value in
      subst (λ (x : List Pair). (start_offset g n + position < length (joined g.unit x)) × (a ≡ get_or (joined g.unit x) (start_offset g n + position) 0)) k (f.known.below, v)

  same_object : (i j x y : ℕ) → piece i x ≡ piece j y → i ≡ j
  same_object i j x y e = cc

  -- two bytes at one address are one byte of one object
  pub one_byte : (n k i j a : ℕ) → address_found m n i ≡ answered a → address_found m k j ≡ answered a → (id_of n ≡ id_of k) × (start_offset g n + i ≡ start_offset g k + j)
  one_byte n k i j a e u =
      let p = found n i a e in
      let q = found k j a u in
      let s = shown m p.known.rules in
      let some : 0 < g.unit = omega (arith, s.readable.numbers.unit_low) in
      let d : ℕ = a / g.unit in
      let x = hit_somewhere d (listed_on m (id_of n)) (seek_hit g.unit some (listed_on m (id_of n)) (start_offset g n + i) a p.sought) in
      let y = hit_somewhere d (listed_on m (id_of k)) (seek_hit g.unit some (listed_on m (id_of k)) (start_offset g k + j) a q.sought) in
      let v : Place = piece (id_of n) x.0 in
      let w : Place = piece (id_of k) y.0 in
      let o : id_of n ≡ id_of k = same_object (id_of n) (id_of k) x.0 y.0 ((covers s).once d v w (in_piece (id_of n) x.1 x.0 x.2 x.3) (in_piece (id_of k) y.1 y.0 y.2 y.3)) in (
        o,
        object_one_to_one s (id_of n) (start_offset g n + i) (start_offset g k + j) a p.sought
            (ap (λ (id : ℕ). seek g.unit (listed_on m id) (start_offset g k + j)) o ∙ q.sought),
      )

  pub answer_on_disc : (n position a : ℕ) → address_found m n position ≡ answered a → a < g.size
  answer_on_disc n position a e =
      let f = found n position a e in
      object_on_disc (shown m f.known.rules) (id_of n) (start_offset g n + position) a f.known.not_1 f.sought
