-- What holds of the lists of an accepted map (demand 2). Assumes nothing.
use Rattle.std.specs.Prelude.{◌≡◌, List, [], ◌∷◌, ◌++◌, ℕ, suc, ◌+◌, ◌-◌, ◌*◌, ◌<◌, ◌≤◌}
use Rattle.geometry.specs.declared.Geometry.{Geometry}
use Rattle.geometry.specs.Record.{geometry_of, geometry_from, eight_zones}
use Rattle.geometry.specs.Places.{disc_bits, start_zone, disc_bit}
use Rattle.model.specs.Chain.{Pair, Within, Entry}
use Rattle.model.specs.Answer.{answered}
use Rattle.model.specs.Check.{map_read}
use Rattle.model.specs.Rules.{MapRules}
use Rattle.model.specs.Pieces.{Piece, pieces_of_zones, object_pairs, InObjectOrder, free_spans}
use Rattle.model.specs.Shown.{listed_on, spans_on}
use Rattle.model.specs.Refusals.{ByTable, Exactly}
use Rattle.walk.specs.HeldBy.{held_from}
use Rattle.listing.specs.Listed.{object_found, free_found}
use Rattle.listing.specs.Refusals.{list_lines, free_lines}

-- a pair stands at a place of a list
pub data At : Pair → ℕ → List Pair → Type 0 where
  first : {q : Pair} {qs : List Pair} → At q 0 (q ∷ qs)
  later : {q p : Pair} {i : ℕ} {qs : List Pair} → At q i qs → At q (suc i) (p ∷ qs)

-- where a bit lies: in the i-th free span, or in the i-th piece of an object
pub data Place : Type 0 where
  span : ℕ → Place
  piece : ℕ → ℕ → Place

module _ (g : Geometry) (ess : List (List Entry)) where
  pub data LiesIn (d : ℕ) : Place → Type 0 where
    in_span : (q : Pair) (i : ℕ) → At q i (free_spans g 0 ess) → Within q d → LiesIn d (span i)
    in_piece : (id : ℕ) (q : Pair) (i : ℕ) → At q i (object_pairs g id (pieces_of_zones g 0 ess)) → Within q d → LiesIn d (piece id i)

  -- "Free spans and objects together cover every allocation bit once"
  pub record Covers : Type 0 where
    pub somewhere : (d : ℕ) → d < disc_bits g → (p : Place) × LiesIn d p
    pub once : (d : ℕ) (p q : Place) → LiesIn d p → LiesIn d q → p ≡ q

-- The same as the calls answer: a bit lies in the i-th span that `free` answers, or in the i-th piece that `list` answers for an object.
module _ (m : List ℕ) where
  pub data AnsweredIn (d : ℕ) : Place → Type 0 where
    by_free : (room : ℕ) (qs : List Pair) → free_found m room ≡ answered qs → (q : Pair) (i : ℕ) → At q i qs → Within q d → AnsweredIn d (span i)
    by_list : (id room : ℕ) (qs : List Pair) → object_found m id room ≡ answered qs → (q : Pair) (i : ℕ) → At q i qs → Within q d → AnsweredIn d (piece id i)

  pub record AnswersCover : Type 0 where
    pub somewhere : (d : ℕ) → d < disc_bits (geometry_of m) → (p : Place) × AnsweredIn d p
    pub once : (d : ℕ) (p q : Place) → AnsweredIn d p → AnsweredIn d q → p ≡ q
    -- "owned by their id, which lies from 1 to P*nzones - 1": an owner is an object that `list` answers for
    pub owner : (d id i : ℕ) → AnsweredIn d (piece id i) → (1 ≤ id) × (id < (geometry_of m).ids * (geometry_of m).zones)

pub record ListingLaws : Type 0 where
  -- the calls answer what their lines of the table say, in its order, and nothing else: each refusal "exactly when"
  pub list_by_table : (m : List ℕ) (id room : ℕ) → Exactly (ByTable m (list_lines m id room) (listed_on m id)) (object_found m id room)
  pub free_by_table : (m : List ℕ) (room : ℕ) → Exactly (ByTable m (free_lines m room) (spans_on m)) (free_found m room)
  -- what the calls answer is what the map shows, whatever the room
  pub list_shows : (m : List ℕ) (id room : ℕ) (qs : List Pair) → object_found m id room ≡ answered qs → qs ≡ listed_on m id
  pub free_shows : (m : List ℕ) (room : ℕ) (qs : List Pair) → free_found m room ≡ answered qs → qs ≡ spans_on m
  -- so the answers cover every bit once, ascend, and stand in object order
  pub answers_cover : (m : List ℕ) → MapRules m → AnswersCover m
  pub free_answer_ascends : (m : List ℕ) (room : ℕ) (qs : List Pair) → free_found m room ≡ answered qs
      → (i j : ℕ) (p q : Pair) → i < j → At p i qs → At q j qs → p.start + p.len ≤ q.start
  pub list_answer_in_order : (m : List ℕ) (id room : ℕ) (qs : List Pair) → object_found m id room ≡ answered qs
      → (i j : ℕ) (p q : Pair) → i < j → At p i qs → At q j qs → InObjectOrder (geometry_of m) (start_zone (geometry_of m) id) p q
  -- every object that is there has an id that `list` answers for
  pub owner_in_range : (m : List ℕ) → MapRules m → (id : ℕ) → (listed_on m id ≡ [] → ⊥) → (1 ≤ id) × (id < (geometry_of m).ids * (geometry_of m).zones)
  -- the same of what was read
  pub cover : (m : List ℕ) (ess : List (List Entry)) → map_read m ≡ answered ess → Covers (geometry_of m) ess
  -- "take all its fragments [of the start zone] in ascending order, then later zones, then from zone 0"
  pub in_object_order : (m : List ℕ) (ess : List (List Entry)) → map_read m ≡ answered ess
      → (id : ℕ) → 1 ≤ id → start_zone (geometry_of m) id ≤ (geometry_of m).zones
      → object_pairs (geometry_of m) id (pieces_of_zones (geometry_of m) 0 ess)
      ≡ held_from (geometry_of m) id m (start_zone (geometry_of m) id) ((geometry_of m).zones - start_zone (geometry_of m) id)
      ++ held_from (geometry_of m) id m 0 (start_zone (geometry_of m) id)
  -- the free spans are those of zone 0, then of the later zones
  pub free_by_zone : (m : List ℕ) (ess : List (List Entry)) → map_read m ≡ answered ess
      → free_spans (geometry_of m) 0 ess ≡ held_from (geometry_of m) 0 m 0 (geometry_of m).zones
  -- "Free spans ascend": each ends before the next one starts
  pub spans_ascend : (m : List ℕ) (ess : List (List Entry)) → map_read m ≡ answered ess → (i j : ℕ) (p q : Pair) → i < j
      → At p i (free_spans (geometry_of m) 0 ess) → At q j (free_spans (geometry_of m) 0 ess) → p.start + p.len ≤ q.start
  -- and an object's pieces in object order: ascending from the start zone on, then ascending in the zones before it
  pub pieces_ascend : (m : List ℕ) (ess : List (List Entry)) → map_read m ≡ answered ess → (id i j : ℕ) (p q : Pair) → i < j
      → At p i (object_pairs (geometry_of m) id (pieces_of_zones (geometry_of m) 0 ess))
      → At q j (object_pairs (geometry_of m) id (pieces_of_zones (geometry_of m) 0 ess))
      → InObjectOrder (geometry_of m) (start_zone (geometry_of m) id) p q
  -- document 000's object 690, 168 ids per zone: fragments in zones 0 0 0 2 3 4 4 6 come in the order 4 4 6 0 0 0 2 3
  pub object_690 : let g = geometry_from eight_zones in
      let at : ℕ → ℕ → Piece = λ z b. record { at = record { start = disc_bit g z b; len = 12 }; owner = 690 } in
      let pair : ℕ → ℕ → Pair = λ z b. record { start = disc_bit g z b; len = 12 } in
      object_pairs g 690 (at 0 600 ∷ at 0 700 ∷ at 0 800 ∷ at 2 100 ∷ at 3 100 ∷ at 4 100 ∷ at 4 200 ∷ at 6 100 ∷ [])
      ≡ pair 4 100 ∷ pair 4 200 ∷ pair 6 100 ∷ pair 0 600 ∷ pair 0 700 ∷ pair 0 800 ∷ pair 2 100 ∷ pair 3 100 ∷ []
