-- What a claim takes, in document 01's words ("Claim") and document 02's (R-6, R-8). Assumes nothing.
use Rattle.std.specs.Prelude.{◌≡◌, List, [], ◌∷◌, ◌++◌, ◌⊎◌, ◌↔◌, ℕ, ◌+◌, ◌*◌, ◌<◌, ◌≤◌, max}
use Rattle.geometry.specs.Record.{geometry_of}
use Rattle.geometry.specs.Places.{zone_of, start_zone}
use Rattle.model.specs.Chain.{Pair}
use Rattle.model.specs.Pieces.{InObjectOrder}
use Rattle.split.specs.Taken.{total}
use Rattle.edits.specs.Judge.{need}
use Rattle.edits.specs.Room.{In, Earlier}
use Rattle.model.specs.Shown.{listed_on, spans_on}
use Rattle.runs.specs.ZonesTried.{Nearer}

-- One hole: "tries it, then one below, one above, two below and so on", "holes ascending: the first hole of length at least need".
pub record NearestHole (m : List ℕ) (size parent : ℕ) (hole : Pair) : Type 0 where
  pub free : In hole (spans_on m)
  pub enough : need (geometry_of m) size ≤ hole.len
  pub nearest : (h : Pair) → In h (spans_on m) → Nearer parent (zone_of (geometry_of m) h.start) (zone_of (geometry_of m) hole.start) → h.len < need (geometry_of m) size
  pub first : (h : Pair) → Earlier h hole (spans_on m) → zone_of (geometry_of m) h.start ≡ zone_of (geometry_of m) hole.start → h.len < need (geometry_of m) size

-- All holes: "largest first, the lower disc bit first among equals".
abbrev pub Leads : Pair → Pair → Type 0
Leads h x = (x.len < h.len) ⊎ ((x.len ≡ h.len) × (h.start < x.start))

pub record LargestFirst (holes order : List Pair) : Type 0 where
  pub same_holes : (h : Pair) → In h order ↔ In h holes
  pub largest_first : (h x : Pair) → Earlier h x order → Leads h x

-- the holes that a claim may take, in the order in which it takes them: "When no hole is long enough" all of them
pub data InTurn (m : List ℕ) (size parent : ℕ) : List Pair → Type 0 where
  one : (hole : Pair) → NearestHole m size parent hole → InTurn m size parent (hole ∷ [])
  several : (order : List Pair) → ((h : Pair) → In h (spans_on m) → h.len < need (geometry_of m) size) → LargestFirst (spans_on m) order → InTurn m size parent order

-- What is taken of them: the first ones whole, and the last one.
pub record FromFront (m : List ℕ) (size : ℕ) (order taken : List Pair) : Type 0 where
  pub whole : List Pair
  pub hole : Pair
  pub behind : List Pair
  pub last : Pair
  pub holes_are : order ≡ whole ++ (hole ∷ behind)
  pub taken_are : taken ≡ whole ++ (last ∷ [])
  -- "whole while it's no longer than what remains": something remains after them, and the last one has that many bits
  pub rest : ℕ
  pub remains : total whole + rest ≡ need (geometry_of m) size
  pub some_remain : 0 < rest
  pub enough : rest ≤ hole.len
  -- "then from the start of the last one what remains (at least m), or all of it if a leftover of 1 to m-1 bits would result". Of one hole: "Take need
  -- bits from its start, or the whole hole if 1 to m-1 bits would remain"; need is at least m.
  pub start : last.start ≡ hole.start
  pub part : max rest (geometry_of m).shortest + (geometry_of m).shortest ≤ hole.len → last.len ≡ max rest (geometry_of m).shortest
  pub all_of_it : hole.len < max rest (geometry_of m).shortest + (geometry_of m).shortest → last.len ≡ hole.len

-- a claim of so many bytes near a parent zone gives these pairs to an id
pub record ClaimRules (m : List ℕ) (size parent id : ℕ) (qs : List Pair) : Type 0 where
  pub order : List Pair
  pub in_turn_law : InTurn m size parent order
  pub taken : List Pair
  pub front : FromFront m size order taken
  -- "The id's zone for R-6 is that of the first hole taken."
  pub first : Pair
  pub others : List Pair
  pub first_is : order ≡ first ∷ others
  -- an "unused" id "from 3". An id lies below P*nzones.
  pub from_3 : 3 ≤ id
  pub below : id < (geometry_of m).ids * (geometry_of m).zones
  pub unused : listed_on m id ≡ []
  -- "The id is the lowest unused one from 3 whose start zone is the chosen zone": no lower one is, whether or not this one is of that zone
  pub lowest_there : (j : ℕ) → 3 ≤ j → j < id → start_zone (geometry_of m) j ≡ zone_of (geometry_of m) first.start → listed_on m j ≡ [] → ⊥
  -- "and only if none is left the lowest unused from 3"
  pub none_there : (start_zone (geometry_of m) id ≡ zone_of (geometry_of m) first.start → ⊥)
      → (j : ℕ) → 3 ≤ j → j < (geometry_of m).ids * (geometry_of m).zones → start_zone (geometry_of m) j ≡ zone_of (geometry_of m) first.start → listed_on m j ≡ [] → ⊥
  pub lowest_of_all : (start_zone (geometry_of m) id ≡ zone_of (geometry_of m) first.start → ⊥) → (j : ℕ) → 3 ≤ j → j < id → listed_on m j ≡ [] → ⊥
  -- "The answer becomes a list in object order for the chosen id": the pairs taken, in that order. Each has some bits, so that two
  -- of them have one order only.
  pub same_pairs : (q : Pair) → In q qs ↔ In q taken
  pub some_bits : (q : Pair) → In q qs → 0 < q.len
  pub in_order : (q p : Pair) → Earlier q p qs → InObjectOrder (geometry_of m) (start_zone (geometry_of m) id) q p
