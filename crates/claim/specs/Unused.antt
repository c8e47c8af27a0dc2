-- The unused ids of a window, `from` to `to` - 1, by a bit for each, the first for id `from`, and the id for a zone (document 02, R-6: "the lowest
-- unused one from 3 whose start zone is the chosen zone"). Assumes nothing.
use Rattle.std.specs.Prelude.{◌≡◌, Bool, false, cond, ◌&&◌, List, ℕ, ◌+◌, ◌-◌, ◌*◌, ◌<◌, ◌≤◌, ltb, leb, get_or, set, Option, Some, None}
use Rattle.std.proofs.Math.Option as math
use Rattle.std.proofs.Math.Option.{none, some}
use Rattle.bits.specs.Bits.{byte_bits}
use Rattle.geometry.specs.declared.Geometry.{Geometry}
use Rattle.model.specs.Chain.{Pair}
use Rattle.model.specs.Pieces.{Piece}
use Rattle.edits.specs.Judge.{is_empty, lowest_id, unused, unused_of, or_any}

-- an id that was looked for, as the code answers it
abbrev pub found : math.Option ℕ → Option ℕ
found none = None
found (some id) = Some id

-- the bits after the one of this id was cleared, if it has one
abbrev pub cleared_bit : ℕ → ℕ → ℕ → List Bool → List Bool
cleared_bit from to id bits = cond (leb from id && ltb id to) (set bits (id - from) false) bits

-- the bits of `new` are those of `old`, but 0 for every id that holds something
abbrev pub ClearedIn : (ℕ → List Pair) → ℕ → ℕ → List ℕ → List ℕ → Type 0
ClearedIn held from to old new =
    (id : ℕ) → from ≤ id → id < to → get_or (byte_bits new) (id - from) false ≡ get_or (byte_bits old) (id - from) false && is_empty (held id)

-- a window of a disc's ids, with at most 131,072 bits
pub record Window (g : Geometry) (from to : ℕ) : Type 0 where
  pub low : 1 ≤ from
  pub in_order : from ≤ to
  pub high : to ≤ g.ids * g.zones
  pub few : to ≤ from + 131072

-- r is the id for a piece in zone z
pub record IdChosen (g : Geometry) (l : List Piece) (z r : ℕ) : Type 0 where
  pub any : ℕ
  pub any_lowest : lowest_id g (unused l) ≡ some any
  pub chosen : or_any any (lowest_id g (unused_of g l z)) ≡ r
