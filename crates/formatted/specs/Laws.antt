-- What holds of a map that is drawn on a blank disc, and of what is refused (document 02, R-13). Assumes nothing.
use Rattle.std.specs.Prelude.{◌≡◌, List, [], ◌∷◌, ◌⊎◌, ◌↔◌, ℕ, ◌+◌, ◌-◌, ◌*◌, ◌/◌, ◌%◌, ◌^◌, ◌<◌, ◌≤◌, length}
use Rattle.bits.specs.Bits.{Bytes}
use Rattle.checks.specs.Cross.{cross_of}
use Rattle.geometry.specs.declared.Geometry.{Geometry}
use Rattle.geometry.specs.Record.{disc_record, record_in, geometry_of}
use Rattle.geometry.specs.Ranges.{ZeroBytes}
use Rattle.geometry.specs.Places.{zone_from, zone_end, disc_bits}
use Rattle.model.specs.Answer.{refused, answered}
use Rattle.model.specs.Chain.{Pair, Within}
use Rattle.model.specs.Refusals.{Exactly}
use Rattle.model.specs.Rules.{zone_block, MapRules}
use Rattle.model.specs.Shown.{listed_on, spans_on}
use Rattle.edits.specs.Editable.{Editable}
use Rattle.edits.specs.Room.{In, InSome}
use Rattle.formatted.specs.Blank.{unit_for, blank_record}
use Rattle.formatted.specs.Drawn.{map_length, object_two, object_one, format_found, length_found}
use Rattle.formatted.specs.Table.{FormatJudged, LengthJudged}

-- bits that hold object 2: at least m, in whole clusters, with room for "two map copies"
pub record HoldsCopies (g : Geometry) (n : ℕ) : Type 0 where
  pub long : g.shortest ≤ n
  pub clusters : n % g.cluster ≡ 0
  pub copies : 2 * map_length g ≤ n * g.unit

-- the two pieces, where the request puts them
pub record PiecesLie (g : Geometry) (two one : Pair) : Type 0 where
  -- "object 2 at the middle zone, as short as m, k and two map copies allow": it has as few bits as hold it, or "A stretch shorter than m"
  -- besides that "directly follows" them, up to the zone's end or the overhang
  pub two_starts : two.start ≡ zone_from g (g.zones / 2)
  pub two_holds : HoldsCopies g two.len
  pub two_short : (n : ℕ) → HoldsCopies g n
      → (two.len ≤ n) ⊎ ((two.len < n + g.shortest) × ((two.start + two.len ≡ zone_end g (g.zones / 2)) ⊎ (two.start + two.len ≡ one.start)))
  -- "the map's overhang, if any, in object 1": from the disc's end at the latest to the map's
  pub one_ends : one.start + one.len ≡ disc_bits g
  pub none_over : g.end.0 ≡ disc_bits g → one.len ≡ 0
  pub over : g.end.0 < disc_bits g → (one.start ≤ g.end.0) × (g.shortest ≤ one.len)
  -- "(reaching back to m bits if shorter)"; a shorter stretch that it follows in a zone without object 2 is its too
  pub one_short : g.end.0 < disc_bits g → (one.start ≡ g.end.0) ⊎ (one.len ≡ g.shortest)
      ⊎ ((one.start ≡ zone_from g (g.zones - 1)) × (g.zones / 2 < g.zones - 1) × ((g.end.0 < one.start + g.shortest) ⊎ (one.len < 2 * g.shortest)))

-- the pair, if it has bits
pub data IfBits (q : Pair) : List Pair → Type 0 where
  no_bits : q.len ≡ 0 → IfBits q []
  some_bits : 0 < q.len → IfBits q (q ∷ [])

module _ (logsector capacity idlen : ℕ) where
  -- A map for such a disc, whoever drew it: accepted, of that record, in any number of zones, and with room in one piece of object 2 for both
  -- copies of the map, where they are looked for.
  pub record Suits (m : List ℕ) : Type 0 where
    pub bytes : Bytes m
    pub accepted : MapRules m
    pub disc : record_in (disc_record m) ≡ blank_record logsector capacity idlen (geometry_of m).zones
    pub copies : (q : Pair) × In q (listed_on m 2) × (q.start ≡ zone_from (geometry_of m) ((geometry_of m).zones / 2)) × (2 * length m ≤ q.len * (geometry_of m).unit)

  -- the map that is drawn
  pub record Formats (m : List ℕ) : Type 0 where
    pub suits : Suits m
    -- no two free fragments touch either: what runs start from (demand 3)
    pub in_order : Editable m
    -- "Given log2secsize, capacity in bytes, and idlen"; version 0
    pub given : ((geometry_of m).sector ≡ 2 ^ logsector) × ((geometry_of m).size ≡ capacity) × ((geometry_of m).idlen ≡ idlen) × ((geometry_of m).version ≡ 0)
    -- bytes per map bit by the table; "Use zone_spare 32", which leaves no bit over; no smaller number of zones covers the capacity
    pub unit : (geometry_of m).unit ≡ unit_for capacity
    pub no_bits_over : 32 + (geometry_of m).bits ≡ 8 * (geometry_of m).sector
    pub fewest : (n : ℕ) → capacity ≤ (n * (geometry_of m).bits - 480) * (geometry_of m).unit → (geometry_of m).zones ≤ n
    -- "and list exactly these owners", with all else free
    pub lie : PiecesLie (geometry_of m) (object_two (geometry_of m)) (object_one (geometry_of m))
    pub two : listed_on m 2 ≡ object_two (geometry_of m) ∷ []
    pub one : IfBits (object_one (geometry_of m)) (listed_on m 1)
    pub others : (id : ℕ) → (id ≡ 1 → ⊥) → (id ≡ 2 → ⊥) → listed_on m id ≡ []
    pub free_bits : (d : ℕ) → InSome (spans_on m) d
        ↔ ((d < disc_bits (geometry_of m)) × (Within (object_two (geometry_of m)) d → ⊥) × (Within (object_one (geometry_of m)) d → ⊥))
    -- "cross checks 255 in zone 0 and 0 elsewhere"
    pub cross_0 : cross_of (zone_block (geometry_of m) m 0) ≡ 255
    pub cross : (z : ℕ) → 0 < z → z < (geometry_of m).zones → cross_of (zone_block (geometry_of m) m z) ≡ 0
    -- "bytes not named here 0": those of the record that no field has; all others are check bytes, FreeLinks, cross checks and allocation bits
    pub zeros : ZeroBytes 1 4 (disc_record m) × ZeroBytes 6 9 (disc_record m) × ZeroBytes 12 16 (disc_record m) × ZeroBytes 20 60 (disc_record m)

pub record FormatLaws : Type 0 where
  -- each refusal exactly when the request says so
  pub format_judged : (logsector capacity idlen room : ℕ) → Exactly (FormatJudged logsector capacity idlen room) (format_found logsector capacity idlen room)
  pub length_judged : (logsector capacity idlen : ℕ) → Exactly (LengthJudged logsector capacity idlen) (length_found logsector capacity idlen)
  -- the length that is told is the one that is wanted
  pub wanted : (logsector capacity idlen n : ℕ) → length_found logsector capacity idlen ≡ answered n
      → (m : List ℕ) × (format_found logsector capacity idlen n ≡ answered m) × (length m ≡ n)
  -- what is drawn
  pub formats : (logsector capacity idlen room : ℕ) (m : List ℕ) → format_found logsector capacity idlen room ≡ answered m → Formats logsector capacity idlen m
  -- and what is refused with 2 cannot be drawn: no map suits such a disc
  pub none_suits : (logsector capacity idlen : ℕ) → length_found logsector capacity idlen ≡ refused 2 0 → (m : List ℕ) → Suits logsector capacity idlen m → ⊥
  -- the rows of the table, "limits included"
  pub to_124 : (capacity : ℕ) → capacity ≤ 124 * 1048576 → unit_for capacity ≡ 256
  pub to_249 : (capacity : ℕ) → 124 * 1048576 < capacity → capacity ≤ 249 * 1048576 → unit_for capacity ≡ 512
  pub to_499 : (capacity : ℕ) → 249 * 1048576 < capacity → capacity ≤ 499 * 1048576 → unit_for capacity ≡ 1024
  pub to_999 : (capacity : ℕ) → 499 * 1048576 < capacity → capacity ≤ 999 * 1048576 → unit_for capacity ≡ 2048
