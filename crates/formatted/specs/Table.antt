-- When the calls that format are refused (document 02, R-13), in the request's words. Assumes nothing.
use Rattle.std.specs.Prelude.{◌≡◌, List, ℕ, ◌+◌, ◌*◌, ◌/◌, ◌%◌, ◌^◌, ◌<◌, ◌≤◌}
use Rattle.geometry.specs.declared.Geometry.{Geometry}
use Rattle.geometry.specs.Record.{geometry_from}
use Rattle.geometry.specs.Ranges.{FieldRules, GeometryRules}
use Rattle.geometry.specs.Places.{zone_end, disc_bits}
use Rattle.model.specs.Answer.{Answer, refused, answered}
use Rattle.formatted.specs.Blank.{blank_record}
use Rattle.formatted.specs.Drawn.{map_length, middle_bit, drawn_map}

-- object 2 has `two` bits from the middle zone's first on, and all from disc bit `one` on is object 1's
pub record BothDrawn (g : Geometry) (two one : ℕ) : Type 0 where
  -- "as short as m, k and two map copies allow"
  pub long : g.shortest ≤ two
  pub clusters : two % g.cluster ≡ 0
  pub copies : 2 * map_length g ≤ two * g.unit
  -- fragments do not leave their zone
  pub in_zone_law : middle_bit g + two ≤ zone_end g (g.zones / 2)
  -- "the map's overhang, if any, in object 1 (reaching back to m bits if shorter)"
  pub overhang : g.end.0 < disc_bits g → (one ≤ g.end.0) × (one + g.shortest ≤ disc_bits g)
  pub apart : middle_bit g + two ≤ one

module _ (logsector capacity idlen : ℕ) where
  abbrev pub with_zones : ℕ → Geometry
  with_zones n = geometry_from (blank_record logsector capacity idlen n)

  -- n zones "cover the capacity within the record's ranges for version 0"
  pub record InRanges (n : ℕ) : Type 0 where
    pub fields : FieldRules (blank_record logsector capacity idlen n)
    pub together : GeometryRules (with_zones n)

  -- "the fewest zones"
  pub record Fewest (n : ℕ) : Type 0 where
    pub ranges : InRanges n
    pub fewest : (j : ℕ) → InRanges j → n ≤ j

  -- a disc that can be formatted, with n zones
  pub record Formattable (n : ℕ) : Type 0 where
    pub zones : Fewest n
    pub two : ℕ
    pub one : ℕ
    pub both : BothDrawn (with_zones n) two one

  -- what is refused with 2
  pub data NotFormattable : Type 0 where
    -- "above that, or if it's 0 or no multiple of the sector, refuse with 2"
    above : 999 * 1048576 < capacity → NotFormattable
    nothing : capacity ≡ 0 → NotFormattable
    part_sector : (capacity % 2 ^ logsector ≡ 0 → ⊥) → NotFormattable
    -- "refusing with 2 if there's no such number"; a log2secsize or idlen outside its range leaves none
    no_zones : ((n : ℕ) → InRanges n → ⊥) → NotFormattable
    -- "If object 2 and the overhang can't both be drawn, refuse with 2."
    not_both : (n : ℕ) → Fewest n → ((two one : ℕ) → BothDrawn (with_zones n) two one → ⊥) → NotFormattable

  -- a buffer of `room` bytes
  pub data FormatJudged (room : ℕ) : Answer (List ℕ) → Type 0 where
    no_disc : NotFormattable → FormatJudged room (refused 2 0)
    -- "A map buffer of the wrong length is refused with 1, after every 2."
    other_length : (n : ℕ) → Formattable n → (room ≡ map_length (with_zones n) → ⊥) → FormatJudged room (refused 1 0)
    drawn : (n : ℕ) → Formattable n → room ≡ map_length (with_zones n) → FormatJudged room (answered (drawn_map (blank_record logsector capacity idlen n)))

  pub data LengthJudged : Answer ℕ → Type 0 where
    no_length : NotFormattable → LengthJudged (refused 2 0)
    length_told_law : (n : ℕ) → Formattable n → LengthJudged (answered (map_length (with_zones n)))
