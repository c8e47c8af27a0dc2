-- The disc record that a blank disc is given (document 02, R-13). Assumes nothing.
use Rattle.std.specs.Prelude.{Bool, cond, ◌&&◌, List, [], ◌∷◌, ◌++◌, ℕ, ◌+◌, ◌-◌, ◌*◌, ◌/◌, ◌%◌, ◌^◌, ltb, leb, replicate}
use Rattle.std.specs.Int.Count.{count_trailing_zeros}
use Rattle.geometry.specs.declared.DiscRecord.{DiscRecord}
use Rattle.geometry.specs.Record.{geometry_from}
use Rattle.geometry.specs.Ranges.{fields_fit, geometry_fits}

-- "choose bytes per map bit from source document 001's table: up to 124 Mbytes (of 1,048,576 bytes) 256, up to 249 gives 512, up to 499 gives
-- 1024, up to 999 gives 2048, limits included": a row has the limit in Mbytes, and the bytes
abbrev pub unit_rows : List (ℕ × ℕ)
unit_rows = (124, 256) ∷ (249, 512) ∷ (499, 1024) ∷ (999, 2048) ∷ []

abbrev pub unit_in : List (ℕ × ℕ) → ℕ → ℕ
unit_in [] capacity = 0
unit_in (row ∷ rows) capacity = cond (leb capacity (row.0 * 1048576)) row.1 (unit_in rows capacity)

-- 0 where the capacity is above the last limit
abbrev pub unit_for : ℕ → ℕ
unit_for capacity = unit_in unit_rows capacity

-- The record of such a disc with n zones: "Use zone_spare 32"; version 0. log2bpmb counts the zeros below the one bit of 256, 512, 1024 or 2048; above
-- the table it would be 64, which is outside its range.
abbrev pub blank_record : ℕ → ℕ → ℕ → ℕ → DiscRecord
blank_record logsector capacity idlen n = record {
  logsector = logsector;
  idlen = idlen;
  logunit = count_trailing_zeros 64 (unit_for capacity);
  zones = n;
  spare = 32;
  size = capacity;
  version = 0;
}

-- "the fewest zones that cover the capacity": its map bits, a part of one counted as one, and the 480 that zone 0 is short, in zones of Z bits
abbrev pub up_to : ℕ → ℕ → ℕ
up_to x n = (x + n - 1) / n

abbrev pub zones_for : ℕ → ℕ → ℕ → ℕ
zones_for bits unit capacity = up_to (up_to capacity unit + 480) bits

abbrev pub blank_for : ℕ → ℕ → ℕ → DiscRecord
blank_for logsector capacity idlen = blank_record logsector capacity idlen (zones_for (8 * 2 ^ logsector - 32) (unit_for capacity) capacity)

-- in the table, and "within the record's ranges for version 0", which say too that a capacity is not 0 and a multiple of the sector
abbrev pub disc_fits : ℕ → ℕ → ℕ → Bool
disc_fits logsector capacity idlen =
    let r = blank_for logsector capacity idlen in
    ltb 0 (unit_for capacity) && (fields_fit r && geometry_fits (geometry_from r))

-- The bytes of the record: "Offsets inside it: 0 log2secsize, 4 idlen, 5 log2bpmb, 9 nzones, 10 zone_spare (2 bytes), 16 disc_size (4 bytes)."
-- "and bytes not named here 0"
abbrev pub record_bytes : DiscRecord → List ℕ
record_bytes r =
    r.logsector ∷ 0 ∷ 0 ∷ 0
    ∷ r.idlen ∷ r.logunit ∷ 0 ∷ 0
    ∷ 0 ∷ r.zones ∷ r.spare % 256 ∷ r.spare / 256
    ∷ 0 ∷ 0 ∷ 0 ∷ 0
    ∷ r.size % 256 ∷ r.size / 256 % 256 ∷ r.size / 65536 % 256 ∷ r.size / 16777216 % 256
    ∷ replicate 40 0

-- a map of so many bytes that has the record and else only 0
abbrev pub blank_map : DiscRecord → ℕ → List ℕ
blank_map r n = 0 ∷ 0 ∷ 0 ∷ 0 ∷ (record_bytes r ++ replicate (n - 64) 0)
