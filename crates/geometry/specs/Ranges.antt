-- The ranges of a disc record (document 01, "The disc record and its ranges", "Accepted: .."; document 02, R-4, R-7 and R-12), as
-- rules to read and as a test that computes. `Laws.test_is_rules` shows them to say the same. Where the editions differ, a range
-- is a function of the version. Assumes nothing.
use Rattle.std.specs.Prelude.{◌≡◌, Bool, true, ◌&&◌, List, [], ◌∷◌, ℕ, ◌+◌, ◌-◌, ◌*◌, ◌%◌, ◌^◌, ◌<◌, ◌≤◌, eqb, ltb, leb}
use Rattle.std.proofs.Math.Seq.{slice}
use Rattle.geometry.specs.declared.DiscRecord.{DiscRecord}
use Rattle.geometry.specs.declared.Geometry.{Geometry}
use Rattle.geometry.specs.Record.{byte_at, by_version, version_in, record_in, geometry_in}

-- "nzones 1 to 127"; "Raise nzones from 127 to 255" (document 02, R-4); "For E+ nzones may be 1 to 65,535 under the same P*nzones rule"
-- (R-12)
abbrev pub most_zones : ℕ → ℕ
most_zones version = by_version version 255 65535

-- "idlen from log2secsize+3 to 15"; "idlen up to 19 (version 1 only)" (R-12)
abbrev pub longest_id : ℕ → ℕ
longest_id version = by_version version 15 19

-- the bytes that have to be 0. "the other 28 bytes are 0, being reserved" (source document 001); "A map with any of block bytes 36 to 63
-- of zone 0 not 0 is refused with 2 from now on, judged after the other fields" (document 02, R-7): record bytes 32 to 59. "For E+ ..
-- record bytes 36 to 39, the high half of the size, must be 0 (else 2). R-7's zero rule then holds for version 0 only." (R-12)
abbrev pub zero_from : ℕ → ℕ
zero_from version = by_version version 32 36

abbrev pub zero_end : ℕ → ℕ
zero_end version = by_version version 60 40

-- the fields one by one
pub record FieldRules (r : DiscRecord) : Type 0 where
  -- "Take version 1 as E+ and 0 as what we have; others are refused with 2." (R-12)
  pub version_high : r.version ≤ 1
  -- "log2secsize 8 to 10"
  pub sector_low : 8 ≤ r.logsector
  pub sector_high : r.logsector ≤ 10
  -- "idlen from log2secsize+3 to 15", in E+ to 19
  pub idlen_low : r.logsector + 3 ≤ r.idlen
  pub idlen_high : r.idlen ≤ longest_id r.version
  -- "log2bpmb 7 to 12"
  pub unit_low : 7 ≤ r.logunit
  pub unit_high : r.logunit ≤ 12
  -- "nzones 1 to 127", by R-4 to 255, in E+ to 65,535
  pub zones_low : 1 ≤ r.zones
  pub zones_high : r.zones ≤ most_zones r.version
  -- "zone_spare at least 32"
  pub spare_low : 32 ≤ r.spare

-- what the fields give together
pub record GeometryRules (g : Geometry) : Type 0 where
  -- "Z a multiple of k"
  pub whole_clusters : g.bits % g.cluster ≡ 0
  -- "Z - 480 at least m"; a zone_spare above 8S leaves no bit of Z and breaks this one
  pub room_in_zone_0 : 480 + g.shortest ≤ g.bits
  -- "P*nzones at most 2^idlen"
  pub enough_ids : g.ids * g.zones ≤ 2 ^ g.idlen
  -- "disc_size above 0, a multiple of S, and at most (nzones*Z - 480)*B"
  pub some_bytes : 0 < g.size
  pub whole_sectors : g.size % g.sector ≡ 0
  pub within_map : g.size ≤ (g.zones * g.bits - 480) * g.unit

-- bytes `from` to `end - 1` of a record are 0
abbrev pub ZeroBytes : ℕ → ℕ → List ℕ → Type 0
ZeroBytes from end r = (i : ℕ) → from ≤ i → i < end → byte_at r i ≡ 0

-- a rule that is broken is refused with 2 and zone 0, whichever it is: the order of these three is not seen in any answer
pub record RecordRules (r : List ℕ) : Type 0 where
  pub fields : FieldRules (record_in r)
  pub together : GeometryRules (geometry_in r)
  pub reserved : ZeroBytes (zero_from (version_in r)) (zero_end (version_in r)) r

-- the same as a test
abbrev pub between : ℕ → ℕ → ℕ → Bool
between a x b = leb a x && leb x b

abbrev pub fields_fit : DiscRecord → Bool
fields_fit r =
    leb r.version 1
    && (between 8 r.logsector 10
    && (between (r.logsector + 3) r.idlen (longest_id r.version)
    && (between 7 r.logunit 12
    && (between 1 r.zones (most_zones r.version)
    && leb 32 r.spare))))

abbrev pub geometry_fits : Geometry → Bool
geometry_fits g =
    eqb (g.bits % g.cluster) 0
    && (leb (480 + g.shortest) g.bits
    && (leb (g.ids * g.zones) (2 ^ g.idlen)
    && (ltb 0 g.size
    && (eqb (g.size % g.sector) 0
    && leb g.size ((g.zones * g.bits - 480) * g.unit)))))

abbrev pub all_zero : List ℕ → Bool
all_zero [] = true
all_zero (b ∷ bs) = eqb b 0 && all_zero bs

abbrev pub zero_bytes : ℕ → ℕ → List ℕ → Bool
zero_bytes from end r = all_zero (slice from end r)

abbrev pub record_fits : List ℕ → Bool
record_fits r = fields_fit (record_in r) && (geometry_fits (geometry_in r) && zero_bytes (zero_from (version_in r)) (zero_end (version_in r)) r)
