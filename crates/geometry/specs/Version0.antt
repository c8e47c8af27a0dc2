-- A record of version 0 as it was read before there were versions (document 01, "The disc record and its ranges"; document 02, R-4 and
-- R-7), with numbers of its own where the editions differ now. `GeometryLaws.version_0` holds it against what is read since R-12.
-- Assumes nothing.
use Rattle.std.specs.Prelude.{Bool, ◌&&◌, List, ℕ, ◌+◌, ◌*◌, leb}
use Rattle.geometry.specs.declared.DiscRecord.{DiscRecord}
use Rattle.geometry.specs.declared.Geometry.{Geometry}
use Rattle.geometry.specs.Record.{byte_at, two_bytes, geometry_from}
use Rattle.geometry.specs.Ranges.{between, geometry_fits, zero_bytes}

-- "Offsets inside it: 0 log2secsize, 4 idlen, 5 log2bpmb, 9 nzones, 10 zone_spare (2 bytes), 16 disc_size (4 bytes)."
abbrev pub record_in0 : List ℕ → DiscRecord
record_in0 r = record {
  logsector = byte_at r 0;
  idlen = byte_at r 4;
  logunit = byte_at r 5;
  zones = byte_at r 9;
  spare = two_bytes r 10;
  size = two_bytes r 16 + 65536 * two_bytes r 18;
  version = 0;
}

abbrev pub geometry_in0 : List ℕ → Geometry
geometry_in0 r = geometry_from (record_in0 r)

-- "log2secsize 8 to 10; idlen from log2secsize+3 to 15; log2bpmb 7 to 12; nzones 1 to 127; zone_spare at least 32", nzones by R-4 to 255
abbrev pub fields_fit0 : DiscRecord → Bool
fields_fit0 r =
    between 8 r.logsector 10
    && (between (r.logsector + 3) r.idlen 15
    && (between 7 r.logunit 12
    && (between 1 r.zones 255
    && leb 32 r.spare)))

-- with R-7's rule on record bytes 32 to 59
abbrev pub record_fits0 : List ℕ → Bool
record_fits0 r = fields_fit0 (record_in0 r) && (geometry_fits (geometry_in0 r) && zero_bytes 32 60 r)
