-- The disc record and what it fixes (document 01, "The disc record and its ranges"; document 02, R-12). Assumes nothing.
use Rattle.std.specs.Prelude.{cond, List, ℕ, ◌+◌, ◌-◌, ◌*◌, ◌/◌, ◌^◌, eqb, ltb, get_or, take, drop}
use Rattle.geometry.specs.declared.DiscRecord.{DiscRecord}
use Rattle.geometry.specs.declared.Geometry.{Geometry}

-- "The record is at bytes 4 to 63 of zone 0: 60 bytes, least significant byte first."
abbrev pub disc_record : List ℕ → List ℕ
disc_record m = take 60 (drop 4 m)

-- a byte of the record, two and four of them
abbrev pub byte_at : List ℕ → ℕ → ℕ
byte_at r i = get_or r i 0

abbrev pub two_bytes : List ℕ → ℕ → ℕ
two_bytes r i = byte_at r i + 256 * byte_at r (i + 1)

abbrev pub four_bytes : List ℕ → ℕ → ℕ
four_bytes r i = two_bytes r i + 65536 * two_bytes r (i + 2)

-- "Take version 1 as E+ and 0 as what we have" (document 02, R-12): a number of version 0, or of the later one
abbrev pub by_version : ℕ → ℕ → ℕ → ℕ
by_version version e plus = cond (eqb version 0) e plus

-- "The later record has .. a format version of 4 bytes at 44" (R-12)
abbrev pub version_in : List ℕ → ℕ
version_in r = four_bytes r 44

-- "Offsets inside it: 0 log2secsize, 4 idlen, 5 log2bpmb, 9 nzones, 10 zone_spare (2 bytes), 16 disc_size (4 bytes)." "The later record
-- has a high byte for nzones at record offset 42" (R-12).
abbrev pub record_as : ℕ → List ℕ → DiscRecord
record_as v r = record {
  logsector = byte_at r 0;
  idlen = byte_at r 4;
  logunit = byte_at r 5;
  zones = by_version v (byte_at r 9) (byte_at r 9 + 256 * byte_at r 42);
  spare = two_bytes r 10;
  size = four_bytes r 16;
  version = v;
}

abbrev pub record_in : List ℕ → DiscRecord
record_in r = record_as (version_in r) r

-- "k, the map bits of a cluster, is S/B where B is less than S, else 1."
abbrev pub cluster_of : ℕ → ℕ → ℕ
cluster_of S B = cond (ltb B S) (S / B) 1

-- "rounded up to a multiple of k"
abbrev pub round_up : ℕ → ℕ → ℕ
round_up x k = (x + k - 1) / k * k

-- "S = 2^log2secsize; B = 2^log2bpmb. .. Z = 8S - zone_spare. m, the shortest fragment, is idlen+1 rounded up to a
-- multiple of k. P (ids per zone) = Z div (idlen+1), without that rounding." The disc ends at disc bit disc_size div B. "The geometry
-- is a shared thing and every call reads it, so carry the edition in it" (R-12).
abbrev pub geometry_from : DiscRecord → Geometry
geometry_from r =
    let S : ℕ = 2 ^ r.logsector in
    let B : ℕ = 2 ^ r.logunit in
    let k : ℕ = cluster_of S B in
    let Z : ℕ = 8 * S - r.spare in
    let m : ℕ = round_up (r.idlen + 1) k in
    record {
      sector = S;
      idlen = r.idlen;
      unit = B;
      zones = r.zones;
      cluster = k;
      bits = Z;
      shortest = m;
      ids = Z / (r.idlen + 1);
      size = r.size;
      end = record { 0 = r.size / B };
      version = r.version;
    }

abbrev pub geometry_in : List ℕ → Geometry
geometry_in r = geometry_from (record_in r)

-- of a map
abbrev pub version_of : List ℕ → ℕ
version_of m = version_in (disc_record m)

abbrev pub geometry_of : List ℕ → Geometry
geometry_of m = geometry_in (disc_record m)

-- Two discs of the bench lines. "log2secsize 10, idlen 15, log2bpmb 7, one zone, zone_spare 1312: .. 819,200 bytes", here
-- with ids of n bits; and "Id 690 with 168 ids per zone", on eight zones of 2,016 bits.
abbrev pub floppy_disc : ℕ → DiscRecord
floppy_disc n = record { logsector = 10; idlen = n; logunit = 7; zones = 1; spare = 1312; size = 819200; version = 0 }

abbrev pub eight_zones : DiscRecord
eight_zones = record { logsector = 8; idlen = 11; logunit = 10; zones = 8; spare = 32; size = 12582912; version = 0 }

-- "drives with 256-byte sectors and up to 255 zones" (document 02, R-4): one of n zones, all of its map on the disc
abbrev pub drive_of : ℕ → DiscRecord
drive_of n = record { logsector = 8; idlen = 15; logunit = 10; zones = n; spare = 32; size = (n * 2016 - 480) * 1024; version = 0 }

-- an E+ disc of n zones (document 02, R-12) with ids of 19 bits, and the fewest of them to a zone, 25; all of its map on the disc
abbrev pub plus_disc : ℕ → DiscRecord
plus_disc n = record { logsector = 8; idlen = 19; logunit = 7; zones = n; spare = 1548; size = (n * 500 - 480) * 128; version = 1 }
