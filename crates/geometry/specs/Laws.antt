-- What holds of records, geometries and places. Assumes nothing.
use Rattle.std.specs.Prelude.{◌≡◌, true, List, ℕ, suc, ◌+◌, ◌*◌, ◌/◌, ◌%◌, ◌<◌, ◌≤◌, length, get_or}
use Rattle.geometry.specs.declared.Geometry.{Geometry}
use Rattle.geometry.specs.Record.{version_in, record_in, cluster_of, geometry_from, geometry_in, version_of, geometry_of}
use Rattle.geometry.specs.Record.{floppy_disc, eight_zones, drive_of, plus_disc}
use Rattle.geometry.specs.Ranges.{ZeroBytes, RecordRules, record_fits}
use Rattle.geometry.specs.Accepted.{AcceptedGeometry}
use Rattle.geometry.specs.Places.{first_bit, end_bit, disc_bit, block_bit, zone_of, zone_from, zone_end, disc_bits, start_zone}
use Rattle.geometry.specs.declared.Reason.{Reason}
use Rattle.geometry.specs.Answers.{reason_of, number, record_told, start_of, start_numbers}
use Rattle.geometry.specs.Version0.{geometry_in0, record_fits0}

pub record GeometryLaws : Type 0 where
  -- the table has a reason for each number, and each reason has its number
  pub numbered : (n : ℕ) → 1 ≤ n → n ≤ 17 → number (reason_of n) ≡ n
  pub reasoned : (r : Reason) → reason_of (number r) ≡ r
  -- the test accepts a record exactly when it keeps the rules
  pub test_is_rules : (r : List ℕ) → (record_fits r ≡ true → RecordRules r) × (RecordRules r → record_fits r ≡ true)
  -- what an accepted record gives the layers above
  pub accepted : (r : List ℕ) → RecordRules r → AcceptedGeometry (geometry_in r)
  -- the two kinds of bit number: the conversions undo each other on a zone's bits, and the zone is found again
  pub block_of_disc : (g : Geometry) → AcceptedGeometry g → (z b : ℕ) → first_bit z ≤ b → b < end_bit g → block_bit g z (disc_bit g z b) ≡ b
  pub disc_of_block : (g : Geometry) → AcceptedGeometry g → (d : ℕ) → disc_bit g (zone_of g d) (block_bit g (zone_of g d) d) ≡ d
  pub zone_of_disc : (g : Geometry) → AcceptedGeometry g → (z b : ℕ) → first_bit z ≤ b → b < end_bit g → zone_of g (disc_bit g z b) ≡ z
  pub on_the_map : (g : Geometry) → AcceptedGeometry g → (z b : ℕ) → z < g.zones → first_bit z ≤ b → b < end_bit g → disc_bit g z b < disc_bits g
  -- a zone's disc bits run from that of its first allocation bit to that of its end
  pub zone_starts : (g : Geometry) (z : ℕ) → zone_from g z ≡ disc_bit g z (first_bit z)
  pub zone_ends : (g : Geometry) (z : ℕ) → zone_end g z ≡ disc_bit g z (end_bit g)
  -- "k, the map bits of a cluster, is S/B where B is less than S, else 1"
  pub cluster_parts : (S B : ℕ) → 0 < B → B < S → S % B ≡ 0 → cluster_of S B * B ≡ S
  pub cluster_else : (S B : ℕ) → S ≤ B → cluster_of S B ≡ 1
  -- "the start zone is id div P (for object 2, nzones div 2)"
  pub start_by_ids : (g : Geometry) (id : ℕ) → 0 < g.ids → (id ≡ 2 → ⊥) → (start_zone g id * g.ids ≤ id) × (id < suc (start_zone g id) * g.ids)
  pub start_of_2 : (g : Geometry) → start_zone g 2 ≡ g.zones / 2
  -- an id's start zone is a zone
  pub start_in_range : (g : Geometry) (id : ℕ) → 1 ≤ id → id < g.ids * g.zones → start_zone g id < g.zones
  -- document 01's last bench line: Z 6880, m 16, P 430, 819,200 bytes
  pub floppy : let g = geometry_from (floppy_disc 15) in (g.bits ≡ 6880) × (g.shortest ≡ 16) × (g.ids ≡ 430) × (g.end.0 ≡ 6400)
  -- P's divisor is not rounded to clusters: with ids of 13 bits m is 16 too, and P = Z div 14
  pub divisor : let g = geometry_from (floppy_disc 13) in (g.bits ≡ 6880) × (g.shortest ≡ 16) × (g.ids ≡ 491)
  -- "Id 690 with 168 ids per zone: start zone 4 (document 000)"
  pub object_690 : let g = geometry_from eight_zones in (g.ids ≡ 168) × (start_numbers (start_of g 1 690) ≡ (0, 0, 4))
  -- "drives with 256-byte sectors and up to 255 zones" (document 02, R-4): the rules hold for every number of zones, whatever
  -- the carried bytes are
  pub drives : (r : List ℕ) (n : ℕ) → 1 ≤ n → n ≤ 255 → record_in r ≡ drive_of n → ZeroBytes 32 60 r → RecordRules r
  -- "A map with any of block bytes 36 to 63 of zone 0 not 0 is refused with 2" (document 02, R-7), "for version 0 only" (R-12), whatever
  -- its other bytes
  pub dirty : (m : List ℕ) → 64 ≤ length m → version_of m ≡ 0 → (b : ℕ) → 36 ≤ b → b < 64 → (get_or m b 0 ≡ 0 → ⊥) → record_told m ≡ (2, 0)
  -- "The later record has a high byte for nzones at record offset 42, a format version of 4 bytes at 44" (R-12), here in the bytes
  -- of a map
  pub version_at : (m : List ℕ) → version_of m ≡ get_or m 48 0 + 256 * get_or m 49 0 + 65536 * (get_or m 50 0 + 256 * get_or m 51 0)
  pub zones_at : (m : List ℕ) → let n = (geometry_of m).zones in
      (version_of m ≡ 0 → n ≡ get_or m 13 0) × (version_of m ≡ 1 → n ≡ get_or m 13 0 + 256 * get_or m 46 0)
  -- "Take version 1 as E+ and 0 as what we have; others are refused with 2." A record of version 0 is judged as before and gives the
  -- geometry that it gave, and all that reads a map reads its record through these two; what was accepted before is of version 0
  pub version_0 : (r : List ℕ) → version_in r ≡ 0 → (record_fits r ≡ record_fits0 r) × (geometry_in r ≡ geometry_in0 r)
  pub accepted_0 : (r : List ℕ) → record_fits0 r ≡ true → version_in r ≡ 0
  pub other_version : (m : List ℕ) → 64 ≤ length m → 1 < version_of m → record_told m ≡ (2, 0)
  -- "For E+ nzones may be 1 to 65,535 under the same P*nzones rule": that rule leaves 20,971, and the rules hold for every number up to
  -- there with ids of 19 bits, whatever the carried bytes are
  pub most_zones_law : (r : List ℕ) → RecordRules r → (record_in r).zones ≤ 20971
  pub plus_discs : (r : List ℕ) (n : ℕ) → 1 ≤ n → n ≤ 20971 → record_in r ≡ plus_disc n → ZeroBytes 36 40 r → RecordRules r
  -- "and record bytes 36 to 39, the high half of the size, must be 0 (else 2)": block bytes 40 to 43, in version 0 by R-7
  pub high_size : (m : List ℕ) → 64 ≤ length m → (b : ℕ) → 40 ≤ b → b < 44 → (get_or m b 0 ≡ 0 → ⊥) → record_told m ≡ (2, 0)
