-- The rules of a disc record and the test that computes say the same. Each test answers for one rule: a chain of tests is
-- taken apart into its rules, and put together from them, first for the fields one by one and then for what they give
-- together.
use mathlib.Core.Path.{◌≡◌}
use mathlib.Core.Bool.{true}
use mathlib.Core.List.{List}
use Prim.Native.Nat.{ℕ, ◌+◌, ◌-◌, ◌*◌, ◌%◌, ◌^◌, ◌≤◌}
use lib.Dec.{eqb, ltb, leb}
use borrow.Author.Tests.{leb-true, ltb-true, eqb-true, le-leb, lt-ltb, eq-eqb}
use Rattle.bits.proofs.Tests.{both}
use Rattle.geometry.specs.declared.DiscRecord.{DiscRecord}
use Rattle.geometry.specs.declared.Geometry.{Geometry}
use Rattle.geometry.specs.Record.{version_in, record_in, geometry_in}
use Rattle.geometry.specs.Ranges.{FieldRules, GeometryRules, RecordRules, most_zones, longest_id, zero_from, zero_end}
use Rattle.geometry.specs.Ranges.{between, fields_fit, geometry_fits, zero_bytes, record_fits}
use Rattle.geometry.proofs.ZeroBytes.{test_gives_zero, zero_gives_test}

between_gives : (a x b : ℕ) → between a x b ≡ true → (a ≤ x) × (x ≤ b)
between_gives a x b t = let p = both (leb a x) (leb x b) t in (leb-true a x p.0, leb-true x b p.1)

-- the fields one by one
module _ (r : DiscRecord) where
  pub test_gives_fields : fields_fit r ≡ true → FieldRules r
  test_gives_fields t =
      let p0 = both (leb r.version 1) _ t in
      let p1 = both (between 8 r.logsector 10) _ p0.1 in
      let p2 = both (between (r.logsector + 3) r.idlen (longest_id r.version)) _ p1.1 in
      let p3 = both (between 7 r.logunit 12) _ p2.1 in
      let p4 = both (between 1 r.zones (most_zones r.version)) (leb 32 r.spare) p3.1 in
      let sector = between_gives 8 r.logsector 10 p1.0 in
      let id = between_gives (r.logsector + 3) r.idlen (longest_id r.version) p2.0 in
      let unit = between_gives 7 r.logunit 12 p3.0 in
      let count = between_gives 1 r.zones (most_zones r.version) p4.0 in
      record {
        version_high = leb-true r.version 1 p0.0;
        sector_low = sector.0;
        sector_high = sector.1;
        idlen_low = id.0;
        idlen_high = id.1;
        unit_low = unit.0;
        unit_high = unit.1;
        zones_low = count.0;
        zones_high = count.1;
        spare_low = leb-true 32 r.spare p4.1;
      }

  pub fields_give_test : FieldRules r → fields_fit r ≡ true
  fields_give_test f =
      rw (
        le-leb _ _ f.version_high,
        le-leb _ _ f.sector_low,
        le-leb _ _ f.sector_high,
        le-leb _ _ f.idlen_low,
        le-leb _ _ f.idlen_high,
        le-leb _ _ f.unit_low,
        le-leb _ _ f.unit_high,
        le-leb _ _ f.zones_low,
        le-leb _ _ f.zones_high,
        le-leb _ _ f.spare_low,
      )

-- what the fields give together
module _ (g : Geometry) where
  abbrev room : ℕ
  room = (g.zones * g.bits - 480) * g.unit

  pub test_gives_together : geometry_fits g ≡ true → GeometryRules g
  test_gives_together t =
      let p1 = both (eqb (g.bits % g.cluster) 0) _ t in
      let p2 = both (leb (480 + g.shortest) g.bits) _ p1.1 in
      let p3 = both (leb (g.ids * g.zones) (2 ^ g.idlen)) _ p2.1 in
      let p4 = both (ltb 0 g.size) _ p3.1 in
      let p5 = both (eqb (g.size % g.sector) 0) (leb g.size room) p4.1 in
      record {
        whole_clusters = eqb-true (g.bits % g.cluster) 0 p1.0;
        room_in_zone_0 = leb-true (480 + g.shortest) g.bits p2.0;
        enough_ids = leb-true (g.ids * g.zones) (2 ^ g.idlen) p3.0;
        some_bytes = ltb-true 0 g.size p4.0;
        whole_sectors = eqb-true (g.size % g.sector) 0 p5.0;
        within_map = leb-true g.size room p5.1;
      }

  pub together_gives_test : GeometryRules g → geometry_fits g ≡ true
  together_gives_test r =
      rw (
        eq-eqb _ _ r.whole_clusters,
        le-leb _ _ r.room_in_zone_0,
        le-leb _ _ r.enough_ids,
        lt-ltb _ _ r.some_bytes,
        eq-eqb _ _ r.whole_sectors,
        le-leb _ _ r.within_map,
      )

-- a record
module _ (r : List ℕ) where
  abbrev from : ℕ
  from = zero_from (version_in r)

  abbrev end : ℕ
  end = zero_end (version_in r)

  pub test_gives_rules : record_fits r ≡ true → RecordRules r
  test_gives_rules t =
      let p = both (fields_fit (record_in r)) _ t in
      let q = both (geometry_fits (geometry_in r)) (zero_bytes from end r) p.1 in
      record {
        fields = test_gives_fields (record_in r) p.0;
        together = test_gives_together (geometry_in r) q.0;
        reserved = test_gives_zero from end r q.1;
      }

  pub rules_give_test : RecordRules r → record_fits r ≡ true
  rules_give_test k =
      rw (fields_give_test (record_in r) k.fields, together_gives_test (geometry_in r) k.together, zero_gives_test from end r k.reserved)

pub test_is_rules : (r : List ℕ) → (record_fits r ≡ true → RecordRules r) × (RecordRules r → record_fits r ≡ true)
test_is_rules r = (test_gives_rules r, rules_give_test r)
