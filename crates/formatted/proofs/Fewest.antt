-- The fewest zones that cover a capacity, and the disc that fits with them: its record keeps the rules, the last zone starts by the disc's end, and the disc
-- ends with a cluster. Any number of zones that keeps the rules shows that the fewest do.
use mathlib.Core.Path.{◌≡◌, sym, ap, ◌∙◌}
use mathlib.Core.Bool.{true, ◌&&◌}
use Prim.Native.Nat.{ℕ, suc, ◌+◌, ◌-◌, ◌*◌, ◌/◌, ◌%◌, ◌^◌, ◌<◌, ◌≤◌}
use native.Mathlib.Nat.{le_refl, div-add-mod', mod-lt, mod-one, div-lt_iff_lt-mul, le-div_iff_mul-le, mul-le-mul_right, mul-le-mul_left, suc-mul, mul-mod_left, mul-div_cancel}
use native.Mathlib.Omega.{arith}
use lib.Dec.{ltb, leb}
use lib.Pow.{pow_pos, pow-add, pow_mono}
use lib.Count.{count_trailing_zeros}
use borrow.Author.Tests.{ltb-true, ltb-false, leb-true, leb-false, lt-ltb}
use Rattle.bits.proofs.Tests.{by_test, both, and_true}
use Rattle.geometry.specs.declared.DiscRecord.{DiscRecord}
use Rattle.geometry.specs.declared.Geometry.{Geometry}
use Rattle.geometry.specs.Record.{cluster_of, geometry_from}
use Rattle.geometry.specs.Ranges.{FieldRules, GeometryRules, fields_fit, geometry_fits}
use Rattle.geometry.specs.Accepted.{AcceptedGeometry}
use Rattle.geometry.specs.Places.{zone_from}
use Rattle.geometry.proofs.Rules.{test_gives_fields, fields_give_test, test_gives_together, together_gives_test}
use Rattle.geometry.proofs.Starts.{factors}
use Rattle.geometry.proofs.Numbers.{rules_give_accepted, cluster_parts, cluster_else}
use Rattle.formatted.specs.Blank.{unit_for, up_to, zones_for, blank_for, disc_fits}
use Rattle.formatted.specs.Table.{with_zones, InRanges, Fewest}
use Rattle.formatted.proofs.Units.{unit_power, some_unit}

-- a quotient rounded up: enough, and the least
module _ (x n : ℕ) (h : 0 < n) where
  up_enough : x ≤ up_to x n * n
  up_enough = omega (arith, div-add-mod' (x + n - 1) n, mod-lt (x + n - 1) h)

  up_least : (k : ℕ) → x ≤ k * n → up_to x n ≤ k
  up_least k l = let q : up_to x n < suc k = (div-lt_iff_lt-mul h).1 (omega (arith, suc-mul k n)) in omega arith

-- the zones of Z bits that cover a capacity, with B bytes to a bit
module _ (Z B capacity : ℕ) (some_bits : 0 < Z) (some_bytes : 0 < B) where
  abbrev bits : ℕ
  bits = up_to capacity B

  zones_enough : (n : ℕ) → zones_for Z B capacity ≤ n → bits + 480 ≤ n * Z
  zones_enough n l = let k : zones_for Z B capacity * Z ≤ n * Z = mul-le-mul_right Z l in omega (arith, up_enough (bits + 480) Z some_bits)

  pub zones_some : 1 ≤ zones_for Z B capacity
  zones_some = (le-div_iff_mul-le some_bits).1 (omega arith)

  pub zones_cover : (n : ℕ) → zones_for Z B capacity ≤ n → capacity ≤ (n * Z - 480) * B
  zones_cover n l =
      let k : bits * B ≤ (n * Z - 480) * B = mul-le-mul_right B (omega (arith, zones_enough n l)) in
      omega (arith, up_enough capacity B some_bytes)

  pub zones_least : 0 < capacity → (n : ℕ) → capacity ≤ (n * Z - 480) * B → zones_for Z B capacity ≤ n
  zones_least some n l =
      let b : bits ≤ n * Z - 480 = up_least capacity B some_bytes (n * Z - 480) l in
      let f : 0 < n * Z - 480 = (factors (n * Z - 480) B 0 (omega arith)).0 in
      up_least (bits + 480) Z some_bits n (omega arith)

-- a number of whole sectors is whole clusters of map bits
end_whole : (a b size : ℕ) → size % 2 ^ a ≡ 0 → size / 2 ^ b % cluster_of (2 ^ a) (2 ^ b) ≡ 0
end_whole a b size w = by_test (ltb (2 ^ b) (2 ^ a)) (λ t. parts (ltb-true (2 ^ b) (2 ^ a) t)) (λ t. rw (cluster_else (2 ^ a) (2 ^ b) (ltb-false (2 ^ b) (2 ^ a) t)) (mod-one _))
  where
    parts : 2 ^ b < 2 ^ a → size / 2 ^ b % cluster_of (2 ^ a) (2 ^ b) ≡ 0
    parts l =
        let up : b ≤ a = by_test (leb b a) (λ t. leb-true b a t) (λ t. let m : 2 ^ a ≤ 2 ^ b = pow_mono (omega (arith, leb-false b a t)) in absurd (omega arith)) in
        let c : ℕ = cluster_of (2 ^ a) (2 ^ b) in
        let q : ℕ = size / 2 ^ a in
        let sum : (a - b) + b ≡ a = omega arith in
        let s : 2 ^ (a - b) * 2 ^ b ≡ 2 ^ a = sym (pow-add 2 (a - b) b) ∙ ap (λ (x : ℕ). 2 ^ x) sum in
        let k : c * 2 ^ b ≡ 2 ^ a = cluster_parts (2 ^ a) (2 ^ b) (pow_pos b) l (ap (λ (x : ℕ). x % 2 ^ b) (sym s) ∙ mul-mod_left (2 ^ (a - b)) (2 ^ b)) in
        let m : q * (c * 2 ^ b) ≡ q * 2 ^ a = ap (λ (x : ℕ). q * x) k in
        let e : size ≡ q * c * 2 ^ b = omega (arith, div-add-mod' size (2 ^ a)) in
        ap (λ (x : ℕ). x / 2 ^ b % c) e ∙ ap (λ (x : ℕ). x % c) (mul-div_cancel (q * c) (pow_pos b)) ∙ mul-mod_left q c

module _ (logsector capacity idlen : ℕ) where
  abbrev g : Geometry
  g = geometry_from (blank_for logsector capacity idlen)

  -- a disc that fits
  module _ (h : disc_fits logsector capacity idlen ≡ true) where
    abbrev blank : DiscRecord
    blank = blank_for logsector capacity idlen

    passed : (0 < unit_for capacity) × (fields_fit blank ≡ true) × (geometry_fits g ≡ true)
    passed =
        let p = both (ltb 0 (unit_for capacity)) (fields_fit blank && geometry_fits g) h in
        let q = both (fields_fit blank) (geometry_fits g) p.1 in
        (ltb-true 0 (unit_for capacity) p.0, q.0, q.1)

    pub disc_fields : FieldRules (blank_for logsector capacity idlen)
    disc_fields = test_gives_fields blank passed.1

    pub disc_together : GeometryRules g
    disc_together = test_gives_together g passed.2

    pub disc_geometry : AcceptedGeometry g
    disc_geometry = rules_give_accepted blank disc_fields disc_together

    pub disc_unit : g.unit ≡ unit_for capacity
    disc_unit = unit_power capacity passed.0

    pub disc_fewest : (n : ℕ) → capacity ≤ (n * g.bits - 480) * g.unit → g.zones ≤ n
    disc_fewest n l =
        zones_least g.bits (unit_for capacity) capacity (omega (arith, disc_geometry.bits_low)) passed.0 disc_together.some_bytes n (rw disc_unit at l)

    -- fewer zones do not cover, so the last one starts by the disc's end
    pub disc_last : zone_from g (g.zones - 1) ≤ g.end.0
    disc_last =
        let room : ℕ = zone_from g (g.zones - 1) * g.unit in
        let short : room ≤ capacity =
        by_test (leb capacity room)
        (λ t. absurd (omega (arith, disc_fewest (g.zones - 1) (leb-true capacity room t), disc_fields.zones_low)))
        (λ t. omega (arith, leb-false capacity room t)) in
        (le-div_iff_mul-le (pow_pos (count_trailing_zeros 64 (unit_for capacity)))).1 short

    -- the disc ends with a cluster, since it is in whole sectors
    pub disc_end_clusters : g.end.0 % g.cluster ≡ 0
    disc_end_clusters = end_whole logsector (count_trailing_zeros 64 (unit_for capacity)) capacity disc_together.whole_sectors

    -- so its zones are in the ranges, and no fewer are
    pub disc_is_fewest : Fewest logsector capacity idlen g.zones
    disc_is_fewest = record { ranges = record { fields = disc_fields; together = disc_together }; fewest = λ j r. disc_fewest j r.together.within_map }

  -- any number of zones in the ranges shows that the disc fits, with no more
  module _ (n : ℕ) (r : InRanges logsector capacity idlen n) where
    some_bytes : 0 < unit_for capacity
    some_bytes = some_unit capacity r.fields.unit_high

    some_bits : 0 < 8 * 2 ^ logsector - 32
    some_bits = omega (arith, r.together.room_in_zone_0)

    bytes_are : (with_zones logsector capacity idlen n).unit ≡ unit_for capacity
    bytes_are = unit_power capacity some_bytes

    pub ranges_fewest : g.zones ≤ n
    ranges_fewest =
        zones_least (8 * 2 ^ logsector - 32) (unit_for capacity) capacity some_bits some_bytes r.together.some_bytes n (rw bytes_are at r.together.within_map)

    pub ranges_fit : disc_fits logsector capacity idlen ≡ true
    ranges_fit =
        let blank : DiscRecord = blank_for logsector capacity idlen in
        let f = r.fields in
        let t = r.together in
        let few = ranges_fewest in
        let some = zones_some g.bits (unit_for capacity) capacity some_bits some_bytes in
        let ids : g.ids * g.zones ≤ g.ids * n = mul-le-mul_left g.ids few in
        let cover : capacity ≤ (g.zones * g.bits - 480) * g.unit = rw bytes_are (zones_cover g.bits (unit_for capacity) capacity some_bits some_bytes g.zones (le_refl _)) in
        let fields : FieldRules blank = omega arith in
        let together : GeometryRules g = omega arith in
        and_true (ltb 0 (unit_for capacity)) _ (lt-ltb 0 (unit_for capacity) some_bytes) (and_true (fields_fit blank) _ (fields_give_test blank fields) (together_gives_test g together))

  pub fewest_are : (n : ℕ) → Fewest logsector capacity idlen n → n ≡ g.zones
  fewest_are n f =
      let up = ranges_fewest n f.ranges in
      let down = f.fewest g.zones (disc_is_fewest (ranges_fit n f.ranges)).ranges in
      omega arith
