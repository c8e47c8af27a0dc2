-- The numbers that a record fixes: their bounds, and how they hang together. Clusters come from one table, computed at all
-- 18 pairs of a sector size and a unit size; the rest is arithmetic on powers, quotients and the rules.
use mathlib.Core.Path.{◌≡◌, refl, sym, ap, ◌∙◌, subst}
use mathlib.Core.Bool.{Bool, true, ◌&&◌}
use mathlib.Core.List.{List}
use Prim.Native.Nat.{ℕ, suc, ◌+◌, ◌-◌, ◌*◌, ◌/◌, ◌%◌, ◌^◌, ◌<◌, ◌≤◌}
use native.Mathlib.Nat.{mul-mod_left, div-add-mod', mod-lt, div-le_self, le-div_iff_mul-le, div-lt_iff_lt-mul, suc-mul, mul-le-mul}
use native.Mathlib.Omega.{arith}
use lib.Dec.{eqb, leb}
use lib.Pow.{pow_mono, pow-add, pow_pos}
use borrow.Author.Rules.{rules}
use borrow.Author.Tests.{leb-true, eqb-true, lt-ltb, le-ltb}
use Rattle.bits.proofs.Tests.{by_test, both}
use Rattle.bits.proofs.Below.{below, at}
use Rattle.geometry.specs.declared.DiscRecord.{DiscRecord}
use Rattle.geometry.specs.declared.Geometry.{Geometry}
use Rattle.geometry.specs.Record.{cluster_of, round_up, by_version, record_in, geometry_from, geometry_in, floppy_disc, drive_of, plus_disc}
use Rattle.geometry.specs.Ranges.{FieldRules, GeometryRules, most_zones, longest_id, zero_from, zero_end, ZeroBytes, RecordRules, record_fits}
use Rattle.geometry.specs.Accepted.{SmallNumbers, AcceptedGeometry}
use Rattle.geometry.proofs.Rules.{test_gives_rules}

-- a cluster's bits: 1 to 8, and they divide a block's header and the room of the disc record
record Clusters (k : ℕ) : Type 0 where
  low : 1 ≤ k
  high : k ≤ 8
  header : 32 % k ≡ 0
  record_room : 480 % k ≡ 0

abbrev cluster_test : ℕ → Bool
cluster_test k = leb 1 k && (leb k 8 && (eqb (32 % k) 0 && eqb (480 % k) 0))

abbrev sizes_test : ℕ → ℕ → Bool
sizes_test log_s log_b = cluster_test (cluster_of (2 ^ log_s) (2 ^ log_b))

table : (s b : ℕ) → s < 3 → b < 6 → sizes_test (8 + s) (7 + b) ≡ true
table s b hs hb = at 6 (λ y. sizes_test (8 + s) (7 + y)) (at 3 (λ x. below 6 (λ y. sizes_test (8 + x) (7 + y))) refl s hs) b hb

passed : (k : ℕ) → cluster_test k ≡ true → Clusters k
passed k t =
    let p1 = both (leb 1 k) _ t in
    let p2 = both (leb k 8) _ p1.1 in
    let p3 = both (eqb (32 % k) 0) (eqb (480 % k) 0) p2.1 in
    record { low = leb-true 1 k p1.0; high = leb-true k 8 p2.0; header = eqb-true (32 % k) 0 p3.0; record_room = eqb-true (480 % k) 0 p3.1 }

clusters : (log_s log_b : ℕ) → 8 ≤ log_s → log_s ≤ 10 → 7 ≤ log_b → log_b ≤ 12 → Clusters (cluster_of (2 ^ log_s) (2 ^ log_b))
clusters log_s log_b sl sh bl bh =
    let es : 8 + (log_s - 8) ≡ log_s = omega arith in
    let eb : 7 + (log_b - 7) ≡ log_b = omega arith in
    passed (cluster_of (2 ^ log_s) (2 ^ log_b)) ((λ i. sizes_test (sym es i) (sym eb i)) ∙ table (log_s - 8) (log_b - 7) (omega arith) (omega arith))

-- a number rounded up is at least itself, and less than a cluster above
pub rounded : (x k : ℕ) → 1 ≤ k → (x ≤ round_up x k) × (round_up x k ≤ x + k - 1)
rounded x k h =
    let e : (x + k - 1) / k * k + (x + k - 1) % k ≡ x + k - 1 = div-add-mod' (x + k - 1) k in
    let l : (x + k - 1) % k < k = mod-lt (x + k - 1) h in
    (omega arith, omega arith)

pub rounded_whole : (x k : ℕ) → round_up x k % k ≡ 0
rounded_whole x k = mul-mod_left ((x + k - 1) / k) k

-- what holds of both editions' numbers holds of the version's
pub either_version : (P : ℕ → Type 0) (version : ℕ) {x e plus : ℕ} → x ≡ by_version version e plus → P e → P plus → P x
either_version P version i k l = subst P (sym i) (by_test (eqb version 0) (λ t. rw t k) (λ t. rw t l))

-- the geometry of a record whose fields keep their rules
module _ (r : DiscRecord) (f : FieldRules r) where
  abbrev g : Geometry
  g = geometry_from r

  cluster : Clusters g.cluster
  cluster = clusters r.logsector r.logunit f.sector_low f.sector_high f.unit_low f.unit_high

  -- of either edition
  pub id_at_most : r.idlen ≤ 19
  id_at_most = let l : longest_id r.version ≤ 19 = either_version (λ n. n ≤ 19) r.version refl (omega arith) (omega arith) in omega arith

  zones_at_most : r.zones ≤ 65535
  zones_at_most = let l : most_zones r.version ≤ 65535 = either_version (λ n. n ≤ 65535) r.version refl (omega arith) (omega arith) in omega arith

  -- S is a multiple of 4, as 2^(log2secsize - 2) * 4
  words : g.sector % 4 ≡ 0
  words =
      let e : 2 + (r.logsector - 2) ≡ r.logsector = omega (arith, f.sector_low) in
      let q : 2 ^ 2 * 2 ^ (r.logsector - 2) ≡ g.sector = sym (pow-add 2 2 (r.logsector - 2)) ∙ ap (λ (x : ℕ). 2 ^ x) e in
      omega arith

  -- 8S is 2^(log2secsize + 3)
  reach : 8 * g.sector ≤ 2 ^ r.idlen
  reach =
      let l : 3 + r.logsector ≤ r.idlen = omega (arith, f.idlen_low) in
      subst (λ (x : ℕ). x ≤ 2 ^ r.idlen) (pow-add 2 3 r.logsector) (pow_mono l)

  -- what the fields alone give
  pub fields_give_small : SmallNumbers g
  fields_give_small =
      let s : g.sector ≤ 2 ^ 10 = pow_mono f.sector_high in
      let b : g.unit ≤ 2 ^ 12 = pow_mono f.unit_high in
      let m = rounded (r.idlen + 1) g.cluster cluster.low in
      let k = cluster in
      let i : g.ids ≤ g.bits = div-le_self g.bits (r.idlen + 1) in
      record {
        sector_low = pow_pos r.logsector;
        idlen_high = id_at_most;
        unit_high = omega arith;
        zones_high = omega (arith, zones_at_most);
        cluster_low = k.low;
        bits_high = omega arith;
        shortest_high = omega (arith, id_at_most);
        ids_high = omega arith;
      }

  -- what they give with the rules on what they give together
  module _ (t : GeometryRules g) where
    ended : g.end.0 ≤ g.zones * g.bits - 480
    ended =
        let most : ℕ = g.zones * g.bits - 480 in
        let l : g.size < suc most * g.unit = rw (suc-mul most g.unit) (omega (arith, t.within_map, pow_pos r.logunit)) in
        let d : g.end.0 < suc most = (div-lt_iff_lt-mul (pow_pos r.logunit)).1 l in
        omega arith

    pub rules_give_accepted : AcceptedGeometry g
    rules_give_accepted =
        let s1 : 2 ^ 8 ≤ g.sector = pow_mono f.sector_low in
        let s2 : g.sector ≤ 2 ^ 10 = pow_mono f.sector_high in
        let b1 : 2 ^ 7 ≤ g.unit = pow_mono f.unit_low in
        let b2 : g.unit ≤ 2 ^ 12 = pow_mono f.unit_high in
        let k = cluster in
        let m = rounded (r.idlen + 1) g.cluster k.low in
        let id : 12 ≤ r.idlen + 1 = omega arith in
        let z1 : 480 ≤ g.bits = omega arith in
        let z2 : g.bits ≤ 8160 = omega arith in
        let few : 25 * (r.idlen + 1) ≤ g.bits = omega (arith, id_at_most) in
        let many : g.bits < 681 * (r.idlen + 1) = omega arith in
        let pos : 0 < r.idlen + 1 = omega arith in
        let i1 : 25 ≤ g.ids = (le-div_iff_mul-le pos).1 few in
        let i2 : g.ids < 681 = (div-lt_iff_lt-mul pos).1 many in
        record {
          sector_low = s1;
          sector_high = s2;
          sector_words = words;
          idlen_low = omega arith;
          idlen_high = id_at_most;
          unit_low = b1;
          unit_high = b2;
          zones_low = f.zones_low;
          zones_high = omega (arith, zones_at_most);
          cluster_low = k.low;
          cluster_high = k.high;
          bits_low = t.room_in_zone_0;
          bits_high = z2;
          bits_in_block = omega arith;
          links_reach = reach;
          bits_clusters = t.whole_clusters;
          header_clusters = k.header;
          record_clusters = k.record_room;
          shortest_low = m.0;
          shortest_high = omega arith;
          shortest_clusters = rounded_whole (r.idlen + 1) g.cluster;
          ids_are = refl;
          ids_low = i1;
          ids_high = omega arith;
          ids_fit = t.enough_ids;
          size_low = t.some_bytes;
          size_sectors = t.whole_sectors;
          size_high = t.within_map;
          end_is = refl;
          end_high = ended;
        }

-- what an accepted record gives, from the rules and from the test
pub accepted : (r : List ℕ) → RecordRules r → AcceptedGeometry (geometry_in r)
accepted r k = rules_give_accepted (record_in r) k.fields k.together

pub test_gives_accepted : (r : List ℕ) → record_fits r ≡ true → AcceptedGeometry (geometry_in r)
test_gives_accepted r t = accepted r (test_gives_rules r t)

-- two bench lines: the floppy of 819,200 bytes, and P's divisor without the rounding to clusters
pub floppy : let g = geometry_from (floppy_disc 15) in (g.bits ≡ 6880) × (g.shortest ≡ 16) × (g.ids ≡ 430) × (g.end.0 ≡ 6400)
floppy = (refl, refl, refl, refl)

pub divisor : let g = geometry_from (floppy_disc 13) in (g.bits ≡ 6880) × (g.shortest ≡ 16) × (g.ids ≡ 491)
divisor = (refl, refl, refl)

-- a record with these fields keeps the rules where they do
keeps : (r : List ℕ) (d : DiscRecord) → record_in r ≡ d → FieldRules d → GeometryRules (geometry_from d) → ZeroBytes (zero_from d.version) (zero_end d.version) r
    → RecordRules r
keeps r d e f t zero =
    record {
      fields = subst FieldRules (sym e) f;
      together = subst (λ (x : DiscRecord). GeometryRules (geometry_from x)) (sym e) t;
      reserved = subst (λ (x : DiscRecord). ZeroBytes (zero_from x.version) (zero_end x.version) r) (sym e) zero;
    }

-- "drives with 256-byte sectors and up to 255 zones"
pub drives : (r : List ℕ) (n : ℕ) → 1 ≤ n → n ≤ 255 → record_in r ≡ drive_of n → ZeroBytes 32 60 r → RecordRules r
drives r n low high e zero = keeps r (drive_of n) e (search rules) (search rules) zero

-- E+ discs of 1 to 20,971 zones, and no more
pub plus_discs : (r : List ℕ) (n : ℕ) → 1 ≤ n → n ≤ 20971 → record_in r ≡ plus_disc n → ZeroBytes 36 40 r → RecordRules r
plus_discs r n low high e zero = keeps r (plus_disc n) e (search rules) (search rules) zero

pub most_zones_law : (r : List ℕ) → RecordRules r → (record_in r).zones ≤ 20971
most_zones_law r k =
    let a = accepted r k in
    let g : Geometry = geometry_in r in
    let p : 2 ^ g.idlen ≤ 2 ^ 19 = pow_mono a.idlen_high in
    let same : g.zones ≤ g.zones = omega arith in
    let l : 25 * g.zones ≤ g.ids * g.zones = mul-le-mul a.ids_low same in
    omega (arith, p, l, a.ids_fit)

-- clusters
pub cluster_parts : (S B : ℕ) → 0 < B → B < S → S % B ≡ 0 → cluster_of S B * B ≡ S
cluster_parts S B p h e = simp (lt-ltb B S h) (omega (arith, div-add-mod' S B))

pub cluster_else : (S B : ℕ) → S ≤ B → cluster_of S B ≡ 1
cluster_else S B h = simp (le-ltb B S h)
