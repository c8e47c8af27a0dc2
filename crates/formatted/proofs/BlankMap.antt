-- The map that has a record and else only 0 reads as that record: its bytes put together give the numbers back. So a disc that fits has a map
-- of bytes with an accepted record.
use mathlib.Core.Path.{◌≡◌, refl, sym, ap, subst, subst⁻¹}
use mathlib.Core.Bool.{true}
use mathlib.Core.List.{◌∷◌}
use Prim.Native.Nat.{ℕ, zero, suc, ◌+◌, ◌-◌, ◌*◌, ◌/◌, ◌%◌, ◌<◌, ◌≤◌}
use native.Mathlib.Nat.{mul-le-mul, div-div-eq-div-mul}
use native.Mathlib.Omega.{arith}
use lib.Dec.{ltb}
use lib.ListN.{length, replicate, length-replicate}
use borrow.Author.Tests.{ltb-true, ltb-false}
use Rattle.bits.specs.Bits.{Bytes}
use Rattle.bits.proofs.Tests.{by_test}
use Rattle.geometry.specs.declared.DiscRecord.{DiscRecord}
use Rattle.geometry.specs.Record.{disc_record, record_in, geometry_from}
use Rattle.geometry.specs.Ranges.{FieldRules, GeometryRules, longest_id, most_zones, ZeroBytes}
use Rattle.geometry.specs.Accepted.{AcceptedGeometry}
use Rattle.geometry.proofs.Rules.{rules_give_test}
use Rattle.geometry.proofs.ZeroBytes.{test_gives_zero}
use Rattle.geometry.proofs.Numbers.{rules_give_accepted}
use Rattle.edits.proofs.BytesKept.{bytes_append}
use Rattle.edits.proofs.StepWritten.{MapOf}
use Rattle.formatted.specs.Blank.{blank_for, disc_fits, record_bytes, blank_map}
use Rattle.formatted.specs.Drawn.{map_length}
use Rattle.formatted.proofs.Units.{unit_within}
use Rattle.formatted.proofs.Fewest.{disc_fields, disc_together, disc_geometry, disc_unit}

-- the record is where it is looked for
pub record_of_blank : (r : DiscRecord) (n : ℕ) → disc_record (blank_map r n) ≡ record_bytes r
record_of_blank r n = refl

-- and where it names no field it is 0
pub record_zeros : (r : DiscRecord) → ZeroBytes 1 4 (record_bytes r) × ZeroBytes 6 9 (record_bytes r) × ZeroBytes 12 16 (record_bytes r) × ZeroBytes 20 60 (record_bytes r)
record_zeros r = (test_gives_zero 1 4 (record_bytes r) refl, test_gives_zero 6 9 (record_bytes r) refl, test_gives_zero 12 16 (record_bytes r) refl, test_gives_zero 20 60 (record_bytes r) refl)

pub length_blank : (r : DiscRecord) (n : ℕ) → 64 ≤ n → length (blank_map r n) ≡ n
length_blank r n h = omega (arith, length-replicate {A = ℕ} (n - 64) 0)

-- bytes put together
two_together : (x : ℕ) → x % 256 + 256 * (x / 256) ≡ x
two_together x = omega arith

four_together : (x : ℕ) → x < 4294967296 → x % 256 + 256 * (x / 256 % 256) + 65536 * (x / 65536 % 256 + 256 * (x / 16777216 % 256)) ≡ x
four_together x h =
    let k : x / 16777216 < 256 = omega arith in
    byte_by_byte x (x / 256) (x / 65536) (x / 16777216) refl (sym (div-div-eq-div-mul x 256 256)) (sym (div-div-eq-div-mul x 65536 256)) k
  where
    byte_by_byte : (x a b c : ℕ) → a ≡ x / 256 → b ≡ a / 256 → c ≡ b / 256 → c < 256 → x % 256 + 256 * (a % 256) + 65536 * (b % 256 + 256 * (c % 256)) ≡ x
    byte_by_byte x a b c e1 e2 e3 l = omega arith

pub record_back : (r : DiscRecord) → r.version ≡ 0 → r.size < 4294967296 → record_in (record_bytes r) ≡ r
record_back r v h = λ i. record {
  logsector = r.logsector;
  idlen = r.idlen;
  logunit = r.logunit;
  zones = r.zones;
  spare = two_together r.spare i;
  size = four_together r.size h i;
  version = sym v i;
}

pub bytes_zero : (n : ℕ) → Bytes (replicate n 0)
bytes_zero zero = tt
bytes_zero (suc n) = (omega arith, bytes_zero n)

blank_bytes : (r : DiscRecord) (n : ℕ) → r.logsector < 256 → r.idlen < 256 → r.logunit < 256 → r.zones < 256 → r.spare < 65536 → Bytes (blank_map r n)
blank_bytes r n a b c d e =
    let z : 0 < 256 = omega arith in
    let w : (x : ℕ) → x % 256 < 256 = λ x. omega arith in
    let size : Bytes (r.size % 256 ∷ r.size / 256 % 256 ∷ r.size / 65536 % 256 ∷ r.size / 16777216 % 256 ∷ replicate 40 0) = (w _, (w _, (w _, (w _, bytes_zero 40)))) in
    let fields : Bytes (record_bytes r) = (a, (z, (z, (z, (b, (c, (z, (z, (z, (d, (w _, (omega arith, (z, (z, (z, (z, size)))))))))))))))) in
    (z, (z, (z, (z, bytes_append (record_bytes r) (replicate (n - 64) 0) fields (bytes_zero (n - 64))))))

-- a map of bytes whose record is accepted, of any such record
pub blank_map_law : (r : DiscRecord) → r.version ≡ 0 → r.spare < 65536 → r.size < 4294967296 → FieldRules r → GeometryRules (geometry_from r)
    → MapOf (geometry_from r) (blank_map r (map_length (geometry_from r)))
blank_map_law r v p h f t =
    let ok : AcceptedGeometry (geometry_from r) = rules_give_accepted r f t in
    let long : 1 * 256 ≤ map_length (geometry_from r) = mul-le-mul ok.zones_low ok.sector_low in
    let id : r.idlen ≤ 15 = subst (λ (x : ℕ). r.idlen ≤ longest_id x) v f.idlen_high in
    let count : r.zones ≤ 255 = subst (λ (x : ℕ). r.zones ≤ most_zones x) v f.zones_high in
    let back : record_in (record_bytes r) ≡ r = record_back r v h in
    record {
      geometry = ap geometry_from back;
      record_fits_law = rules_give_test (record_bytes r) (record {
        fields = subst⁻¹ FieldRules back f;
        together = subst⁻¹ (λ (x : DiscRecord). GeometryRules (geometry_from x)) back t;
        reserved = test_gives_zero 32 60 (record_bytes r) refl;
      });
      accepted = ok;
      whole = length_blank r (map_length (geometry_from r)) (omega arith);
      bytes = blank_bytes r (map_length (geometry_from r)) (omega arith) (omega arith) (omega arith) (omega arith) p;
    }

-- a disc that fits
module _ (logsector capacity idlen : ℕ) (h : disc_fits logsector capacity idlen ≡ true) where
  abbrev r : DiscRecord
  r = blank_for logsector capacity idlen

  -- the table ends far below what four bytes count
  pub size_small : capacity < 4294967296
  size_small = omega (arith, (unit_within capacity (omega (arith, disc_unit logsector capacity idlen h, (disc_geometry logsector capacity idlen h).unit_low))).0)

  pub blank_of : let r = blank_for logsector capacity idlen in MapOf (geometry_from r) (blank_map r (map_length (geometry_from r)))
  blank_of = blank_map_law r refl (omega arith) size_small (disc_fields logsector capacity idlen h) (disc_together logsector capacity idlen h)

  pub blank_record_law : (n : ℕ) → record_in (disc_record (blank_map (blank_for logsector capacity idlen) n)) ≡ blank_for logsector capacity idlen
  blank_record_law n = record_back r refl size_small
