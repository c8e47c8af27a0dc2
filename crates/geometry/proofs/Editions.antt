-- Maps by their format version: where its bytes lie, what each edition refuses, and that a record of version 0 is judged as it was
-- before there were versions.
use mathlib.Core.Path.{◌≡◌, refl, sym, ap, ◌∙◌}
use mathlib.Core.Bool.{Bool, true, ◌&&◌}
use mathlib.Core.List.{List}
use Prim.Native.Nat.{ℕ, ◌+◌, ◌-◌, ◌*◌, ◌<◌, ◌≤◌}
use native.Mathlib.Omega.{arith}
use lib.ListN.{length, get_or, drop}
use lib.Seq.{get_or-take, get_or-drop}
use borrow.Author.Tests.{le-ltb}
use Rattle.bits.proofs.Tests.{by_test, both}
use Rattle.geometry.specs.declared.DiscRecord.{DiscRecord}
use Rattle.geometry.specs.Record.{disc_record, byte_at, by_version, version_in, record_as, geometry_from, geometry_in, version_of, geometry_of}
use Rattle.geometry.specs.Ranges.{RecordRules, ZeroBytes, zero_from, zero_end, fields_fit, geometry_fits, zero_bytes, record_fits}
use Rattle.geometry.specs.Answers.{record_told}
use Rattle.geometry.specs.Version0.{record_in0, geometry_in0, fields_fit0, record_fits0}
use Rattle.geometry.proofs.ZeroBytes.{test_gives_zero}
use Rattle.geometry.proofs.Rules.{test_gives_rules}
use Rattle.geometry.proofs.Numbers.{either_version}

-- a byte of the record is the map's, 4 bytes on
in_map : (m : List ℕ) (i : ℕ) → i < 60 → byte_at (disc_record m) i ≡ get_or m (4 + i) 0
in_map m i h = get_or-take 60 (drop 4 m) i 0 h ∙ get_or-drop 4 m i 0

pub version_at : (m : List ℕ) → version_of m ≡ get_or m 48 0 + 256 * get_or m 49 0 + 65536 * (get_or m 50 0 + 256 * get_or m 51 0)
version_at m = rw (in_map m 44 (omega arith), in_map m 45 (omega arith), in_map m 46 (omega arith), in_map m 47 (omega arith)) refl

pub zones_at : (m : List ℕ) → (version_of m ≡ 0 → (geometry_of m).zones ≡ get_or m 13 0) × (version_of m ≡ 1 → (geometry_of m).zones ≡ get_or m 13 0 + 256 * get_or m 46 0)
zones_at m =
    let low = in_map m 9 (omega arith) in
    let high = in_map m 42 (omega arith) in
    let zones : ℕ → ℕ = λ v. by_version v (byte_at (disc_record m) 9) (byte_at (disc_record m) 9 + 256 * byte_at (disc_record m) 42) in
    ((λ e. ap zones e ∙ low), (λ e. ap zones e ∙ (λ i. low i + 256 * high i)))

-- a map whose record breaks a rule is refused with 2
refused_2 : (m : List ℕ) → 64 ≤ length m → (RecordRules (disc_record m) → ⊥) → record_told m ≡ (2, 0)
refused_2 m long broken =
    by_test (record_fits (disc_record m)) (λ t. absurd (broken (test_gives_rules (disc_record m) t))) (λ t. rw (le-ltb (length m) 64 long, t) refl)

pub other_version : (m : List ℕ) → 64 ≤ length m → 1 < version_of m → record_told m ≡ (2, 0)
other_version m long h = refused_2 m long (λ k. omega (arith, k.fields.version_high))

-- a byte that has to be 0 and is not
not_zero : (m : List ℕ) → 64 ≤ length m → (b : ℕ) → 4 + zero_from (version_of m) ≤ b → b < 4 + zero_end (version_of m) → b < 64 → (get_or m b 0 ≡ 0 → ⊥) → record_told m ≡ (2, 0)
not_zero m long b low high within rubbish =
    let i : 4 + (b - 4) ≡ b = omega arith in
    let at : byte_at (disc_record m) (b - 4) ≡ get_or m b 0 = in_map m (b - 4) (omega arith) ∙ ap (λ (j : ℕ). get_or m j 0) i in
    refused_2 m long (λ k. rubbish (sym at ∙ k.reserved (b - 4) (omega arith) (omega arith)))

pub high_size : (m : List ℕ) → 64 ≤ length m → (b : ℕ) → 40 ≤ b → b < 44 → (get_or m b 0 ≡ 0 → ⊥) → record_told m ≡ (2, 0)
high_size m long b low high =
    let from : zero_from (version_of m) ≤ 36 = either_version (λ n. n ≤ 36) (version_of m) refl (omega arith) (omega arith) in
    let end : 40 ≤ zero_end (version_of m) = either_version (λ n. 40 ≤ n) (version_of m) refl (omega arith) (omega arith) in
    not_zero m long b (omega arith) (omega arith) (omega arith)

pub dirty : (m : List ℕ) → 64 ≤ length m → version_of m ≡ 0 → (b : ℕ) → 36 ≤ b → b < 64 → (get_or m b 0 ≡ 0 → ⊥) → record_told m ≡ (2, 0)
dirty m long e b low high =
    let from : zero_from (version_of m) ≡ 32 = ap zero_from e in
    let end : zero_end (version_of m) ≡ 60 = ap zero_end e in
    not_zero m long b (omega arith) (omega arith) high

-- a record of version 0: what the version decides is what it was before
module _ (r : List ℕ) where
  abbrev fits_as : ℕ → Bool
  fits_as v = let d : DiscRecord = record_as v r in fields_fit d && (geometry_fits (geometry_from d) && zero_bytes (zero_from v) (zero_end v) r)

  pub version_0 : version_in r ≡ 0 → (record_fits r ≡ record_fits0 r) × (geometry_in r ≡ geometry_in0 r)
  version_0 e = (ap fits_as e, ap (λ (v : ℕ). geometry_from (record_as v r)) e)

  pub accepted_0 : record_fits0 r ≡ true → version_in r ≡ 0
  accepted_0 t =
      let p = both (fields_fit0 (record_in0 r)) _ t in
      let q = both (geometry_fits (geometry_in0 r)) (zero_bytes 32 60 r) p.1 in
      let zero : ZeroBytes 32 60 r = test_gives_zero 32 60 r q.1 in
      let b0 = zero 44 (omega arith) (omega arith) in
      let b1 = zero 45 (omega arith) (omega arith) in
      let b2 = zero 46 (omega arith) (omega arith) in
      let b3 = zero 47 (omega arith) (omega arith) in
      omega arith
