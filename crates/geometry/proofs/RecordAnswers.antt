-- Reading a map's record: the three answers, each from what the tests found, and what each answer says of the map.
use mathlib.Core.Path.{◌≡◌, refl, sym, ap, ap₂, ◌∙◌, subst}
use mathlib.Core.Bool.{Bool, true, false, cond, ◌&&◌}
use mathlib.Core.List.{List}
use mathlib.Core.Logic.{◌⊎◌, inl, inr}
use Prim.Native.Nat.{ℕ, ◌<◌, ◌≤◌}
use native.Mathlib.Omega.{arith}
use lib.Dec.{ltb}
use lib.ListN.{length}
use borrow.Author.Tests.{ltb-true, ltb-false, lt-ltb, le-ltb}
use Rattle.geometry.specs.declared.DiscRecord.{DiscRecord}
use Rattle.geometry.specs.declared.Geometry.{Geometry}
use Rattle.geometry.specs.declared.Refusal.{Refusal}
use Rattle.std.specs.Prelude.{Option, None, Result, Ok, Err, ok_or}
use Rattle.std.specs.Bool.{then_some}
use Rattle.geometry.specs.Record.{disc_record, record_in, geometry_from, geometry_in, geometry_of}
use Rattle.geometry.specs.Ranges.{zero_from, zero_end, fields_fit, geometry_fits, zero_bytes, record_fits}
use Rattle.geometry.specs.Accepted.{AcceptedGeometry}
use Rattle.geometry.specs.Answers.{refusal, by_fit, by_length, record_of, record_numbers, ReadsRecord}
use Rattle.geometry.proofs.Numbers.{test_gives_accepted}

-- the tests as the code makes them are those of a record that fits
module _ (bs : List ℕ) {r : DiscRecord} (e : r ≡ record_in bs) where
  abbrev rest : DiscRecord → Bool
  rest x = geometry_fits (geometry_from x) && zero_bytes (zero_from x.version) (zero_end x.version) bs

  pub unfitting : fields_fit r ≡ false → None ≡ then_some (record_fits bs) (geometry_in bs)
  unfitting f = let t : fields_fit (record_in bs) ≡ false = ap fields_fit (sym e) ∙ f in rw t refl

  pub fitting : {g : Geometry} {t : Bool} → g ≡ geometry_from r → fields_fit r ≡ true
      → t ≡ geometry_fits g && zero_bytes (zero_from r.version) (zero_end r.version) bs
      → then_some t g ≡ then_some (record_fits bs) (geometry_in bs)
  fitting {g} {t} h f k =
      ap₂ {C = Option Geometry} (λ x y. then_some x y)
      (k ∙ ap (λ (x : Geometry). geometry_fits x && zero_bytes (zero_from r.version) (zero_end r.version) bs) h
      ∙ sym (ap (λ (b : Bool). b && rest r) f) ∙ ap (λ (x : DiscRecord). fields_fit x && rest x) e)
      (h ∙ ap geometry_from e)

-- what a map's record gives, or its refusal
pub read_short : (m : List ℕ) → length m < 64 → Err (refusal 1 0) ≡ record_of m
read_short m h = rw (lt-ltb (length m) 64 h)

pub read_long : (m : List ℕ) → 64 ≤ length m → {o : Option Geometry} → o ≡ then_some (record_fits (disc_record m)) (geometry_of m)
    → ok_or o (refusal 2 0) ≡ record_of m
read_long m long {o} e = ap (λ (x : Option Geometry). ok_or x (refusal 2 0)) e ∙ rw (le-ltb (length m) 64 long) (go (record_fits (disc_record m)))
  where
    go : (b : Bool) → ok_or (then_some b (geometry_of m)) (refusal 2 0) ≡ by_fit b (geometry_of m)
    go true = refl
    go false = refl

-- the answer's numbers are the table's
pub reads_record : (m : List ℕ) {r : Result Geometry Refusal} → r ≡ record_of m → ReadsRecord m r
reads_record m e = record { answer = e; numbers = ap record_numbers e ∙ told (ltb (length m) 64) (record_fits (disc_record m)) }
  where
    told : (short fits : Bool) → record_numbers (by_length short (by_fit fits (geometry_of m))) ≡ cond short (1, 0) (cond fits (0, 0) (2, 0))
    told true fits = refl
    told false true = refl
    told false false = refl

-- from the answer to the tests
module _ (m : List ℕ) where
  pub accepted_says : (g : Geometry) → record_of m ≡ Ok g → (64 ≤ length m) × (record_fits (disc_record m) ≡ true) × (g ≡ geometry_of m)
  accepted_says g = go (ltb (length m) 64) (record_fits (disc_record m)) (geometry_of m) refl
    where
      go : (short fits : Bool) (h : Geometry) → ltb (length m) 64 ≡ short → by_length short (by_fit fits h) ≡ Ok g
          → (64 ≤ length m) × (fits ≡ true) × (g ≡ h)
      go true fits h l e = let x : ◌≡◌ {A = ℕ} 0 1 = cc in absurd (omega arith)
      go false true h l e = (ltb-false (length m) 64 l, refl, cc)
      go false false h l e = let x : ◌≡◌ {A = ℕ} 0 1 = cc in absurd (omega arith)

  pub refused_says : (r : Refusal) → record_of m ≡ Err r
      → ((r ≡ refusal 1 0) × (length m < 64)) ⊎ ((r ≡ refusal 2 0) × (64 ≤ length m) × (record_fits (disc_record m) ≡ false))
  refused_says r = go (ltb (length m) 64) (record_fits (disc_record m)) (geometry_of m) refl
    where
      go : (short fits : Bool) (h : Geometry) → ltb (length m) 64 ≡ short → by_length short (by_fit fits h) ≡ Err r
          → ((r ≡ refusal 1 0) × (length m < 64)) ⊎ ((r ≡ refusal 2 0) × (64 ≤ length m) × (fits ≡ false))
      go true fits h l e = inl (cc, ltb-true (length m) 64 l)
      go false true h l e = let x : ◌≡◌ {A = ℕ} 0 1 = cc in absurd (omega arith)
      go false false h l e = inr (cc, ltb-false (length m) 64 l, refl)

  pub accepted_geometry : (g : Geometry) → record_of m ≡ Ok g → AcceptedGeometry g
  accepted_geometry g e =
      let a = accepted_says g e in
      subst (λ (x : Geometry). AcceptedGeometry x) (sym a.2) (test_gives_accepted (disc_record m) a.1)
