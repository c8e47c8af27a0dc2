-- The answers of the check, case by case: the record and the length first, then the zone checks and the cross checks.
use mathlib.Core.Path.{◌≡◌, refl, sym, ap, ◌∙◌, subst⁻¹}
use mathlib.Core.Bool.{Bool, true, false}
use mathlib.Core.List.{List, []}
use mathlib.Core.Option as math
use mathlib.Core.Option.{none, some}
use mathlib.Core.Logic.{◌⊎◌, inl, inr}
use Prim.Native.Nat.{ℕ, ◌*◌, ◌<◌, ◌≤◌}
use native.Mathlib.Omega.{arith}
use lib.Dec.{eqb, leb}
use lib.ListN.{length}
use borrow.Author.Tests.{lt-leb, le-leb, eqb-true, eq-eqb, ne_eqb}
use Rattle.geometry.specs.declared.Geometry.{Geometry}
use Rattle.geometry.specs.declared.Refusal.{Refusal}
use Rattle.std.specs.Prelude.{Result, Ok, Err}
use Rattle.geometry.specs.Record.{disc_record, geometry_of}
use Rattle.geometry.specs.Ranges.{record_fits}
use Rattle.geometry.specs.Accepted.{AcceptedGeometry}
use Rattle.geometry.proofs.Numbers.{test_gives_accepted}
use Rattle.geometry.specs.Answers.{number, refusal, record_of}
use Rattle.geometry.proofs.RecordAnswers.{accepted_says, refused_says}
use Rattle.model.specs.Chain.{Entry}
use Rattle.model.specs.Answer.{Answer, refused, answered, unless}
use Rattle.model.specs.Check.{zones_read, differing, cross_sum, after_checks, blocks_read, blocks_of, length_fits, measured, map_read}
use Rattle.map.specs.Checked.{zones_told, check_answer, checked, byte_fault, check_bytes, check_numbers, check_told, Checks}
use Rattle.model.proofs.Numbered.{Numbered, map_numbered}

-- a map that the check refuses was read so
pub read_refused : (g : Geometry) (q : Answer (List (List Entry))) (r : Refusal) → Numbered q → check_answer g q ≡ Err r → q ≡ refused (number r.reason) r.zone
read_refused g (refused n z) r p e =
    let k : refusal n z ≡ r = cc in
    ap (λ (i : ℕ). refused i z) (sym p.told) ∙ ap (λ (x : Refusal). refused (number x.reason) x.zone) k
read_refused g (answered ess) r p e = let x : ◌≡◌ {A = ℕ} 0 1 = cc in absurd (omega arith)

-- the answer's numbers are the table's
pub checks : (m : List ℕ) {r : Result Geometry Refusal} → r ≡ checked m → Checks m r
checks m e = record { answer = e; numbers = ap check_numbers e ∙ told (map_read m) (map_numbered m) }
  where
    told : (q : Answer (List (List Entry))) → Numbered q → check_numbers (check_answer (geometry_of m) q) ≡ check_told q
    told (refused n z) p = ap (λ (i : ℕ). (i, z)) p.told
    told (answered ess) p = refl

-- the record and the length, and then whatever is asked of the blocks
module _ (m : List ℕ) where
  pub record_refused : (r : Refusal) → record_of m ≡ Err r → (q : Answer (List (List Entry))) → Err r ≡ check_answer (geometry_of m) (measured m q)
  record_refused r e q = go (refused_says m r e)
    where
      go : ((r ≡ refusal 1 0) × (length m < 64)) ⊎ ((r ≡ refusal 2 0) × (64 ≤ length m) × (record_fits (disc_record m) ≡ false)) → Err r ≡ check_answer (geometry_of m) (measured m q)
      go (inl w) = ap Err w.0 ∙ rw (lt-leb 64 (length m) w.1)
      go (inr w) = ap Err w.0 ∙ rw (le-leb 64 (length m) w.1, w.2)

  module _ (g : Geometry) (e : record_of m ≡ Ok g) where
    pub length_refused : (length m ≡ g.zones * g.sector → ⊥) → (q : Answer (List (List Entry))) → Err (refusal 1 0) ≡ check_answer (geometry_of m) (measured m q)
    length_refused n q =
        let a = accepted_says m g e in
        rw (
          le-leb 64 (length m) a.0,
          a.1,
          ne_eqb (length m) ((geometry_of m).zones * (geometry_of m).sector) (λ k. n (k ∙ ap (λ (x : Geometry). x.zones * x.sector) (sym a.2))),
        )

    pub length_right : length m ≡ g.zones * g.sector → (q : Answer (List (List Entry))) → check_answer g q ≡ check_answer (geometry_of m) (measured m q)
    length_right n q =
        let a = accepted_says m g e in
        ap (λ (x : Geometry). check_answer x q) a.2
        ∙ rw (le-leb 64 (length m) a.0, a.1, eq-eqb (length m) ((geometry_of m).zones * (geometry_of m).sector) (n ∙ ap (λ (x : Geometry). x.zones * x.sector) a.2))

-- a map whose record and length are right, and one that is refused for them
stopped : (a b c : Bool) (h : Geometry) (q : Answer (List (List Entry))) (r : Refusal)
    → check_answer h (unless a 1 (unless b 2 (unless c 1 (answered [])))) ≡ Err r → Err r ≡ check_answer h (unless a 1 (unless b 2 (unless c 1 q)))
stopped false b c h q r e = sym e
stopped true false c h q r e = sym e
stopped true true false h q r e = sym e
stopped true true true h q r e = let x : ◌≡◌ {A = ℕ} 0 1 = cc in absurd (omega arith)

all_right : (a b c : Bool) (h g : Geometry) → check_answer h (unless a 1 (unless b 2 (unless c 1 (answered [])))) ≡ Ok g → (a ≡ true) × (b ≡ true) × (c ≡ true) × (g ≡ h)
all_right false b c h g e = let x : ◌≡◌ {A = ℕ} 0 1 = cc in absurd (omega arith)
all_right true false c h g e = let x : ◌≡◌ {A = ℕ} 0 1 = cc in absurd (omega arith)
all_right true true false h g e = let x : ◌≡◌ {A = ℕ} 0 1 = cc in absurd (omega arith)
all_right true true true h g e = (refl, refl, refl, cc)

module _ (m : List ℕ) where
  abbrev pub sized : Result Geometry Refusal
  sized = check_answer (geometry_of m) (measured m (answered []))

  pub sized_refused : {r : Refusal} (q : Answer (List (List Entry))) → sized ≡ Err r → Err r ≡ check_answer (geometry_of m) (measured m q)
  sized_refused {r} q e = stopped (leb 64 (length m)) (record_fits (disc_record m)) (length_fits (geometry_of m) m) (geometry_of m) q r e

  module _ {g : Geometry} (e : sized ≡ Ok g) where
    parts : (leb 64 (length m) ≡ true) × (record_fits (disc_record m) ≡ true) × (length_fits (geometry_of m) m ≡ true) × (g ≡ geometry_of m)
    parts = all_right (leb 64 (length m)) (record_fits (disc_record m)) (length_fits (geometry_of m) m) (geometry_of m) g e

    pub right_size : AcceptedGeometry g × (length m ≡ g.zones * g.sector)
    right_size =
        subst⁻¹ (λ (x : Geometry). AcceptedGeometry x × (length m ≡ x.zones * x.sector)) parts.3
        (test_gives_accepted (disc_record m) parts.1, eqb-true (length m) ((geometry_of m).zones * (geometry_of m).sector) parts.2)

    pub rest_answer : (f : Geometry → Answer (List (List Entry))) → check_answer g (f g) ≡ check_answer (geometry_of m) (measured m (f (geometry_of m)))
    rest_answer f = ap (λ (x : Geometry). check_answer x (f x)) parts.3 ∙ rw (parts.0, parts.1, parts.2)

-- the zones judged: their refusal is the answer, and where they keep the rules it is the geometry
pub zones_refused : (g : Geometry) (q : Answer (List (List Entry))) {r : Refusal} → zones_told q ≡ Err r → Err r ≡ check_answer g q
zones_refused g (refused n z) {r} e = let x : r ≡ refusal n z = cc in ap Err x
zones_refused g (answered ess) e = let x : ◌≡◌ {A = ℕ} 0 1 = cc in absurd (omega arith)

pub zones_kept : (g : Geometry) (q : Answer (List (List Entry))) {t : Unit {0}} → zones_told q ≡ Ok t → Ok g ≡ check_answer g q
zones_kept g (refused n z) e = let x : ◌≡◌ {A = ℕ} 0 1 = cc in absurd (omega arith)
zones_kept g (answered ess) e = refl

-- the blocks, by their check bytes
module _ (g : Geometry) (m : List ℕ) where
  abbrev bs : List (List ℕ)
  bs = blocks_of g m

  bytes_refused : (r : Refusal) (o : math.Option ℕ) (b : Bool) → byte_fault o b ≡ Err r → Err r ≡ check_answer g (after_checks o (unless b 4 (zones_read g 0 bs)))
  bytes_refused r (some z) b e = let x : r ≡ refusal 3 z = cc in ap Err x
  bytes_refused r none true e = let x : ◌≡◌ {A = ℕ} 0 1 = cc in absurd (omega arith)
  bytes_refused r none false e = let x : r ≡ refusal 4 0 = cc in ap Err x

  bytes_right : {t : Unit {0}} (o : math.Option ℕ) (b : Bool) → byte_fault o b ≡ Ok t → zones_read g 0 bs ≡ after_checks o (unless b 4 (zones_read g 0 bs))
  bytes_right (some z) b e = let x : ◌≡◌ {A = ℕ} 0 1 = cc in absurd (omega arith)
  bytes_right none true e = refl
  bytes_right none false e = let x : ◌≡◌ {A = ℕ} 0 1 = cc in absurd (omega arith)

  pub blocks_refused : {r : Refusal} → check_bytes bs ≡ Err r → Err r ≡ check_answer g (blocks_read g bs)
  blocks_refused {r} e = bytes_refused r (differing 0 bs) (eqb (cross_sum bs) 255) e

  pub blocks_right : {t : Unit {0}} → check_bytes bs ≡ Ok t → zones_read g 0 bs ≡ blocks_read g bs
  blocks_right e = bytes_right (differing 0 bs) (eqb (cross_sum bs) 255) e
