-- Start zones. An id is below P*nzones exactly when id div P is below nzones, so the division finds the refusal and the
-- zone alike.
use mathlib.Core.Path.{◌≡◌, refl, sym, ap, ◌∙◌}
use Prim.Native.Nat.{ℕ, zero, suc, ◌*◌, ◌/◌, ◌<◌, ◌≤◌}
use native.Mathlib.Nat.{zero-mul, mul-zero, mul_comm, div-mul-le_self, div-lt_iff_lt-mul, le-div_iff_mul-le, not-suc-le-zero, zero-lt-suc}
use native.Mathlib.Omega.{arith}
use lib.Dec.{eqb, ltb}
use borrow.Author.Tests.{lt-ltb, le-ltb, ltb-true, ltb-false, ne_eqb}
use Rattle.bits.proofs.Tests.{by_test, and_with_false}
use Rattle.geometry.specs.declared.Geometry.{Geometry}
use Rattle.std.specs.Prelude.{Result, Ok, Err}
use Rattle.geometry.specs.Record.{geometry_from, eight_zones}
use Rattle.geometry.specs.Places.{start_zone, id_from}
use Rattle.geometry.specs.Answers.{refusal, start_of, start_numbers, by_name, TellsStart}
use Rattle.geometry.specs.declared.Refusal.{Refusal}
use mathlib.Core.Bool.{Bool, true, false, cond}

-- a product with a number below it has two factors above 0
pub factors : (p q n : ℕ) → n < p * q → (0 < p) × (0 < q)
factors zero q n h = absurd (not-suc-le-zero (rw zero-mul at h))
factors (suc p) zero n h = absurd (not-suc-le-zero (rw mul-zero at h))
factors (suc p) (suc q) n h = (zero-lt-suc p, zero-lt-suc q)

module _ (g : Geometry) (id : ℕ) where
  pub start_by_ids : 0 < g.ids → (id ≡ 2 → ⊥) → (start_zone g id * g.ids ≤ id) × (id < suc (start_zone g id) * g.ids)
  start_by_ids p n = rw (ne_eqb id 2 n) (div-mul-le_self id g.ids, (div-lt_iff_lt-mul p).0 (omega arith))

  pub start_in_range : 1 ≤ id → id < g.ids * g.zones → start_zone g id < g.zones
  start_in_range l h =
      let f = factors g.ids g.zones id h in
      let q : id / g.ids < g.zones = (div-lt_iff_lt-mul f.0).1 (rw mul_comm at h) in
      by_test (eqb id 2) (λ t. rw t (omega arith)) (λ t. rw t q)

  -- no id lies below P*nzones where P is 0; elsewhere id div P tells
  pub no_ids : (low : ℕ) → g.ids ≡ 0 → false ≡ id_from low g id
  no_ids low e =
      let p : g.ids * g.zones ≡ 0 = ap (λ (x : ℕ). x * g.zones) e ∙ zero-mul g.zones in
      rw (le-ltb id (g.ids * g.zones) (omega arith), and_with_false)

  pub by_division : (g.ids ≡ 0 → ⊥) → ltb (id / g.ids) g.zones ≡ ltb id (g.ids * g.zones)
  by_division n =
      let pos : 0 < g.ids = omega arith in
      by_test (ltb (id / g.ids) g.zones)
      (λ t. let p : id < g.zones * g.ids = (div-lt_iff_lt-mul pos).0 (ltb-true _ _ t) in t ∙ sym (lt-ltb _ _ (rw mul_comm at p)))
      (λ t. let p : g.zones * g.ids ≤ id = (le-div_iff_mul-le pos).0 (ltb-false _ _ t) in t ∙ sym (le-ltb _ _ (rw mul_comm at p)))

-- the answer's numbers are the paper's
pub starts_at : (g : Geometry) (low id : ℕ) {r : Result ℕ Refusal} → r ≡ start_of g low id → TellsStart g low id r
starts_at g low id e = record { answer = e; numbers = ap start_numbers e ∙ told (id_from low g id) (start_zone g id) }
  where
    told : (b : Bool) (z : ℕ) → start_numbers (by_name b z) ≡ cond b (0, 0, z) (8, 0, 0)
    told true z = refl
    told false z = refl

-- what an answer says of the id: it is named, or it is refused with 8
pub named : (b : Bool) (z s : ℕ) → by_name b z ≡ Ok s → (b ≡ true) × (s ≡ z)
named true z s e = (refl, cc)
named false z s e = let x : ◌≡◌ {A = ℕ} 0 1 = cc in absurd (omega arith)

pub not_named : (b : Bool) (z : ℕ) (r : Refusal) → by_name b z ≡ Err r → (b ≡ false) × (r ≡ refusal 8 0)
not_named true z r e = let x : ◌≡◌ {A = ℕ} 0 1 = cc in absurd (omega arith)
not_named false z r e = (refl, cc)

-- the bench line: id 690 with 168 ids a zone starts in zone 4
pub object_690 : let g = geometry_from eight_zones in (g.ids ≡ 168) × (start_numbers (start_of g 1 690) ≡ (0, 0, 4))
object_690 = (refl, refl)
