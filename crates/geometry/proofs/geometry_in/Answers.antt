-- The tests are those of a record that fits, and the numbers the record's.
use mathlib.Core.Path.{refl, sym, ap₂, ◌∙◌, subst⁻¹}
use Prim.Native.Nat.{ℕ, ◌≤◌}
use native.Mathlib.Omega.{arith}
use borrow.Author.Rules.{rules}
use Rattle.geometry.specs.declared.Geometry.{Geometry}
use Rattle.geometry.specs.Ranges.{zero_bytes}
use Rattle.geometry.specs.Accepted.{SmallNumbers}
use Rattle.geometry.proofs.Rules.{test_gives_fields}
use Rattle.geometry.proofs.Numbers.{either_version, fields_give_small}
use Rattle.geometry.proofs.RecordAnswers.{unfitting, fitting}
use Rattle.geometry.proofs.geometry_in.Goals as goal
use Rattle.geometry.proofs.geometry_in.Goals.{then-geometry_fits, else-geometry_fits}

pub returns-then-not-fields_fit : goal.returns-then-not-fields_fit
returns-then-not-fields_fit c = unfitting c.args.bytes.now c.record_in-r.ensures.0 (sym c.fields_fit.ensures ∙ c.if-not-fields_fit.true)

pub geometry_fits-requires : goal.geometry_fits-requires
geometry_fits-requires c =
    subst⁻¹ (λ (x : Geometry). SmallNumbers x) c.geometry_from-g.ensures (fields_give_small _ (test_gives_fields _ (sym c.fields_fit.ensures ∙ c.if-not-fields_fit.false)))

pub zero_bytes-requires : goal.zero_bytes-requires
zero_bytes-requires c =
    let v = c.record_in-r.result.version in
    let low : c.by_version-from.result ≤ 36 = either_version (λ n. n ≤ 36) v c.by_version-from.ensures (omega arith) (omega arith) in
    let mid : 40 ≤ c.by_version-end.result = either_version (λ n. 40 ≤ n) v c.by_version-end.ensures (omega arith) (omega arith) in
    let high : c.by_version-end.result ≤ 60 = either_version (λ n. n ≤ 60) v c.by_version-end.ensures (omega arith) (omega arith) in
    (search rules, omega arith, omega arith)

pub returns : goal.returns
returns c =
    let bs = c.args.bytes.now in
    c.then_some.ensures
    ∙ fitting bs c.record_in-r.ensures.0 c.geometry_from-g.ensures (sym c.fields_fit.ensures ∙ c.if-not-fields_fit.false)
    (elim c.if-geometry_fits.branch [
      | then-geometry_fits w ↦
          w.then_some-is
          ∙ rw (sym c.geometry_fits.ensures ∙ w.if-geometry_fits.true)
          (w.zero_bytes.ensures ∙ ap₂ (λ (f t : ℕ). zero_bytes f t bs) c.by_version-from.ensures c.by_version-end.ensures)
      | else-geometry_fits w ↦ w.then_some-is ∙ w.if-geometry_fits.false ∙ rw (sym c.geometry_fits.ensures ∙ w.if-geometry_fits.false) refl
    ])
