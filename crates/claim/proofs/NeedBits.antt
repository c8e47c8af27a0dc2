-- A size in clusters, divided first: the quotient, and one more where bytes are left over, is the definition's quotient rounded
-- up. A cluster has at least 128 bytes, so that no number on the way wraps.
use mathlib.Core.Path.{◌≡◌, sym, ap, ◌∙◌}
use mathlib.Core.Bool.{not}
use Prim.Native.Nat.{ℕ, suc, ◌+◌, ◌-◌, ◌*◌, ◌/◌, ◌%◌, ◌<◌, ◌≤◌, max}
use native.Mathlib.Nat.{div-add-mod', mod-lt, mul-le-mul, mul-le-mul_left}
use native.Mathlib.Omega.{arith}
use lib.Dec.{eqb}
use mir.Val.{bool_byte}
use lib.Arith.{digits_div}
use borrow.Author.Tests.{eqb-true, eqb-false}
use Rattle.bits.proofs.Tests.{by_test}
use Rattle.geometry.specs.declared.Geometry.{Geometry}
use Rattle.geometry.specs.Accepted.{AcceptedGeometry}
use Rattle.edits.specs.Judge.{need}

-- one more where bytes are left over
abbrev Started : ℕ → ℕ → ℕ → Type 0
Started size c r = r ≡ bool_byte (not (eqb (size % c) 0))

clusters_up : (size c r : ℕ) → 0 < c → Started size c r → size / c + r ≡ (size + c - 1) / c
clusters_up size c r h e =
    by_test (eqb (size % c) 0)
    (λ t. let z : r ≡ 0 = simp t at e in
    let s : size + c - 1 ≡ size / c * c + (c - 1) = omega (arith, div-add-mod' size c, eqb-true (size % c) 0 t) in
    let q : size / c + r ≡ size / c = omega arith in
    let k : c - 1 < c = omega arith in
    q ∙ sym (ap (λ (x : ℕ). x / c) s ∙ digits_div (size / c) k))
    (λ t. let z : r ≡ 1 = simp t at e in
    let n : size % c ≡ 0 → ⊥ = eqb-false (size % c) 0 t in
    let s : size + c - 1 ≡ suc (size / c) * c + (size % c - 1) = omega (arith, div-add-mod' size c, n) in
    let q : size / c + r ≡ suc (size / c) = omega arith in
    let k : size % c - 1 < c = omega (arith, mod-lt size h, n) in
    q ∙ sym (ap (λ (x : ℕ). x / c) s ∙ digits_div (suc (size / c)) k))

module _ (g : Geometry) (ok : AcceptedGeometry g) where
  cluster_small : g.cluster * g.unit ≤ 32768
  cluster_small = mul-le-mul ok.cluster_high ok.unit_high

  cluster_long : 128 ≤ g.cluster * g.unit
  cluster_long = mul-le-mul ok.cluster_low ok.unit_low

  clusters_small : (size : ℕ) → size < 18446744073709551616 → size / (g.cluster * g.unit) < 144115188075855872
  clusters_small size h =
      let c = g.cluster * g.unit in
      let a : size / c * 128 ≤ size / c * c = mul-le-mul_left (size / c) cluster_long in
      omega (arith, a, div-add-mod' size c)

  pub bits_small : (size r : ℕ) → size < 18446744073709551616 → Started size (g.cluster * g.unit) r → (size / (g.cluster * g.unit) + r) * g.cluster < 18446744073709551616
  bits_small size r h e =
      let k : r < 2 = by_test (eqb (size % (g.cluster * g.unit)) 0) (λ t. omega (arith, simp t at e)) (λ t. omega (arith, simp t at e)) in
      let l : size / (g.cluster * g.unit) + r ≤ 144115188075855873 = omega (arith, clusters_small size h) in
      let m = mul-le-mul l ok.cluster_high in
      omega arith

  pub need_is : (size r x : ℕ) → Started size (g.cluster * g.unit) r → x ≡ max g.shortest ((size / (g.cluster * g.unit) + r) * g.cluster) → x ≡ need g size
  need_is size r x e q = q ∙ ap (λ (n : ℕ). max g.shortest (n * g.cluster)) (clusters_up size (g.cluster * g.unit) r (omega (arith, cluster_long)) e)
