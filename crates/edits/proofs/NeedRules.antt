-- A claim's need in document 01's words: it is enough for the size, and the least such number. That it has at least m bits and is in whole clusters is shown
-- where a claim is judged.
use mathlib.Core.Path.{◌≡◌, sym, ap, ◌∙◌}
use Prim.Native.Nat.{ℕ, suc, ◌+◌, ◌-◌, ◌*◌, ◌/◌, ◌%◌, ◌<◌, ◌≤◌}
use native.Mathlib.Nat.{div-add-mod', mod-lt, mul_assoc, mul-le-mul, mul-le-mul_right, suc-mul, div-lt_iff_lt-mul, le-max_right, max-le}
use native.Mathlib.Omega.{arith}
use Rattle.geometry.specs.declared.Geometry.{Geometry}
use Rattle.geometry.specs.Accepted.{AcceptedGeometry}
use Rattle.edits.specs.Judge.{need}

module _ (g : Geometry) (ok : AcceptedGeometry g) (size : ℕ) where
  abbrev bytes : ℕ
  bytes = g.cluster * g.unit

  -- the clusters of the size
  abbrev parts : ℕ
  parts = (size + bytes - 1) / bytes

  some_bytes : 0 < bytes
  some_bytes = let l : 1 * 128 ≤ bytes = mul-le-mul ok.cluster_low ok.unit_low in omega arith

  pub need_enough : size ≤ need g size * g.unit
  need_enough =
      let a : size ≤ parts * bytes = omega (arith, some_bytes, div-add-mod' (size + bytes - 1) bytes, mod-lt (size + bytes - 1) some_bytes) in
      let b : parts * g.cluster * g.unit ≤ need g size * g.unit = mul-le-mul_right g.unit (le-max_right g.shortest (parts * g.cluster)) in
      omega (arith, mul_assoc parts g.cluster g.unit)

  pub need_least : (n : ℕ) → g.shortest ≤ n → n % g.cluster ≡ 0 → size ≤ n * g.unit → need g size ≤ n
  need_least n l w h =
      let p = n / g.cluster in
      let e : p * g.cluster ≡ n = omega (arith, div-add-mod' n g.cluster) in
      let f : p * bytes ≡ n * g.unit = sym (mul_assoc p g.cluster g.unit) ∙ ap (λ (x : ℕ). x * g.unit) e in
      let q : parts < suc p = (div-lt_iff_lt-mul some_bytes).1 (omega (arith, some_bytes, suc-mul p bytes)) in
      let r : parts * g.cluster ≤ p * g.cluster = mul-le-mul_right g.cluster (omega arith) in
      max-le l (omega arith)
