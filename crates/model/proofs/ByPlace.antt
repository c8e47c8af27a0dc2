-- The blocks of a map by their place: the list of blocks from zone z on starts with the part of the map from z*S to
-- (z+1)*S. Every loop over the zones rests on this.
use mathlib.Core.Path.{◌≡◌, ap, ◌∙◌}
use mathlib.Core.List.{List, [], ◌∷◌}
use Prim.Native.Nat.{ℕ, suc, ◌+◌, ◌-◌, ◌*◌, ◌<◌, ◌≤◌}
use native.Mathlib.Nat.{mul-le-mul_right, suc-mul, zero-mul, sub-zero}
use native.Mathlib.Omega.{arith}
use lib.ListN.{length, drop, length-drop}
use lib.Seq.{drop-drop, length-take-le}
use Rattle.model.specs.Blocks.{blocks, block_at}

-- the blocks from zone z on
abbrev pub rest_from : List ℕ → ℕ → ℕ → ℕ → List (List ℕ)
rest_from m zones size z = blocks size (zones - z) (drop (z * size) m)

-- the end of a zone's block is within the map
pub zone_end_law : (zones size z : ℕ) → z < zones → z * size + size ≤ zones * size
zone_end_law zones size z h = rw suc-mul at (mul-le-mul_right size h)

module _ (m : List ℕ) (zones size : ℕ) where
  pub rest_all : rest_from m zones size 0 ≡ blocks size zones m
  rest_all = rw (zero-mul, sub-zero)

  pub rest_none : (z : ℕ) → zones ≤ z → rest_from m zones size z ≡ []
  rest_none z h = let e : zones - z ≡ 0 = omega arith in rw e

  pub rest_cons : (z : ℕ) → z < zones → rest_from m zones size z ≡ block_at size z m ∷ rest_from m zones size (z + 1)
  rest_cons z h =
      let e : zones - z ≡ suc (zones - (z + 1)) = omega arith in
      let f : z * size + size - z * size ≡ size = omega arith in
      let d : drop size (drop (z * size) m) ≡ drop ((z + 1) * size) m = (let q : z * size + size ≡ (z + 1) * size = omega arith in drop-drop size (z * size) m ∙ ap (λ (x : ℕ). drop x m) q) in
      rw (e, f, d)

  pub block_length : length m ≡ zones * size → (z : ℕ) → z < zones → length (block_at size z m) ≡ size
  block_length lm z h =
      let f : z * size + size - z * size ≡ size = omega arith in
      rw f (length-take-le size (drop (z * size) m) (simp length-drop (omega (arith, zone_end_law zones size z h))))
