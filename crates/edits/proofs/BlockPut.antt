-- A zone's block comes back from a loan as new bytes: that zone's block is these, every other zone's block is as it was. The
-- bytes before the block and those after it are, and each other block lies among one of them.
use mathlib.Core.Path.{◌≡◌, refl, sym, ap, ◌∙◌}
use mathlib.Core.List.{List, [], ◌∷◌, ◌++◌}
use Prim.Native.Nat.{ℕ, zero, suc, ◌+◌, ◌-◌, ◌*◌, ◌<◌, ◌≤◌}
use native.Mathlib.Omega.{arith}
use lib.ListN.{length, take, drop}
use lib.Seq.{length-take-le, take_at, drop_at, take-take, drop-drop}
use borrow.Rule.Slice.PartMut.{put_mid, take_put, drop_put}
use Rattle.model.specs.Blocks.{block_at}
use Rattle.model.proofs.ByPlace.{zone_end_law}

-- a part that lies in the first e elements
pub part_in_front : (k d e : ℕ) (l : List ℕ) → d + k ≤ e → take k (drop d (take e l)) ≡ take k (drop d l)
part_in_front k zero e l h = take-take k e l (omega arith)
part_in_front k (suc d) zero l h = absurd (omega arith)
part_in_front k (suc d) (suc e) [] h = refl
part_in_front k (suc d) (suc e) (x ∷ l) h = part_in_front k d e l (omega arith)

-- the map with the bytes b in the place of zone z's block, as a loan of that part leaves it
abbrev pub put_block : ℕ → ℕ → List ℕ → List ℕ → List ℕ
put_block size z m b = put_mid (z * size) (z * size + size - z * size) m b

module _ (size n : ℕ) (m b : List ℕ) (z : ℕ) (whole : length m ≡ n * size) (h : z < n) (sized : length b ≡ size) where
  ends : z * size + size ≤ length m
  ends = omega (arith, zone_end_law n size z h)

  pub put_here : block_at size z (put_block size z m b) ≡ b
  put_here =
      let k : z * size + size - z * size ≡ size = omega arith in
      let rest = drop (z * size + size - z * size) (drop (z * size) m) in
      ap (take (z * size + size - z * size)) (drop_at (take (z * size) m) (b ++ rest) (z * size) (length-take-le (z * size) m (omega (arith, ends))))
      ∙ take_at b rest (z * size + size - z * size) (sized ∙ sym k)

  pub put_before : (y : ℕ) → y < z → block_at size y (put_block size z m b) ≡ block_at size y m
  put_before y l =
      let k = y * size + size - y * size in
      let in_front : y * size + k ≤ z * size = omega (arith, zone_end_law z size y l) in
      sym (part_in_front k (y * size) (z * size) (put_block size z m b) in_front)
      ∙ ap (λ (x : List ℕ). take k (drop (y * size) x)) (take_put (z * size) (z * size + size - z * size) m b (omega (arith, ends)))
      ∙ part_in_front k (y * size) (z * size) m in_front

  pub put_after : (y : ℕ) → z < y → block_at size y (put_block size z m b) ≡ block_at size y m
  put_after y l =
      let e = z * size + size in
      let d : e + (y * size - e) ≡ y * size = omega (arith, zone_end_law y size z l) in
      let behind : (x : List ℕ) → drop (y * size) x ≡ drop (y * size - e) (drop e x) = λ x. ap (λ (i : ℕ). drop i x) (sym d) ∙ sym (drop-drop (y * size - e) e x) in
      ap (take (y * size + size - y * size))
      (behind (put_block size z m b)
      ∙ ap (drop (y * size - e)) (drop_put (z * size) e m b (omega arith) ends (sized ∙ omega arith))
      ∙ sym (behind m))
