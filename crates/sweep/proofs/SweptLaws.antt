-- A swept stretch byte by byte, and a stretch cut in two.
use mathlib.Core.Path.{◌≡◌, sym, ap, ◌∙◌}
use mathlib.Core.Bool.{cond}
use mathlib.Core.List.{List, [], ◌∷◌, ◌++◌}
use Prim.Native.Nat.{ℕ, zero, suc, ◌+◌, ◌<◌}
use native.Mathlib.Nat.{add-zero}
use native.Mathlib.Omega.{arith}
use lib.ListN.{length, get_or}
use Rattle.model.specs.Chain.{Pair}
use Rattle.sweep.specs.Sweep.{covers, swept_bytes, covered_count}

module _ (unit : ℕ) (qs : List Pair) where
  pub swept_byte : (fill a : ℕ) (image : List ℕ) (i : ℕ) → i < length image → get_or (swept_bytes unit qs fill a image) i 0 ≡ cond (covers unit qs (a + i)) fill (get_or image i 0)
  swept_byte fill a [] i h = absurd (omega arith)
  swept_byte fill a (b ∷ bs) zero h = ap (λ (x : ℕ). cond (covers unit qs x) fill b) (sym (add-zero a))
  swept_byte fill a (b ∷ bs) (suc i) h =
      let e : suc a + i ≡ a + suc i = omega arith in
      swept_byte fill (suc a) bs i (omega arith) ∙ ap (λ (x : ℕ). cond (covers unit qs x) fill (get_or bs i 0)) e

  pub cut_bytes : (fill a : ℕ) (x y : List ℕ) → swept_bytes unit qs fill a (x ++ y) ≡ swept_bytes unit qs fill a x ++ swept_bytes unit qs fill (a + length x) y
  cut_bytes fill a [] y = ap (λ (k : ℕ). swept_bytes unit qs fill k y) (sym (add-zero a))
  cut_bytes fill a (b ∷ x) y =
      let e : suc a + length x ≡ a + suc (length x) = omega arith in
      ap (λ (r : List ℕ). cond (covers unit qs a) fill b ∷ r)
      (cut_bytes fill (suc a) x y ∙ ap (λ (k : ℕ). swept_bytes unit qs fill (suc a) x ++ swept_bytes unit qs fill k y) e)

  pub cut_count : (a n k : ℕ) → covered_count unit qs a (n + k) ≡ covered_count unit qs a n + covered_count unit qs (a + n) k
  cut_count a zero k =
      let e : zero + k ≡ k = omega arith in
      let f : a + zero ≡ a = omega arith in
      ap (covered_count unit qs a) e ∙ sym (ap (λ (x : ℕ). covered_count unit qs x k) f) ∙ omega arith
  cut_count a (suc n) k =
      let e : suc n + k ≡ suc (n + k) = omega arith in
      let f : suc a + n ≡ a + suc n = omega arith in
      ap (covered_count unit qs a) e ∙ omega (arith, cut_count (suc a) n k, ap (λ (x : ℕ). covered_count unit qs x k) f)
