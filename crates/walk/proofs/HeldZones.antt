-- The zones of a map in turn: what a holder has from zone z on is zone z's and then the next zones'.
use mathlib.Core.Path.{◌≡◌, sym, ap, ◌∙◌}
use mathlib.Core.List.{List, [], ◌++◌, append_assoc}
use Prim.Native.Nat.{ℕ, zero, suc, ◌+◌, ◌-◌, ◌<◌, ◌≤◌}
use native.Mathlib.Nat.{add-zero, zero-add}
use native.Mathlib.Omega.{arith}
use Rattle.geometry.specs.declared.Geometry.{Geometry}
use Rattle.model.specs.Chain.{Pair}
use Rattle.walk.specs.HeldBy.{held_in, held_from}

-- what a holder has in zones z to n
module _ (g : Geometry) (h : ℕ) (m : List ℕ) where
  pub held_turn : (z n : ℕ) → z < n → held_from g h m z (n - z) ≡ held_in g h m z ++ held_from g h m (z + 1) (n - (z + 1))
  held_turn z n k =
      let e : n - z ≡ suc (n - (z + 1)) = omega arith in
      let f : suc z ≡ z + 1 = omega arith in
      ap (held_from g h m z) e ∙ ap (λ (i : ℕ). held_in g h m z ++ held_from g h m i (n - (z + 1))) f

  pub held_end : (z n : ℕ) → n ≤ z → held_from g h m z (n - z) ≡ []
  held_end z n k = let e : n - z ≡ 0 = omega arith in ap (held_from g h m z) e

  pub held_split : (z a b : ℕ) → held_from g h m z (a + b) ≡ held_from g h m z a ++ held_from g h m (z + a) b
  held_split z zero b = (λ i. held_from g h m (sym (add-zero z) i) (zero-add b i))
  held_split z (suc a) b =
      let e : suc a + b ≡ suc (a + b) = omega arith in
      let f : suc z + a ≡ z + suc a = omega arith in
      ap (held_from g h m z) e
      ∙ ap (λ (r : List Pair). held_in g h m z ++ r) (held_split (suc z) a b ∙ ap (λ (i : ℕ). held_from g h m (suc z) a ++ held_from g h m i b) f)
      ∙ sym (append_assoc (held_in g h m z) (held_from g h m (suc z) a) (held_from g h m (z + suc a) b))

  -- all zones are those before zone s and those from it on
  pub held_all : (s n : ℕ) → s ≤ n → held_from g h m 0 n ≡ held_from g h m 0 s ++ held_from g h m s (n - s)
  held_all s n k =
      let e : n ≡ s + (n - s) = omega arith in
      ap (held_from g h m 0) e ∙ held_split 0 s (n - s) ∙ ap (λ (i : ℕ). held_from g h m 0 s ++ held_from g h m i (n - s)) (zero-add s)
