-- A map that the check refuses is refused with a number from 1 to 7: those are the numbers on the lines of the table.
use mathlib.Core.Path.{◌≡◌}
use mathlib.Core.List.{List}
use Prim.Native.Nat.{ℕ, ◌≤◌}
use native.Mathlib.Omega.{arith}
use Rattle.geometry.specs.declared.Geometry.{Geometry}
use Rattle.model.specs.Answer.{Answer, refused}
use Rattle.model.specs.Chain.{Entry}
use Rattle.model.specs.Check.{map_read}
use Rattle.model.specs.Table.{ZoneFault, six, five, seven, Judged, short, outside, other_length, check_differs, cross_differs, zone_fault, kept}
use Rattle.model.proofs.MapJudged.{answer_is_judged}

fault_number : (g : Geometry) (z : ℕ) (block : List ℕ) (n : ℕ) → ZoneFault g z block n → n ≤ 7
fault_number g z block n (six f) = omega arith
fault_number g z block n (five fs a f) = omega arith
fault_number g z block n (seven fs a b f) = omega arith

pub refused_number : (m : List ℕ) (n z : ℕ) → map_read m ≡ refused n z → n ≤ 7
refused_number m n z e = go (map_read m) (answer_is_judged m) e
  where
    go : (r : Answer (List (List Entry))) → Judged m r → r ≡ refused n z → n ≤ 7
    go r (short h) e = let x : 1 ≡ n = cc in omega arith
    go r (outside h k) e = let x : 2 ≡ n = cc in omega arith
    go r (other_length h w k) e = let x : 1 ≡ n = cc in omega arith
    go r (check_differs ms y h b k) e = let x : 3 ≡ n = cc in omega arith
    go r (cross_differs ms c k) e = let x : 4 ≡ n = cc in omega arith
    go r (zone_fault ms c x y i h b f) e = let x : i ≡ n = cc in omega (arith, fault_number _ _ _ i f)
    go r (kept w ess l rs) e = let x : ◌≡◌ {A = ℕ} 0 1 = cc in absurd (omega arith)
