-- The positions at which two lists differ: they ascend, and of lists as long as each other they are those at which the numbers differ.
use mathlib.Core.Path.{◌≡◌}
use mathlib.Core.List.{List, [], ◌∷◌}
use mathlib.Core.Logic.{◌↔◌, inl, inr}
use Prim.Native.Nat.{ℕ, zero, suc, ◌+◌, ◌<◌, ◌≤◌}
use native.Mathlib.Omega.{arith}
use lib.Dec.{eqb}
use lib.ListN.{length, get_or}
use borrow.Author.Tests.{eqb-true, eqb-false}
use Rattle.bits.proofs.Tests.{by_test}
use Rattle.edits.specs.Room.{In}
use Rattle.mended.specs.Mended.{differ_from}
use Rattle.mended.specs.Laws.{Rising}

-- ascending
from_lower : (low next : ℕ) (is : List ℕ) → low ≤ next → Rising next is → Rising low is
from_lower low next [] h r = tt
from_lower low next (i ∷ is) h r = (omega arith, r.1)

pub differ_ascend : (i : ℕ) (xs ys : List ℕ) → Rising i (differ_from i xs ys)
differ_ascend i [] ys = tt
differ_ascend i (x ∷ xs) [] = tt
differ_ascend i (x ∷ xs) (y ∷ ys) =
    by_test (eqb x y)
    (λ t. simp t (from_lower i (suc i) (differ_from (suc i) xs ys) (omega arith) (differ_ascend (suc i) xs ys)))
    (λ t. simp t (omega arith, differ_ascend (suc i) xs ys))

-- the numbers at one place differ
abbrev Differ : List ℕ → List ℕ → ℕ → Type 0
Differ xs ys k = (k < length xs) × (get_or xs k 0 ≡ get_or ys k 0 → ⊥)

differ_listed : (i : ℕ) (xs ys : List ℕ) → length ys ≡ length xs → (k : ℕ) → Differ xs ys k → In (i + k) (differ_from i xs ys)
differ_listed i [] ys e k h = absurd (omega arith)
differ_listed i (x ∷ xs) [] e k h = absurd (omega arith)
differ_listed i (x ∷ xs) (y ∷ ys) e zero h =
    by_test (eqb x y)
    (λ t. absurd (h.1 (eqb-true x y t)))
    (λ t. simp t (inl (omega arith)))
differ_listed i (x ∷ xs) (y ∷ ys) e (suc k) h =
    let s : suc i + k ≡ i + suc k = omega arith in
    let r : In (i + suc k) (differ_from (suc i) xs ys) = rw s at (differ_listed (suc i) xs ys (omega arith) k (omega arith, h.1)) in
    by_test (eqb x y) (λ t. simp t r) (λ t. simp t (inr r))

listed_differ : (i : ℕ) (xs ys : List ℕ) (j : ℕ) → In j (differ_from i xs ys) → (k : ℕ) × (j ≡ i + k) × Differ xs ys k
listed_differ i [] ys j h = absurd h
listed_differ i (x ∷ xs) [] j h = absurd h
listed_differ i (x ∷ xs) (y ∷ ys) j h =
    by_test (eqb x y)
    (λ t. later (listed_differ (suc i) xs ys j (simp t at h)))
    (λ t. go (eqb-false x y t) (simp t at h) (listed_differ (suc i) xs ys j))
  where
    later : (k : ℕ) × (j ≡ suc i + k) × Differ xs ys k → (k : ℕ) × (j ≡ i + k) × Differ (x ∷ xs) (y ∷ ys) k
    later r = (suc r.0, omega (arith, r.1), (omega (arith, r.2.0), r.2.1))

    go : (x ≡ y → ⊥) → In j (i ∷ differ_from (suc i) xs ys) → (In j (differ_from (suc i) xs ys) → (k : ℕ) × (j ≡ suc i + k) × Differ xs ys k)
        → (k : ℕ) × (j ≡ i + k) × Differ (x ∷ xs) (y ∷ ys) k
    go n (inl e) ih = (0, omega arith, (omega arith, n))
    go n (inr r) ih = later (ih r)

pub differ_exact : (xs ys : List ℕ) → length ys ≡ length xs → (i : ℕ) → In i (differ_from 0 xs ys) ↔ Differ xs ys i
differ_exact xs ys e i = (there, back)
  where
    there : In i (differ_from 0 xs ys) → Differ xs ys i
    there h =
        let r = listed_differ 0 xs ys i h in
        let k : r.0 ≡ i = omega (arith, r.1) in
        rw k at r.2

    back : Differ xs ys i → In i (differ_from 0 xs ys)
    back h = let k : 0 + i ≡ i = omega arith in rw k at (differ_listed 0 xs ys e i h)
