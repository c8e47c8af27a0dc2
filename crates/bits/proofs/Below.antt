-- A test that antt computes at every number below n, and the law that turns it into the fact at each.
use mathlib.Core.Path.{◌≡◌, ap, ◌∙◌}
use mathlib.Core.Bool.{Bool, true, ◌&&◌}
use Prim.Native.Nat.{ℕ, zero, suc, ◌<◌}
use native.Mathlib.Omega.{arith}
use lib.Dec.{eqb}
use borrow.Author.Tests.{eqb-true, eqb-false}
use Rattle.bits.proofs.Tests.{by_test, both}

abbrev pub below : ℕ → (ℕ → Bool) → Bool
below zero f = true
below (suc n) f = f n && below n f

pub at : (n : ℕ) (f : ℕ → Bool) → below n f ≡ true → (k : ℕ) → k < n → f k ≡ true
at zero f t k h = absurd (omega arith)
at (suc n) f t k h =
    let p = both (f n) (below n f) t in
    by_test (eqb k n)
    (λ e. ap f (eqb-true k n e) ∙ p.0)
    (λ e. at n f p.1 k (omega (arith, eqb-false k n e)))
