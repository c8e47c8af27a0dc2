-- The table's numbers and the reasons.
use mathlib.Core.Path.{◌≡◌, refl, ap}
use mathlib.Core.List.{List, [], ◌∷◌}
use Prim.Native.Nat.{ℕ, zero, suc, ◌+◌, ◌-◌, ◌<◌, ◌≤◌}
use native.Mathlib.Omega.{arith}
use lib.ListN.{length, get_or}
use Rattle.geometry.specs.declared.Refusal.{Refusal}
use Rattle.geometry.specs.declared.Reason.{Reason}
use Rattle.geometry.specs.declared.Reason.TheVariants.{MapLength, Record, ZoneCheck, CrossChecks, FreeChain, Fragment, Owner, Id, FreeTouching}
use Rattle.geometry.specs.declared.Reason.TheVariants.{IdAbsent, IdPresent, Argument, NotFree, NoId, NoRoom, PastEnd, Entries}
use Rattle.geometry.specs.Answers.{reasons, reason_of, number, refusal}

-- the reasons of a list are numbered from k on
abbrev Counted : ℕ → List Reason → Type 0
Counted k [] = Unit {0}
Counted k (r ∷ rs) = (number r ≡ k) × Counted (suc k) rs

at_place : (k : ℕ) (rs : List Reason) → Counted k rs → (i : ℕ) → i < length rs → number (get_or rs i Entries) ≡ k + i
at_place k [] c i h = absurd (omega arith)
at_place k (r ∷ rs) c zero h = omega (arith, c.0)
at_place k (r ∷ rs) c (suc i) h = omega (arith, at_place (suc k) rs c.1 i (omega arith))

pub numbered : (n : ℕ) → 1 ≤ n → n ≤ 17 → number (reason_of n) ≡ n
numbered n l h =
    omega (arith, at_place 1 reasons (refl, (refl, (refl, (refl, (refl, (refl, (refl, (refl, (refl, (refl, (refl, (refl, (refl, (refl, (refl, (refl, (refl, tt))))))))))))))))) (n - 1) (omega arith))

pub reasoned : (r : Reason) → reason_of (number r) ≡ r
reasoned MapLength = refl
reasoned Record = refl
reasoned ZoneCheck = refl
reasoned CrossChecks = refl
reasoned FreeChain = refl
reasoned Fragment = refl
reasoned Owner = refl
reasoned Id = refl
reasoned FreeTouching = refl
reasoned IdAbsent = refl
reasoned IdPresent = refl
reasoned Argument = refl
reasoned NotFree = refl
reasoned NoId = refl
reasoned NoRoom = refl
reasoned PastEnd = refl
reasoned Entries = refl

pub same_refusal : (r : Refusal) → refusal (number r.reason) r.zone ≡ r
same_refusal r = ap (λ (x : Reason). record { reason = x; zone = r.zone }) (reasoned r.reason)
