-- The chain followed, one fragment at a time: the two ways on, and how many bits the fragments have.
use mathlib.Core.Path.{◌≡◌, refl, sym, subst⁻¹}
use mathlib.Core.List.{List, [], ◌∷◌}
use mathlib.Core.Option.{Option, none, some}
use Prim.Native.Nat.{ℕ, ◌+◌, ◌<◌}
use lib.Dec.{eqb}
use borrow.Author.Tests.{eqb-true, eqb-false}
use Rattle.bits.proofs.Tests.{by_test}
use Rattle.model.specs.Fragments.{Fragment}
use Rattle.model.specs.Chain.{free, owned, Entry, entry, onward, before, follow}
use Rattle.model.proofs.Options.{none_some, some_some}

abbrev pub Long : List Fragment → Type 0
Long [] = Unit {0}
Long (f ∷ fs) = (0 < f.len) × Long fs

abbrev pub total : List Fragment → ℕ
total [] = 0
total (f ∷ fs) = f.len + total fs

pub before_inv : {A : Type 0} (x : A) (r : Option (List A)) (xs : List A) → before x r ≡ some xs → (ys : List A) × (r ≡ some ys) × (xs ≡ x ∷ ys)
before_inv x none xs h = absurd (none_some h)
before_inv x (some ys) xs h = (ys, refl, sym (some_some h))

-- the two ways on
pub data Followed (at next : ℕ) (f : Fragment) (fs : List Fragment) : List Entry → Type 0 where
  was_free : (gs : List Entry) → at ≡ next → follow (at + f.len) (onward at f.id) fs ≡ some gs → Followed at next f fs (entry at f free ∷ gs)
  was_owned : (gs : List Entry) → (at ≡ next → ⊥) → follow (at + f.len) next fs ≡ some gs → Followed at next f fs (entry at f (owned f.id) ∷ gs)

pub followed : (at next : ℕ) (f : Fragment) (fs : List Fragment) (es : List Entry) → follow at next (f ∷ fs) ≡ some es → Followed at next f fs es
followed at next f fs es e =
    by_test (eqb at next)
    (λ h. let i = before_inv (entry at f free) (follow (at + f.len) (onward at f.id) fs) es (simp h at e) in
    subst⁻¹ (λ (r : List Entry). Followed at next f fs r) i.2 (was_free i.0 (eqb-true at next h) i.1))
    (λ h. let i = before_inv (entry at f (owned f.id)) (follow (at + f.len) next fs) es (simp h at e) in
    subst⁻¹ (λ (r : List Entry). Followed at next f fs r) i.2 (was_owned i.0 (eqb-false at next h) i.1))

pub none_left : (at next : ℕ) (es : List Entry) → follow at next [] ≡ some es → (next ≡ 0) × (es ≡ [])
none_left at next es e =
    by_test (eqb next 0)
    (λ h. (eqb-true next 0 h, sym (some_some (simp h at e))))
    (λ h. absurd (none_some (simp h at e)))

-- what holds of the entries that come of following, fragment by fragment
pub by_following : (P : ℕ → List Fragment → List Entry → Type 0) → ((at : ℕ) → P at [] [])
    → ((at : ℕ) (f : Fragment) (fs : List Fragment) (es : List Entry) → P (at + f.len) fs es → P at (f ∷ fs) (entry at f free ∷ es))
    → ((at : ℕ) (f : Fragment) (fs : List Fragment) (es : List Entry) → P (at + f.len) fs es → P at (f ∷ fs) (entry at f (owned f.id) ∷ es))
    → (at next : ℕ) (fs : List Fragment) (es : List Entry) → follow at next fs ≡ some es → P at fs es
by_following P base one two at next [] es e = subst⁻¹ (P at []) (none_left at next es e).1 (base at)
by_following P base one two at next (f ∷ fs) es e = go es (followed at next f fs es e) (λ n gs k. by_following P base one two (at + f.len) n fs gs k)
  where
    go : (es : List Entry) → Followed at next f fs es → ((n : ℕ) (gs : List Entry) → follow (at + f.len) n fs ≡ some gs → P (at + f.len) fs gs) → P at (f ∷ fs) es
    go es (was_free gs h k) ih = one at f fs gs (ih (onward at f.id) gs k)
    go es (was_owned gs h k) ih = two at f fs gs (ih next gs k)
