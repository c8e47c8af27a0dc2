-- The chain rule and the chain followed say the same: every link lands on a fragment's start exactly when the chain can be
-- followed to its end, and the fragments passed as free are those on the chain. By passing the first fragment: what is on
-- the chain of the whole is that fragment's start or on the chain of the rest.
use mathlib.Core.Path.{◌≡◌, refl, sym, subst, subst⁻¹}
use mathlib.Core.List.{List, [], ◌∷◌, cons≢nil}
use mathlib.Core.Option.{some}
use mathlib.Core.Logic.{◌⊎◌, inl, inr}
use Prim.Native.Nat.{ℕ, ◌+◌, ◌<◌, ◌≤◌}
use native.Mathlib.Omega.{arith}
use lib.Dec.{eqb}
use borrow.Author.Tests.{eqb-true, eqb-false, ne_eqb}
use Rattle.bits.proofs.Tests.{by_test}
use Rattle.model.specs.Fragments.{Fragment}
use Rattle.model.specs.Chain.{free, owned, Entry, entry, onward, StartsAt, here, later, OnChain, first, further, LinksLand, follow}
use Rattle.model.proofs.Followed.{Long, Followed, was_free, was_owned, followed, none_left}

-- fragments start in order
pub starts_from : {at a : ℕ} {h : Fragment} {fs : List Fragment} → StartsAt at fs a h → at ≤ a
starts_from here = omega arith
starts_from (later s) = omega (arith, starts_from s)

some_fragment : {at a : ℕ} {h : Fragment} {fs : List Fragment} → StartsAt at fs a h → fs ≡ [] → ⊥
some_fragment here e = cons≢nil e
some_fragment (later s) e = cons≢nil e

pub none_starts : {at a : ℕ} {h : Fragment} → StartsAt at [] a h → ⊥
none_starts s = some_fragment s refl

-- a link leads on, or nowhere
onward_is : (at id : ℕ) → (id ≡ 0 → ⊥) → onward at id ≡ at + id
onward_is at id n = simp (ne_eqb id 0 n)

onward_past : (at id : ℕ) → (onward at id ≡ 0 → ⊥) → onward at id ≡ at → ⊥
onward_past at id n e =
    by_test (eqb id 0)
    (λ t. n (simp t))
    (λ t. eqb-false id 0 t (let k : at + id ≡ at = simp t at e in omega arith))

module _ (at : ℕ) (f : Fragment) (fs : List Fragment) (l : 0 < f.len) where
  -- the chain of the rest does not come back to the fragment passed
  pub not_back : (next x : ℕ) → ((next ≡ 0 → ⊥) → next ≡ at → ⊥) → OnChain (at + f.len) next fs x → x ≡ at → ⊥
  not_back next x n (first z) e = n z e
  not_back next x n (further c s z) e = omega (arith, starts_from s)

  -- passed as free: the chain leads to it
  module _ (p : 0 < at) where
    pub up_free : (x : ℕ) → OnChain (at + f.len) (onward at f.id) fs x → OnChain at at (f ∷ fs) x
    up_free x (first z) =
        by_test (eqb f.id 0)
        (λ t. absurd (z (simp t)))
        (λ t. subst (λ (y : ℕ). OnChain at at (f ∷ fs) y) (sym (onward_is at f.id (eqb-false f.id 0 t)))
        (further (first (λ e. omega arith)) here (eqb-false f.id 0 t)))
    up_free x (further c s z) = further (up_free _ c) (later s) z

    pub down_free : (x : ℕ) → OnChain at at (f ∷ fs) x → (x ≡ at) ⊎ OnChain (at + f.len) (onward at f.id) fs x
    down_free x (first z) = inl refl
    down_free x (further c s z) = go s (down_free _ c) z
      where
        go : {a : ℕ} {h : Fragment} → StartsAt at (f ∷ fs) a h → (a ≡ at) ⊎ OnChain (at + f.len) (onward at f.id) fs a → (h.id ≡ 0 → ⊥)
            → (a + h.id ≡ at) ⊎ OnChain (at + f.len) (onward at f.id) fs (a + h.id)
        go here w z =
            let e = onward_is at f.id z in
            inr (subst (λ (y : ℕ). OnChain (at + f.len) (onward at f.id) fs y) e (first (λ k. z (omega (arith, e)))))
        go (later s) (inl e) z = absurd (omega (arith, starts_from s))
        go (later s) (inr c) z = inr (further c s z)

  -- passed as owned: the chain leads elsewhere
  module _ (next : ℕ) (n : at ≡ next → ⊥) where
    pub up_owned : (x : ℕ) → OnChain (at + f.len) next fs x → OnChain at next (f ∷ fs) x
    up_owned x (first z) = first z
    up_owned x (further c s z) = further (up_owned _ c) (later s) z

    pub down_owned : (x : ℕ) → OnChain at next (f ∷ fs) x → OnChain (at + f.len) next fs x
    down_owned x (first z) = first z
    down_owned x (further c s z) = go s (down_owned _ c) z
      where
        go : {a : ℕ} {h : Fragment} → StartsAt at (f ∷ fs) a h → OnChain (at + f.len) next fs a → (h.id ≡ 0 → ⊥) → OnChain (at + f.len) next fs (a + h.id)
        go here c z = absurd (not_back next at (λ _ e. n (sym e)) c refl)
        go (later s) c z = further c s z

    pub first_off : OnChain at next (f ∷ fs) at → ⊥
    first_off c = not_back next at (λ _ e. n (sym e)) (down_owned at c) refl

-- a chain that was followed lands
pub follow_lands : (at next : ℕ) (fs : List Fragment) (es : List Entry) → 0 < at → Long fs → follow at next fs ≡ some es → LinksLand at next fs
follow_lands at next [] es p l e = λ a c. absurd (go a c)
  where
    go : (a : ℕ) → OnChain at next [] a → ⊥
    go a (first z) = z (none_left at next es e).0
    go a (further c s z) = none_starts s
follow_lands at next (f ∷ fs) es p l e =
    go es (followed at next f fs es e) (λ n gs k. follow_lands (at + f.len) n fs gs (omega arith) l.1 k)
  where
    go : (es : List Entry) → Followed at next f fs es
        → ((n : ℕ) (gs : List Entry) → follow (at + f.len) n fs ≡ some gs → LinksLand (at + f.len) n fs) → LinksLand at next (f ∷ fs)
    go es (was_free gs h k) ih = subst (λ (n : ℕ). LinksLand at n (f ∷ fs)) h (λ a c. free_way a (down_free at f fs l.0 p a c))
      where
        free_way : (a : ℕ) → (a ≡ at) ⊎ OnChain (at + f.len) (onward at f.id) fs a → (h : Fragment) × StartsAt at (f ∷ fs) a h
        free_way a (inl q) = (f, subst⁻¹ (λ (x : ℕ). StartsAt at (f ∷ fs) x f) q here)
        free_way a (inr c) = let w = ih (onward at f.id) gs k a c in (w.0, later w.1)
    go es (was_owned gs h k) ih = λ a c. (let w = ih next gs k a (down_owned at f fs l.0 next h a c) in (w.0, later w.1))

-- and one that lands can be followed
past_here : {at a : ℕ} {f h : Fragment} {fs : List Fragment} → StartsAt at (f ∷ fs) a h → (a ≡ at → ⊥) → (h : Fragment) × StartsAt (at + f.len) fs a h
past_here here n = absurd (n refl)
past_here (later s) n = (_, s)

pub lands_follow : (at next : ℕ) (fs : List Fragment) → 0 < at → Long fs → LinksLand at next fs → (es : List Entry) × (follow at next fs ≡ some es)
lands_follow at next [] p l w =
    by_test (eqb next 0)
    (λ t. ([], simp t))
    (λ t. absurd (none_starts (w next (first (eqb-false next 0 t))).1))
lands_follow at next (f ∷ fs) p l w =
    by_test (eqb at next)
    (λ t. let q = eqb-true at next t in
    let v = subst⁻¹ (λ (n : ℕ). LinksLand at n (f ∷ fs)) q w in
    let r = lands_follow (at + f.len) (onward at f.id) fs (omega arith) l.1
    (λ a c. past_here (v a (up_free at f fs l.0 p a c)).1 (not_back at f fs l.0 (onward at f.id) a (onward_past at f.id) c)) in
    (entry at f free ∷ r.0, simp (t, r.1)))
    (λ t. let q = eqb-false at next t in
    let r = lands_follow (at + f.len) next fs (omega arith) l.1
    (λ a c. past_here (w a (up_owned at f fs l.0 next q a c)).1 (not_back at f fs l.0 next a (λ _ e. q (sym e)) c)) in
    (entry at f (owned f.id) ∷ r.0, simp (t, r.1)))
