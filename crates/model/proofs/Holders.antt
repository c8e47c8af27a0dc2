-- A test of every entry of a zone, said of its fragments: those on the chain pass it as free, all others as owned by
-- their id. One law for every test; the owner rules are three uses of it.
use mathlib.Core.Path.{◌≡◌, refl, subst, subst⁻¹}
use mathlib.Core.Bool.{Bool, true}
use mathlib.Core.List.{List, [], ◌∷◌}
use mathlib.Core.Option.{some}
use mathlib.Core.Logic.{◌⊎◌, inl, inr}
use Prim.Native.Nat.{ℕ, ◌+◌, ◌<◌}
use native.Mathlib.Omega.{arith}
use Rattle.bits.proofs.Tests.{both, and_true}
use Rattle.model.specs.Fragments.{Fragment}
use Rattle.model.specs.Chain.{free, owned, Entry, entry, onward, StartsAt, here, later, OnChain, first, follow}
use Rattle.model.specs.Check.{every}
use Rattle.model.proofs.Followed.{Long, Followed, was_free, was_owned, followed, none_left}
use Rattle.model.proofs.Landing.{starts_from, none_starts, up_free, down_free, up_owned, down_owned, first_off}

-- a fragment at its place passes the test, as what the chain makes of it
pub record Passes (t : Entry → Bool) (at next : ℕ) (fs : List Fragment) (a : ℕ) (h : Fragment) : Type 0 where
  pub as_free : OnChain at next fs a → t (entry a h free) ≡ true
  pub as_owned : (OnChain at next fs a → ⊥) → t (entry a h (owned h.id)) ≡ true

abbrev pub EachPasses : (Entry → Bool) → ℕ → ℕ → List Fragment → Type 0
EachPasses t at next fs = (a : ℕ) (h : Fragment) → StartsAt at fs a h → Passes t at next fs a h

module _ (t : Entry → Bool) where
  -- past the first fragment, for the rest the chain is the same
  module _ (at : ℕ) (f : Fragment) (fs : List Fragment) (p : 0 < at) (l : 0 < f.len) where
    rest_free : (a : ℕ) (h : Fragment) → StartsAt (at + f.len) fs a h → Passes t (at + f.len) (onward at f.id) fs a h → Passes t at at (f ∷ fs) a h
    rest_free a h s w = record {
      as_free = λ c. go (down_free at f fs l p a c);
      as_owned = λ n. w.as_owned (λ c. n (up_free at f fs l p a c));
    }
      where
        go : (a ≡ at) ⊎ OnChain (at + f.len) (onward at f.id) fs a → t (entry a h free) ≡ true
        go (inl e) = absurd (omega (arith, starts_from s))
        go (inr c) = w.as_free c

    free_rest : (a : ℕ) (h : Fragment) → StartsAt (at + f.len) fs a h → Passes t at at (f ∷ fs) a h → Passes t (at + f.len) (onward at f.id) fs a h
    free_rest a h s w = record {
      as_free = λ c. w.as_free (up_free at f fs l p a c);
      as_owned = λ n. w.as_owned (λ c. go n (down_free at f fs l p a c));
    }
      where
        go : (OnChain (at + f.len) (onward at f.id) fs a → ⊥) → (a ≡ at) ⊎ OnChain (at + f.len) (onward at f.id) fs a → ⊥
        go n (inl e) = omega (arith, starts_from s)
        go n (inr c) = n c

    rest_owned : (next : ℕ) → (at ≡ next → ⊥) → (a : ℕ) (h : Fragment) → Passes t (at + f.len) next fs a h → Passes t at next (f ∷ fs) a h
    rest_owned next n a h w = record {
      as_free = λ c. w.as_free (down_owned at f fs l next n a c);
      as_owned = λ k. w.as_owned (λ c. k (up_owned at f fs l next n a c));
    }

    owned_rest : (next : ℕ) → (at ≡ next → ⊥) → (a : ℕ) (h : Fragment) → Passes t at next (f ∷ fs) a h → Passes t (at + f.len) next fs a h
    owned_rest next n a h w = record {
      as_free = λ c. w.as_free (up_owned at f fs l next n a c);
      as_owned = λ k. w.as_owned (λ c. k (down_owned at f fs l next n a c));
    }

    -- the first fragment itself is on the chain exactly where the chain leads to it
    first_on : OnChain at at (f ∷ fs) at
    first_on = first (λ e. omega arith)

  pub every_passes : (at next : ℕ) (fs : List Fragment) (es : List Entry) → 0 < at → Long fs → follow at next fs ≡ some es → every t es ≡ true → EachPasses t at next fs
  every_passes at next [] es p l e v = λ a h s. absurd (none_starts s)
  every_passes at next (f ∷ fs) es p l e v = go es (followed at next f fs es e) v (λ n gs k w. every_passes (at + f.len) n fs gs (omega arith) l.1 k w)
    where
      go : (es : List Entry) → Followed at next f fs es → every t es ≡ true
          → ((n : ℕ) (gs : List Entry) → follow (at + f.len) n fs ≡ some gs → every t gs ≡ true → EachPasses t (at + f.len) n fs)
          → EachPasses t at next (f ∷ fs)
      go es (was_free gs q k) v ih =
          let w = both (t (entry at f free)) (every t gs) v in
          subst (λ (n : ℕ). EachPasses t at n (f ∷ fs)) q (λ a h s. way a h s w.0 (ih (onward at f.id) gs k w.1))
        where
          way : (a : ℕ) (h : Fragment) → StartsAt at (f ∷ fs) a h → t (entry at f free) ≡ true → EachPasses t (at + f.len) (onward at f.id) fs → Passes t at at (f ∷ fs) a h
          way _ _ here w r = record { as_free = λ c. w; as_owned = λ n. absurd (n (first_on at f fs p l.0)) }
          way a h (later s) w r = rest_free at f fs p l.0 a h s (r a h s)
      go es (was_owned gs q k) v ih =
          let w = both (t (entry at f (owned f.id))) (every t gs) v in
          (λ a h s. way a h s w.0 (ih next gs k w.1))
        where
          way : (a : ℕ) (h : Fragment) → StartsAt at (f ∷ fs) a h → t (entry at f (owned f.id)) ≡ true → EachPasses t (at + f.len) next fs → Passes t at next (f ∷ fs) a h
          way _ _ here w r = record { as_free = λ c. absurd (first_off at f fs l.0 next q c); as_owned = λ n. w }
          way a h (later s) w r = rest_owned at f fs p l.0 next q a h (r a h s)

  pub passes_every : (at next : ℕ) (fs : List Fragment) (es : List Entry) → 0 < at → Long fs → follow at next fs ≡ some es → EachPasses t at next fs → every t es ≡ true
  passes_every at next [] es p l e v = subst⁻¹ (λ (r : List Entry). every t r ≡ true) (none_left at next es e).1 refl
  passes_every at next (f ∷ fs) es p l e v = go es (followed at next f fs es e) (λ n gs k w. passes_every (at + f.len) n fs gs (omega arith) l.1 k w)
    where
      go : (es : List Entry) → Followed at next f fs es
          → ((n : ℕ) (gs : List Entry) → follow (at + f.len) n fs ≡ some gs → EachPasses t (at + f.len) n fs → every t gs ≡ true)
          → every t es ≡ true
      go es (was_free gs q k) ih =
          let v2 : EachPasses t at at (f ∷ fs) = subst⁻¹ (λ (n : ℕ). EachPasses t at n (f ∷ fs)) q v in
          and_true (t (entry at f free)) (every t gs) ((v2 at f here).as_free (first_on at f fs p l.0))
          (ih (onward at f.id) gs k (λ a h s. free_rest at f fs p l.0 a h s (v2 a h (later s))))
      go es (was_owned gs q k) ih =
          and_true (t (entry at f (owned f.id))) (every t gs) ((v at f here).as_owned (first_off at f fs l.0 next q))
          (ih next gs k (λ a h s. owned_rest at f fs p l.0 next q a h (v a h (later s))))
