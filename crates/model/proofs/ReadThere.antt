-- What is read of a zone is what stands there: the chain followed gives an entry for each fragment, free exactly where the chain comes
-- by, and no other entries do.
use mathlib.Core.Path.{◌≡◌, refl, sym, ap, ◌∙◌, subst, subst⁻¹}
use mathlib.Core.List.{List, [], ◌∷◌}
use mathlib.Core.Option.{some}
use mathlib.Core.Logic.{◌⊎◌, inl, inr}
use Prim.Native.Nat.{ℕ, ◌+◌, ◌<◌, ◌≤◌}
use native.Mathlib.Omega.{arith}
use Rattle.model.specs.Fragments.{Fragment}
use Rattle.model.specs.Chain.{Holder, free, owned, Entry, onward, OnChain, first, follow}
use Rattle.model.specs.Rules.{HeldAs, EntriesOf}
use Rattle.model.proofs.Followed.{Long, Followed, was_free, was_owned, followed, none_left}
use Rattle.model.proofs.Landing.{up_free, down_free, up_owned, down_owned, first_off}

-- two ways to say which places are on the chain, equal from `at` on
entries_other : (P Q : ℕ → Type 0) (at : ℕ) (fs : List Fragment) (es : List Entry) → ((x : ℕ) → at ≤ x → P x → Q x) → ((x : ℕ) → at ≤ x → Q x → P x)
    → EntriesOf P at fs es → EntriesOf Q at fs es
entries_other P Q at [] [] u d w = tt
entries_other P Q at [] (e ∷ es) u d w = w
entries_other P Q at (f ∷ fs) [] u d w = w
entries_other P Q at (f ∷ fs) (e ∷ es) u d w =
    (w.0, held e.holder w.1, entries_other P Q (at + f.len) fs es (λ x h. u x (omega arith)) (λ x h. d x (omega arith)) w.2)
  where
    held : (h : Holder) → HeldAs (P at) f h → HeldAs (Q at) f h
    held free p = u at (omega arith) p
    held (owned id) p = ((λ q. p.0 (d at (omega arith) q)), p.1)

pub read_there : (at next : ℕ) (fs : List Fragment) (es : List Entry) → 0 < at → Long fs → follow at next fs ≡ some es → EntriesOf (OnChain at next fs) at fs es
read_there at next [] es p l e = subst⁻¹ (λ (r : List Entry). EntriesOf (OnChain at next []) at [] r) (none_left at next es e).1 tt
read_there at next (f ∷ fs) es p l e = go es (followed at next f fs es e) (λ n gs k. read_there (at + f.len) n fs gs (omega arith) l.1 k)
  where
    go : (es : List Entry) → Followed at next f fs es → ((n : ℕ) (gs : List Entry) → follow (at + f.len) n fs ≡ some gs → EntriesOf (OnChain (at + f.len) n fs) (at + f.len) fs gs)
        → EntriesOf (OnChain at next (f ∷ fs)) at (f ∷ fs) es
    go es (was_free gs q k) ih =
        let next_free : ℕ = onward at f.id in (
          refl,
          subst (λ (n : ℕ). OnChain at n (f ∷ fs) at) q (first (λ e. omega arith)),
          subst (λ (n : ℕ). EntriesOf (OnChain at n (f ∷ fs)) (at + f.len) fs gs) q
              (entries_other (OnChain (at + f.len) next_free fs) (OnChain at at (f ∷ fs)) (at + f.len) fs gs
              (λ x h c. up_free at f fs l.0 p x c) (λ x h c. after x h (down_free at f fs l.0 p x c)) (ih next_free gs k)),
        )
      where
        after : (x : ℕ) → at + f.len ≤ x → (x ≡ at) ⊎ OnChain (at + f.len) (onward at f.id) fs x → OnChain (at + f.len) (onward at f.id) fs x
        after x h (inl i) = absurd (omega (arith, l.0))
        after x h (inr c) = c
    go es (was_owned gs q k) ih = (
      refl,
      (first_off at f fs l.0 next q, refl),
      entries_other (OnChain (at + f.len) next fs) (OnChain at next (f ∷ fs)) (at + f.len) fs gs
          (λ x h c. up_owned at f fs l.0 next q x c) (λ x h c. down_owned at f fs l.0 next q x c) (ih next gs k),
    )

-- the fragments and the chain fix the entries
holder_same : (A : Type 0) (f : Fragment) (h k : Holder) → HeldAs A f h → HeldAs A f k → h ≡ k
holder_same A f free free p q = refl
holder_same A f free (owned id) p q = absurd (q.0 p)
holder_same A f (owned id) free p q = absurd (p.0 q)
holder_same A f (owned id) (owned o) p q = ap owned (p.1 ∙ sym q.1)

pub entries_same : (P : ℕ → Type 0) (at : ℕ) (fs : List Fragment) (es ds : List Entry) → EntriesOf P at fs es → EntriesOf P at fs ds → es ≡ ds
entries_same P at [] [] [] v w = refl
entries_same P at [] [] (d ∷ ds) v w = absurd w
entries_same P at [] (e ∷ es) ds v w = absurd v
entries_same P at (f ∷ fs) [] ds v w = absurd v
entries_same P at (f ∷ fs) (e ∷ es) [] v w = absurd w
entries_same P at (f ∷ fs) (e ∷ es) (d ∷ ds) v w =
    let q = v.0 ∙ sym w.0 in
    let h = holder_same (P at) f e.holder d.holder v.1 w.1 in
    λ i. record { at = q i; holder = h i } ∷ entries_same P (at + f.len) fs es ds v.2 w.2 i
