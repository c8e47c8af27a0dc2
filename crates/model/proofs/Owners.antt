-- The owner rule and its test say the same (refusal 7): the ids, the disc's end and object 2, each a test of every entry
-- (`Holders`) or of the first.
use mathlib.Core.Path.{◌≡◌, refl, ap, subst}
use mathlib.Core.Bool.{true, false, not, ◌&&◌, ◌||◌, false≢true}
use mathlib.Core.List.{List, [], ◌∷◌}
use mathlib.Core.Option.{some}
use mathlib.Core.Logic.{◌⊎◌, inl, inr}
use Prim.Native.Nat.{ℕ, ◌+◌, ◌-◌, ◌*◌, ◌/◌, ◌<◌, ◌≤◌}
use native.Mathlib.Omega.{arith}
use lib.Dec.{eqb, ltb, leb}
use borrow.Author.Tests.{eqb-true, eq-eqb, leb-true, leb-false, le-leb, lt-ltb, ltb-true}
use Rattle.bits.proofs.Tests.{by_test, both, and_true, either, or_left, or_right}
use Rattle.geometry.specs.declared.Geometry.{Geometry}
use Rattle.geometry.specs.Accepted.{AcceptedGeometry}
use Rattle.geometry.specs.Places.{first_bit, disc_bit}
use Rattle.geometry.proofs.DiscBits.{first_low, from_zero_on}
use Rattle.model.specs.Fragments.{Fragment}
use Rattle.model.specs.Chain.{Entry, onward, StartsAt, here, later, OnChain, first, follow}
use Rattle.model.specs.Blocks.{link_in}
use Rattle.model.specs.Rules.{Free, OwnerRule}
use Rattle.model.specs.Check.{every, id_fits, end_fits, first_owned, owners_fit}
use Rattle.model.proofs.Followed.{Long, Followed, was_free, was_owned, followed, none_left}
use Rattle.model.proofs.Landing.{starts_from, none_starts, first_off}
use Rattle.model.proofs.Holders.{every_passes, passes_every}

module _ (g : Geometry) (ok : AcceptedGeometry g) (z : ℕ) (b : List ℕ) (fs : List Fragment) (es : List Entry)
    (l : Long fs) (e : follow (first_bit z) (onward 8 (link_in b)) fs ≡ some es) where
  some_place : 0 < first_bit z
  some_place = omega (arith, first_low z)

  -- ids
  ids_hold : every (id_fits g) es ≡ true → (a : ℕ) (f : Fragment) → StartsAt (first_bit z) fs a f → (Free z b fs a → ⊥) → (1 ≤ f.id) × (f.id < g.ids * g.zones)
  ids_hold t a f s n =
      let w = every_passes (id_fits g) (first_bit z) (onward 8 (link_in b)) fs es some_place l e t a f s in
      let v = both (leb 1 f.id) (ltb f.id (g.ids * g.zones)) (w.as_owned n) in
      (leb-true 1 f.id v.0, ltb-true f.id (g.ids * g.zones) v.1)

  ids_fit : OwnerRule g z b fs → every (id_fits g) es ≡ true
  ids_fit r = passes_every (id_fits g) (first_bit z) (onward 8 (link_in b)) fs es some_place l e
      (λ a f s. record {
        as_free = λ c. refl;
        as_owned = λ n. (let v = r.ids a f s n in and_true (leb 1 f.id) (ltb f.id (g.ids * g.zones)) (le-leb 1 f.id v.0) (lt-ltb f.id (g.ids * g.zones) v.1));
      })

  -- the disc's end
  past_end : (a len d : ℕ) → g.end.0 ≤ d → d < disc_bit g z (a + len) → leb (disc_bit g z (a + len)) g.end.0 ≡ true → ⊥
  past_end a len d h k t = omega (arith, leb-true (disc_bit g z (a + len)) g.end.0 t)

  ends_hold : every (end_fits g z) es ≡ true → (a : ℕ) (f : Fragment) → StartsAt (first_bit z) fs a f → (d : ℕ) → g.end.0 ≤ d → disc_bit g z a ≤ d → d < disc_bit g z (a + f.len)
      → (Free z b fs a → ⊥) × (f.id ≡ 1)
  ends_hold t a f s d h low k =
      let w = every_passes (end_fits g z) (first_bit z) (onward 8 (link_in b)) fs es some_place l e t a f s in
      let n : Free z b fs a → ⊥ = (λ c. past_end a f.len d h k (w.as_free c)) in
      (n, go (either (eqb f.id 1) (leb (disc_bit g z (a + f.len)) g.end.0) (w.as_owned n)))
    where
      go : (eqb f.id 1 ≡ true) ⊎ (leb (disc_bit g z (a + f.len)) g.end.0 ≡ true) → f.id ≡ 1
      go (inl t) = eqb-true f.id 1 t
      go (inr t) = absurd (past_end a f.len d h k t)

  -- a fragment that ends past the disc's end has a bit there: its last
  last_bit : (a : ℕ) (f : Fragment) → first_bit z ≤ a → 0 < f.len → leb (disc_bit g z (a + f.len)) g.end.0 ≡ false
      → (g.end.0 ≤ disc_bit g z (a + f.len) - 1) × (disc_bit g z a ≤ disc_bit g z (a + f.len) - 1) × (disc_bit g z (a + f.len) - 1 < disc_bit g z (a + f.len))
  last_bit a f h k t =
      let u = leb-false (disc_bit g z (a + f.len)) g.end.0 t in
      let v = from_zero_on g ok z a h in
      (omega arith, omega arith, omega arith)

  long_at : {at a : ℕ} {f : Fragment} {gs : List Fragment} → StartsAt at gs a f → Long gs → 0 < f.len
  long_at here w = w.0
  long_at (later s) w = long_at s w.1

  ends_fit : OwnerRule g z b fs → every (end_fits g z) es ≡ true
  ends_fit r = passes_every (end_fits g z) (first_bit z) (onward 8 (link_in b)) fs es some_place l e
      (λ a f s. by_test (leb (disc_bit g z (a + f.len)) g.end.0)
      (λ t. record { as_free = λ c. t; as_owned = λ n. or_right (eqb f.id 1) (leb (disc_bit g z (a + f.len)) g.end.0) t })
      (λ t. let y = last_bit a f (starts_from s) (long_at s l) t in
      let v = r.disc_end a f s (disc_bit g z (a + f.len) - 1) y.0 y.1 y.2 in
      record { as_free = λ c. absurd (v.0 c); as_owned = λ n. or_left (eqb f.id 1) (leb (disc_bit g z (a + f.len)) g.end.0) (eq-eqb f.id 1 v.1) }))

-- object 2: the first entry
first_holds : (at next : ℕ) (fs : List Fragment) (es : List Entry) → 0 < at → Long fs → follow at next fs ≡ some es → first_owned 2 es ≡ true
    → (f : Fragment) × StartsAt at fs at f × (OnChain at next fs at → ⊥) × (f.id ≡ 2)
first_holds at next [] es p l e t = absurd (false≢true (subst (λ (r : List Entry). first_owned 2 r ≡ true) (none_left at next es e).1 t))
first_holds at next (f ∷ fs) es p l e t = go es (followed at next f fs es e) t
  where
    go : (es : List Entry) → Followed at next f fs es → first_owned 2 es ≡ true → (h : Fragment) × StartsAt at (f ∷ fs) at h × (OnChain at next (f ∷ fs) at → ⊥) × (h.id ≡ 2)
    go es (was_free gs q k) t = absurd (false≢true t)
    go es (was_owned gs q k) t = (f, here, first_off at f fs l.0 next q, eqb-true f.id 2 t)

first_fits : (at next : ℕ) (fs : List Fragment) (es : List Entry) → 0 < at → Long fs → follow at next fs ≡ some es
    → (f : Fragment) → StartsAt at fs at f → (OnChain at next fs at → ⊥) → f.id ≡ 2 → first_owned 2 es ≡ true
first_fits at next [] es p l e f s n q = absurd (none_starts s)
first_fits at next (h ∷ fs) es p l e f s n q = go es (followed at next h fs es e)
  where
    same : (a : ℕ) (f : Fragment) → StartsAt at (h ∷ fs) a f → a ≡ at → f.id ≡ 2 → h.id ≡ 2
    same a f here k q = q
    same a f (later s) k q = absurd (omega (arith, starts_from s))

    go : (es : List Entry) → Followed at next h fs es → first_owned 2 es ≡ true
    go es (was_free gs k w) = absurd (n (subst (λ (x : ℕ). OnChain at x (h ∷ fs) at) k (first (λ e. omega arith))))
    go es (was_owned gs k w) = eq-eqb h.id 2 (same at f s refl q)

module _ (g : Geometry) (ok : AcceptedGeometry g) (z : ℕ) (b : List ℕ) (fs : List Fragment) (es : List Entry)
    (l : Long fs) (e : follow (first_bit z) (onward 8 (link_in b)) fs ≡ some es) where
  pub owners_hold : owners_fit g z es ≡ true → OwnerRule g z b fs
  owners_hold t =
      let a = both (every (id_fits g) es && every (end_fits g z) es) (not (eqb z (g.zones / 2)) || first_owned 2 es) t in
      let c = both (every (id_fits g) es) (every (end_fits g z) es) a.0 in
      record {
        ids = ids_hold g ok z b fs es l e c.0;
        disc_end = ends_hold g ok z b fs es l e c.1;
        object_2 = λ m. first_holds (first_bit z) (onward 8 (link_in b)) fs es (some_place g ok z b fs es l e) l e (middle m a.1);
      }
    where
      middle : z ≡ g.zones / 2 → not (eqb z (g.zones / 2)) || first_owned 2 es ≡ true → first_owned 2 es ≡ true
      middle m t = simp (eq-eqb z (g.zones / 2) m) at t

  pub owners_fit_law : OwnerRule g z b fs → owners_fit g z es ≡ true
  owners_fit_law r =
      and_true (every (id_fits g) es && every (end_fits g z) es) (not (eqb z (g.zones / 2)) || first_owned 2 es)
      (and_true (every (id_fits g) es) (every (end_fits g z) es) (ids_fit g ok z b fs es l e r) (ends_fit g ok z b fs es l e r))
      (by_test (eqb z (g.zones / 2))
      (λ t. let w = r.object_2 (eqb-true z (g.zones / 2) t) in
      or_right (not (eqb z (g.zones / 2))) (first_owned 2 es)
      (first_fits (first_bit z) (onward 8 (link_in b)) fs es (some_place g ok z b fs es l e) l e w.0 w.1 w.2 w.3))
      (λ t. or_left (not (eqb z (g.zones / 2))) (first_owned 2 es) (ap not t)))
