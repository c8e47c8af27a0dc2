-- The tests that a zone passed which keeps the rules: the reading taken apart test by test, since each refusal differs from a
-- reading.
use mathlib.Core.Path.{◌≡◌, refl, sym, ap, subst}
use mathlib.Core.Bool.{true}
use mathlib.Core.List.{List}
use mathlib.Core.Option.{Option, none, some}
use Prim.Native.Nat.{ℕ, ◌≤◌}
use native.Mathlib.Omega.{arith}
use lib.Dec.{leb}
use borrow.Author.Tests.{leb-true}
use Rattle.bits.proofs.Tests.{by_test}
use Rattle.geometry.specs.declared.Geometry.{Geometry}
use Rattle.geometry.specs.Places.{first_bit, end_bit}
use Rattle.model.specs.Fragments.{Fragment, fragments_in}
use Rattle.model.specs.Chain.{Entry, onward, follow}
use Rattle.model.specs.Blocks.{free_link, link_in, alloc_bits}
use Rattle.model.specs.Answer.{Answer, refused, answered}
use Rattle.model.specs.Check.{in_clusters, owners_fit, after_follow, after_cut, zone_read}

-- the tests, in their order
pub record ZoneTests (g : Geometry) (z : ℕ) (b : List ℕ) (es : List Entry) : Type 0 where
  pub fragments : List Fragment
  pub cut : fragments_in g.idlen (alloc_bits (first_bit z) (end_bit g) b) ≡ some fragments
  pub clusters : in_clusters g.cluster fragments ≡ true
  pub top_bit : 32768 ≤ free_link b
  pub chain : follow (first_bit z) (onward 8 (link_in b)) fragments ≡ some es
  pub owners : owners_fit g z es ≡ true

not_answered : {n z : ℕ} {es : List Entry} → refused n z ≡ answered es → ⊥
not_answered e = let x : ◌≡◌ {A = ℕ} 0 1 = cc in omega arith

same_answer : {ds es : List Entry} → answered ds ≡ answered es → ds ≡ es
same_answer e = cc

after_follow_law : (g : Geometry) (z : ℕ) (r : Option (List Entry)) (es : List Entry) → after_follow g z r ≡ answered es → (r ≡ some es) × (owners_fit g z es ≡ true)
after_follow_law g z none es e = absurd (not_answered e)
after_follow_law g z (some ds) es e =
    by_test (owners_fit g z ds)
    (λ t. let k : ds ≡ es = same_answer (simp t at e) in (ap some k, subst (λ (x : List Entry). owners_fit g z x ≡ true) k t))
    (λ t. absurd (not_answered (simp t at e)))

pub zone_tests : (g : Geometry) (z : ℕ) (b : List ℕ) (es : List Entry) → zone_read g z b ≡ answered es → ZoneTests g z b es
zone_tests g z b es e = go (fragments_in g.idlen (alloc_bits (first_bit z) (end_bit g) b)) refl e
  where
    go : (r : Option (List Fragment)) → fragments_in g.idlen (alloc_bits (first_bit z) (end_bit g) b) ≡ r → after_cut g z b r ≡ answered es → ZoneTests g z b es
    go none k e = absurd (not_answered e)
    go (some fs) k e =
        by_test (in_clusters g.cluster fs)
        (λ t. by_test (leb 32768 (free_link b))
        (λ u. let p = after_follow_law g z (follow (first_bit z) (onward 8 (link_in b)) fs) es (simp (t, u) at e) in
        record { fragments = fs; cut = k; clusters = t; top_bit = leb-true 32768 (free_link b) u; chain = p.0; owners = p.1 })
        (λ u. absurd (not_answered (simp (t, u) at e))))
        (λ t. absurd (not_answered (simp t at e)))

-- a zone that is refused tells itself
refused_zone : {n z m i : ℕ} → ◌≡◌ {A = Answer (List Entry)} (refused n z) (refused m i) → i ≡ z
refused_zone e = cc

pub own_zone : (g : Geometry) (z : ℕ) (b : List ℕ) (n i : ℕ) → zone_read g z b ≡ refused n i → i ≡ z
own_zone g z b n i e = go (fragments_in g.idlen (alloc_bits (first_bit z) (end_bit g) b)) e
  where
    after : (r : Option (List Entry)) → after_follow g z r ≡ refused n i → i ≡ z
    after none e = refused_zone e
    after (some es) e = by_test (owners_fit g z es) (λ t. absurd (not_answered (sym (simp t at e)))) (λ t. refused_zone (simp t at e))

    go : (r : Option (List Fragment)) → after_cut g z b r ≡ refused n i → i ≡ z
    go none e = refused_zone e
    go (some fs) e =
        by_test (in_clusters g.cluster fs)
        (λ t. by_test (leb 32768 (free_link b)) (λ u. after (follow (first_bit z) (onward 8 (link_in b)) fs) (simp (t, u) at e)) (λ u. refused_zone (simp (t, u) at e)))
        (λ t. refused_zone (simp t at e))
