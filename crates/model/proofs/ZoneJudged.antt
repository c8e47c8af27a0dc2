-- A zone judged: it is read exactly when its rules hold, as what stands there, and refused with n exactly when n is the first of 6, 5,
-- 7 that applies.
use mathlib.Core.Path.{◌≡◌, refl, sym, ap, ◌∙◌, subst, subst⁻¹}
use mathlib.Core.Bool.{Bool, true, false, cond, false≢true}
use mathlib.Core.List.{List, [], ◌∷◌}
use mathlib.Core.Option.{Option, none, some}
use Prim.Native.Nat.{ℕ, suc, ◌-◌, ◌%◌, ◌<◌, ◌≤◌}
use native.Mathlib.Omega.{arith}
use lib.Dec.{eqb, leb}
use borrow.Author.Tests.{eqb-true, eq-eqb, leb-true, le-leb}
use Rattle.bits.proofs.Tests.{both, and_true}
use Rattle.geometry.specs.declared.Geometry.{Geometry}
use Rattle.geometry.specs.Accepted.{AcceptedGeometry}
use Rattle.geometry.specs.Places.{first_bit, end_bit}
use Rattle.geometry.proofs.DiscBits.{first_low}
use Rattle.model.specs.Fragments.{Fragment, fragment_bits, Formed, InClusters, edge, cut, fragments_in}
use Rattle.model.specs.Chain.{Entry, onward, follow}
use Rattle.model.specs.Blocks.{free_link, link_in, alloc_bits}
use Rattle.model.specs.Rules.{FragmentRule, ChainRule, OwnerRule, ZoneRules, Free, EntriesOf, ReadAs}
use Rattle.model.specs.Answer.{Answer, refused, answered}
use Rattle.model.specs.Check.{in_clusters, owners_fit, after_follow, after_cut, zone_read}
use Rattle.model.specs.Table.{ZoneFault, six, five, seven}
use Rattle.model.proofs.Options.{none_some, some_some}
use Rattle.model.proofs.FragmentsRead.{cut_written, written_cut}
use Rattle.model.proofs.Followed.{Long}
use Rattle.model.proofs.ZoneDrawn.{long_fit}
use Rattle.model.proofs.Landing.{follow_lands, lands_follow}
use Rattle.model.proofs.Owners.{owners_hold, owners_fit_law}
use Rattle.model.proofs.ReadThere.{read_there, entries_same}

clusters_hold : (k : ℕ) (fs : List Fragment) → in_clusters k fs ≡ true → InClusters k fs
clusters_hold k [] t = tt
clusters_hold k (f ∷ fs) t = let p = both (eqb (f.len % k) 0) (in_clusters k fs) t in (eqb-true (f.len % k) 0 p.0, clusters_hold k fs p.1)

clusters_fit : (k : ℕ) (fs : List Fragment) → InClusters k fs → in_clusters k fs ≡ true
clusters_fit k [] w = refl
clusters_fit k (f ∷ fs) w = and_true (eqb (f.len % k) 0) (in_clusters k fs) (eq-eqb (f.len % k) 0 w.0) (clusters_fit k fs w.1)

-- what a zone read says
pub data ZoneSays (g : Geometry) (z : ℕ) (b : List ℕ) : Answer (List Entry) → Type 0 where
  kept : (es : List Entry) → ReadAs g z b es → ZoneSays g z b (answered es)
  broken : (n : ℕ) → ZoneFault g z b n → ZoneSays g z b (refused n z)

module _ (g : Geometry) (ok : AcceptedGeometry g) (z : ℕ) (b : List ℕ) where
  abbrev bits : List Bool
  bits = alloc_bits (first_bit z) (end_bit g) b

  whole_id : suc (g.idlen - 1) ≡ g.idlen
  whole_id = omega arith

  -- the fragment rule, and the fragments read
  fragments_hold : (fs : List Fragment) → fragments_in g.idlen bits ≡ some fs → in_clusters g.cluster fs ≡ true → FragmentRule g z b fs
  fragments_hold fs e t =
      let w = subst (λ (n : ℕ). (bits ≡ fragment_bits n fs) × Formed n fs) whole_id (written_cut (g.idlen - 1) bits fs e) in
      record { fill = w.0; formed = w.1; clusters = clusters_hold g.cluster fs t }

  pub fragments_read : (fs : List Fragment) → FragmentRule g z b fs → fragments_in g.idlen bits ≡ some fs
  fragments_read fs r =
      ap (cut (g.idlen - 1) edge) r.fill
      ∙ subst (λ (n : ℕ). cut (g.idlen - 1) edge (fragment_bits n fs) ≡ some fs) whole_id
      (cut_written (g.idlen - 1) fs (subst⁻¹ (λ (n : ℕ). Formed n fs) whole_id r.formed))

  -- so the fragments are fixed by the bits
  pub fragments_same : (fs gs : List Fragment) → FragmentRule g z b fs → FragmentRule g z b gs → fs ≡ gs
  fragments_same fs gs r s = some_some (sym (fragments_read fs r) ∙ fragments_read gs s)

  pub fragments_long : (fs : List Fragment) → FragmentRule g z b fs → Long fs
  fragments_long fs r = long_fit g.idlen fs r.formed

  some_place : 0 < first_bit z
  some_place = omega (arith, first_low z)

  -- the walk's answer, test by test
  after_owners : (fs : List Fragment) (es : List Entry) → FragmentRule g z b fs → ChainRule z b fs → follow (first_bit z) (onward 8 (link_in b)) fs ≡ some es
      → (t : Bool) → owners_fit g z es ≡ t → ZoneSays g z b (cond t (answered es) (refused 7 z))
  after_owners fs es r c e true t =
      kept es (record {
        rules = record { fragments = fs; fragment_rule = r; chain_rule = c; owner_rule = owners_hold g ok z b fs es (fragments_long fs r) e t };
        entries = read_there (first_bit z) (onward 8 (link_in b)) fs es some_place (fragments_long fs r) e;
      })
  after_owners fs es r c e false t = broken 7 (seven fs r c (λ w. false≢true (sym t ∙ owners_fit_law g ok z b fs es (fragments_long fs r) e w)))

  after_chain : (fs : List Fragment) → FragmentRule g z b fs → 32768 ≤ free_link b → (r : Option (List Entry)) → follow (first_bit z) (onward 8 (link_in b)) fs ≡ r → ZoneSays g z b (after_follow g z r)
  after_chain fs r h none e =
      broken 5 (five fs r (λ c. let w = lands_follow (first_bit z) (onward 8 (link_in b)) fs some_place (fragments_long fs r) c.land in none_some (sym e ∙ w.1)))
  after_chain fs r h (some es) e =
      after_owners fs es r (record { top_bit = h; land = follow_lands (first_bit z) (onward 8 (link_in b)) fs es some_place (fragments_long fs r) e }) e (owners_fit g z es) refl

  after_top : (fs : List Fragment) → FragmentRule g z b fs → (t : Bool) → leb 32768 (free_link b) ≡ t
      → ZoneSays g z b (cond t (after_follow g z (follow (first_bit z) (onward 8 (link_in b)) fs)) (refused 5 z))
  after_top fs r true t = after_chain fs r (leb-true 32768 (free_link b) t) (follow (first_bit z) (onward 8 (link_in b)) fs) refl
  after_top fs r false t = broken 5 (five fs r (λ c. false≢true (sym t ∙ le-leb 32768 (free_link b) c.top_bit)))

  after_clusters : (fs : List Fragment) → fragments_in g.idlen bits ≡ some fs → (t : Bool) → in_clusters g.cluster fs ≡ t
      → ZoneSays g z b (cond t (cond (leb 32768 (free_link b)) (after_follow g z (follow (first_bit z) (onward 8 (link_in b)) fs)) (refused 5 z)) (refused 6 z))
  after_clusters fs e true t = after_top fs (fragments_hold fs e t) (leb 32768 (free_link b)) refl
  after_clusters fs e false t =
      broken 6 (six (λ gs r. let q : gs ≡ fs = some_some (sym (fragments_read gs r) ∙ e) in
      false≢true (sym t ∙ subst (λ (x : List Fragment). in_clusters g.cluster x ≡ true) q (clusters_fit g.cluster gs r.clusters))))

  after_fragments : (r : Option (List Fragment)) → fragments_in g.idlen bits ≡ r → ZoneSays g z b (after_cut g z b r)
  after_fragments none e = broken 6 (six (λ gs r. none_some (sym e ∙ fragments_read gs r)))
  after_fragments (some fs) e = after_clusters fs e (in_clusters g.cluster fs) refl

  pub zone_says : ZoneSays g z b (zone_read g z b)
  zone_says = after_fragments (fragments_in g.idlen bits) refl

  -- a zone has one fault or none
  pub no_fault : (n : ℕ) → ZoneRules g z b → ZoneFault g z b n → ⊥
  no_fault n w (six f) = f w.fragments w.fragment_rule
  no_fault n w (five fs r f) = f (subst (λ (x : List Fragment). ChainRule z b x) (fragments_same w.fragments fs w.fragment_rule r) w.chain_rule)
  no_fault n w (seven fs r c f) = f (subst (λ (x : List Fragment). OwnerRule g z b x) (fragments_same w.fragments fs w.fragment_rule r) w.owner_rule)

  pub one_fault : (m n : ℕ) → ZoneFault g z b m → ZoneFault g z b n → m ≡ n
  one_fault m n (six f) (six h) = refl
  one_fault m n (six f) (five fs r h) = absurd (f fs r)
  one_fault m n (six f) (seven fs r c h) = absurd (f fs r)
  one_fault m n (five fs r f) (six h) = absurd (h fs r)
  one_fault m n (five fs r f) (five gs s h) = refl
  one_fault m n (five fs r f) (seven gs s c h) = absurd (f (subst (λ (x : List Fragment). ChainRule z b x) (fragments_same gs fs s r) c))
  one_fault m n (seven fs r c f) (six h) = absurd (h fs r)
  one_fault m n (seven fs r c f) (five gs s h) = absurd (h (subst (λ (x : List Fragment). ChainRule z b x) (fragments_same fs gs r s) c))
  one_fault m n (seven fs r c f) (seven gs s d h) = refl

  -- what was read of a zone is fixed by its block
  pub read_same : (es ds : List Entry) → ReadAs g z b es → ReadAs g z b ds → es ≡ ds
  read_same es ds v w =
      let fs = w.rules.fragments in
      let q = fragments_same v.rules.fragments fs v.rules.fragment_rule w.rules.fragment_rule in
      entries_same (Free z b fs) (first_bit z) fs es ds (subst (λ (x : List Fragment). EntriesOf (Free z b x) (first_bit z) x es) q v.entries) w.entries
