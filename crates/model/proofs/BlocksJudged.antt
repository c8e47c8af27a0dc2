-- The blocks of a map whose record and length are right, judged: zone checks, cross checks and zones are passed in turn, with
-- what holds of the zones passed kept by; the first that fails is the lowest.
use mathlib.Core.Path.{◌≡◌, refl, sym, ap, ap₂, ◌∙◌, subst, subst⁻¹}
use mathlib.Core.Bool.{Bool, true, false, cond}
use mathlib.Core.List.{List, [], ◌∷◌}
use mathlib.Core.Option.{Option, none, some}
use Prim.Native.Nat.{ℕ, zero, suc, ◌+◌, ◌<◌}
use native.Mathlib.Omega.{arith}
use lib.Dec.{eqb, ltb}
use lib.ListN.{length, get_or}
use lib.Seq.{ext_get_or}
use borrow.Author.Tests.{eqb-true, eqb-false, eq-eqb, ne_eqb, ltb-true, ltb-false}
use Rattle.bits.proofs.Tests.{by_test}
use Rattle.checks.specs.Words.{zone_check}
use Rattle.geometry.specs.declared.Geometry.{Geometry}
use Rattle.geometry.specs.Record.{disc_record, geometry_of}
use Rattle.geometry.specs.Accepted.{AcceptedGeometry}
use Rattle.geometry.proofs.Numbers.{accepted}
use Rattle.model.specs.Chain.{Entry}
use Rattle.model.specs.Rules.{ZoneRules, ReadAs, CheckRule, CrossRule, zone_block}
use Rattle.model.specs.Answer.{Answer, refused, answered}
use Rattle.model.specs.Check.{join_zone, zone_read, zones_read, differing, cross_sum, after_checks, blocks_read, blocks_of}
use Rattle.model.specs.Table.{ZoneFault, Measured, CheckedBelow, RuledBelow, Judged, check_differs, cross_differs, zone_fault, kept}
use Rattle.model.proofs.ByPlace.{rest_from, rest_all, rest_none, rest_cons}
use Rattle.model.proofs.ZoneJudged.{ZoneSays, zone_says, no_fault, one_fault, read_same}
use Rattle.model.proofs.ZoneJudged as zones

-- the lowest place at which something fails is one
lowest_same : (P : ℕ → Type 0) (x y : ℕ) → ((i : ℕ) → i < x → P i) → (P x → ⊥) → ((i : ℕ) → i < y → P i) → (P y → ⊥) → x ≡ y
lowest_same P x y bx nx by ny =
    by_test (ltb x y)
    (λ t. absurd (nx (by x (ltb-true x y t))))
    (λ t. by_test (ltb y x)
    (λ u. absurd (ny (bx y (ltb-true y x u))))
    (λ u. omega (arith, ltb-false x y t, ltb-false y x u)))

more_below : (P : ℕ → Type 0) (z : ℕ) → ((i : ℕ) → i < z → P i) → P z → (i : ℕ) → i < z + 1 → P i
more_below P z b p i h =
    by_test (ltb i z)
    (λ t. b i (ltb-true i z t))
    (λ t. let e : z ≡ i = omega (arith, ltb-false i z t) in subst P e p)

module _ (m : List ℕ) (ms : Measured m) where
  abbrev g : Geometry
  g = geometry_of m

  ok : AcceptedGeometry (geometry_of m)
  ok = accepted (disc_record m) ms.record_rules

  abbrev rest : ℕ → List (List ℕ)
  rest z = rest_from m (geometry_of m).zones (geometry_of m).sector z

  abbrev Right : ℕ → Type 0
  Right z = CheckRule (zone_block (geometry_of m) m z)

  abbrev Ruled : ℕ → Type 0
  Ruled z = ZoneRules (geometry_of m) z (zone_block (geometry_of m) m z)

  -- zone checks
  data ChecksSay : Option ℕ → Type 0 where
    all_right : CheckedBelow m (geometry_of m).zones → ChecksSay none
    one_wrong : (z : ℕ) → z < (geometry_of m).zones → CheckedBelow m z → (Right z → ⊥) → ChecksSay (some z)

  checks_from : (k z : ℕ) → z + k ≡ (geometry_of m).zones → CheckedBelow m z → ChecksSay (differing z (rest z))
  checks_from zero z e b =
      subst⁻¹ (λ (l : List (List ℕ)). ChecksSay (differing z l)) (rest_none m g.zones g.sector z (omega arith))
      (all_right (λ i h. b i (omega arith)))
  checks_from (suc k) z e b =
      subst⁻¹ (λ (l : List (List ℕ)). ChecksSay (differing z l)) (rest_cons m g.zones g.sector z (omega arith))
      (by_test (eqb (get_or (zone_block g m z) 0 0) (zone_check (zone_block g m z)))
      (λ t. simp t (subst⁻¹ (λ (i : ℕ). ChecksSay (differing i (rest (z + 1)))) add_one (checks_from k (z + 1) (omega arith) (more_below Right z b (eqb-true _ _ t)))))
      (λ t. simp t (one_wrong z (omega arith) b (eqb-false _ _ t))))
    where
      add_one : suc z ≡ z + 1
      add_one = omega arith

  checks_say : ChecksSay (differing 0 (blocks_of (geometry_of m) m))
  checks_say =
      subst (λ (l : List (List ℕ)). ChecksSay (differing 0 l)) (rest_all m g.zones g.sector)
      (checks_from g.zones 0 (omega arith) (λ i h. absurd (omega arith)))

  checks_none : CheckedBelow m (geometry_of m).zones → differing 0 (blocks_of (geometry_of m) m) ≡ none
  checks_none b = go (differing 0 (blocks_of (geometry_of m) m)) checks_say
    where
      go : (r : Option ℕ) → ChecksSay r → r ≡ none
      go r (all_right w) = refl
      go r (one_wrong z h w n) = absurd (n (b z h))

  checks_first : (z : ℕ) → z < (geometry_of m).zones → CheckedBelow m z → (Right z → ⊥) → differing 0 (blocks_of (geometry_of m) m) ≡ some z
  checks_first z h b n = go (differing 0 (blocks_of (geometry_of m) m)) checks_say
    where
      go : (r : Option ℕ) → ChecksSay r → r ≡ some z
      go r (all_right w) = absurd (n (w z h))
      go r (one_wrong y k w o) = ap some (lowest_same Right y z w o b n)

  -- zones from z on
  pub data ZonesSay (z : ℕ) : Answer (List (List Entry)) → Type 0 where
    all_ruled : (ess : List (List Entry)) → RuledBelow m (geometry_of m).zones → z + length ess ≡ (geometry_of m).zones
        → ((i : ℕ) → z + i < (geometry_of m).zones → ReadAs (geometry_of m) (z + i) (zone_block (geometry_of m) m (z + i)) (get_or ess i [])) → ZonesSay z (answered ess)
    one_broken : (n y : ℕ) → y < (geometry_of m).zones → RuledBelow m y → ZoneFault (geometry_of m) y (zone_block (geometry_of m) m y) n → ZonesSay z (refused n y)

  -- one zone more in front
  more_read : (z : ℕ) (es : List Entry) (ess : List (List Entry)) → ReadAs g z (zone_block g m z) es
      → ((i : ℕ) → z + 1 + i < g.zones → ReadAs g (z + 1 + i) (zone_block g m (z + 1 + i)) (get_or ess i []))
      → (i : ℕ) → z + i < g.zones → ReadAs g (z + i) (zone_block g m (z + i)) (get_or (es ∷ ess) i [])
  more_read z es ess r rs zero h = let e : z ≡ z + 0 = omega arith in subst (λ (x : ℕ). ReadAs g x (zone_block g m x) es) e r
  more_read z es ess r rs (suc i) h =
      let e : z + 1 + i ≡ z + suc i = omega arith in
      subst (λ (x : ℕ). ReadAs g x (zone_block g m x) (get_or ess i [])) e (rs i (omega arith))

  join_read : (z : ℕ) (es : List Entry) → ReadAs g z (zone_block g m z) es → (r : Answer (List (List Entry))) → ZonesSay (z + 1) r → ZonesSay z (join_zone (answered es) r)
  join_read z es v r (all_ruled ess w l rs) = all_ruled (es ∷ ess) w (omega arith) (more_read z es ess v rs)
  join_read z es v r (one_broken n y h w f) = one_broken n y h w f

  zones_from : (k z : ℕ) → z + k ≡ (geometry_of m).zones → RuledBelow m z → ZonesSay z (zones_read (geometry_of m) z (rest z))
  zones_from zero z e b =
      subst⁻¹ (λ (l : List (List ℕ)). ZonesSay z (zones_read g z l)) (rest_none m g.zones g.sector z (omega arith))
      (all_ruled [] (λ i h. b i (omega arith)) (omega arith) (λ i h. absurd (omega arith)))
  zones_from (suc k) z e b =
      subst⁻¹ (λ (l : List (List ℕ)). ZonesSay z (zones_read g z l)) (rest_cons m g.zones g.sector z (omega arith))
      (go (zone_read g z (zone_block g m z)) (zone_says g ok z (zone_block g m z)) (λ w. zones_from k (z + 1) (omega arith) (more_below Ruled z b w)))
    where
      add_one : suc z ≡ z + 1
      add_one = omega arith

      go : (r : Answer (List Entry)) → ZoneSays g z (zone_block g m z) r → (Ruled z → ZonesSay (z + 1) (zones_read g (z + 1) (rest (z + 1)))) → ZonesSay z (join_zone r (zones_read g (suc z) (rest (z + 1))))
      go r (zones.kept es w) ih = join_read z es w (zones_read g (suc z) (rest (z + 1))) (subst⁻¹ (λ (i : ℕ). ZonesSay (z + 1) (zones_read g i (rest (z + 1)))) add_one (ih w.rules))
      go r (zones.broken n f) ih = one_broken n z (omega arith) b f

  pub zones_say : ZonesSay 0 (zones_read (geometry_of m) 0 (blocks_of (geometry_of m) m))
  zones_say =
      subst (λ (l : List (List ℕ)). ZonesSay 0 (zones_read g 0 l)) (rest_all m g.zones g.sector)
      (zones_from g.zones 0 (omega arith) (λ i h. absurd (omega arith)))

  -- by number from zone 0
  abbrev pub AllRead : List (List Entry) → Type 0
  AllRead ess = (z : ℕ) → z < (geometry_of m).zones → ReadAs (geometry_of m) z (zone_block (geometry_of m) m z) (get_or ess z [])

  pub from_0 : (ess : List (List Entry)) → ((i : ℕ) → 0 + i < g.zones → ReadAs g (0 + i) (zone_block g m (0 + i)) (get_or ess i [])) → AllRead ess
  from_0 ess rs z h = let e : 0 + z ≡ z = omega arith in subst (λ (x : ℕ). ReadAs g x (zone_block g m x) (get_or ess z [])) e (rs z (omega arith))

  fault_not_ruled : (z n : ℕ) → ZoneFault (geometry_of m) z (zone_block (geometry_of m) m z) n → Ruled z → ⊥
  fault_not_ruled z n f w = no_fault g ok z (zone_block g m z) n w f

  pub zones_first : (z n : ℕ) → z < (geometry_of m).zones → RuledBelow m z → ZoneFault (geometry_of m) z (zone_block (geometry_of m) m z) n
      → zones_read (geometry_of m) 0 (blocks_of (geometry_of m) m) ≡ refused n z
  zones_first z n h b f = go (zones_read g 0 (blocks_of g m)) zones_say
    where
      go : (r : Answer (List (List Entry))) → ZonesSay 0 r → r ≡ refused n z
      go r (all_ruled ess w l rs) = absurd (fault_not_ruled z n f (w z h))
      go r (one_broken k y i w o) =
          let e : y ≡ z = lowest_same Ruled y z w (fault_not_ruled y k o) b (fault_not_ruled z n f) in
          let o2 = subst (λ (x : ℕ). ZoneFault (geometry_of m) x (zone_block (geometry_of m) m x) k) e o in
          ap₂ refused (one_fault g ok z (zone_block g m z) k n o2 f) e

  pub zones_all : RuledBelow m (geometry_of m).zones
      → (ess : List (List Entry)) × (zones_read (geometry_of m) 0 (blocks_of (geometry_of m) m) ≡ answered ess) × (length ess ≡ (geometry_of m).zones) × AllRead ess
  zones_all b = go (zones_read g 0 (blocks_of g m)) zones_say
    where
      go : (r : Answer (List (List Entry))) → ZonesSay 0 r → (ess : List (List Entry)) × (r ≡ answered ess) × (length ess ≡ g.zones) × AllRead ess
      go r (all_ruled ess w l rs) = (ess, refl, omega arith, from_0 ess rs)
      go r (one_broken k y i w o) = absurd (fault_not_ruled y k o (b y i))

  pub zones_read_law : RuledBelow m (geometry_of m).zones → (ess : List (List Entry)) → length ess ≡ (geometry_of m).zones → AllRead ess
      → zones_read (geometry_of m) 0 (blocks_of (geometry_of m) m) ≡ answered ess
  zones_read_law b ess l rs =
      let a = zones_all b in
      a.1 ∙ ap answered (ext_get_or [] a.0 ess (a.2 ∙ sym l) (λ z h. let k : z < g.zones = omega (arith, a.2) in
      read_same g ok z (zone_block g m z) (get_or a.0 z []) (get_or ess z []) (a.3 z k) (rs z k)))

  -- the answer, once the record and the length are right
  from_zones : CheckedBelow m (geometry_of m).zones → CrossRule (blocks_of (geometry_of m) m) → (r : Answer (List (List Entry))) → ZonesSay 0 r → Judged m r
  from_zones c x r (all_ruled ess w l rs) =
      kept (record { long = ms.long; record_rules = ms.record_rules; whole = ms.whole; checks = c; cross = x; zones = w }) ess (omega arith) (from_0 ess rs)
  from_zones c x r (one_broken n z h w f) = zone_fault ms c x z n h w f

  from_cross : CheckedBelow m (geometry_of m).zones → (t : Bool) → eqb (cross_sum (blocks_of (geometry_of m) m)) 255 ≡ t
      → Judged m (cond t (zones_read (geometry_of m) 0 (blocks_of (geometry_of m) m)) (refused 4 0))
  from_cross c true t = from_zones c (eqb-true (cross_sum (blocks_of g m)) 255 t) (zones_read g 0 (blocks_of g m)) zones_say
  from_cross c false t = cross_differs ms c (eqb-false (cross_sum (blocks_of g m)) 255 t)

  from_checks : (r : Option ℕ) → ChecksSay r
      → Judged m (after_checks r (cond (eqb (cross_sum (blocks_of (geometry_of m) m)) 255) (zones_read (geometry_of m) 0 (blocks_of (geometry_of m) m)) (refused 4 0)))
  from_checks r (all_right c) = from_cross c (eqb (cross_sum (blocks_of g m)) 255) refl
  from_checks r (one_wrong z h b n) = check_differs ms z h b n

  pub measured_judged : Judged m (blocks_read (geometry_of m) (blocks_of (geometry_of m) m))
  measured_judged = from_checks (differing 0 (blocks_of g m)) checks_say

  -- and back
  pub at_check : (z : ℕ) → z < (geometry_of m).zones → CheckedBelow m z → (Right z → ⊥) → blocks_read (geometry_of m) (blocks_of (geometry_of m) m) ≡ refused 3 z
  at_check z h b n = rw (checks_first z h b n)

  pub at_cross : CheckedBelow m (geometry_of m).zones → (CrossRule (blocks_of (geometry_of m) m) → ⊥) → blocks_read (geometry_of m) (blocks_of (geometry_of m) m) ≡ refused 4 0
  at_cross c n = rw (checks_none c, ne_eqb (cross_sum (blocks_of g m)) 255 n)

  pub at_zones : CheckedBelow m (geometry_of m).zones → CrossRule (blocks_of (geometry_of m) m) → blocks_read (geometry_of m) (blocks_of (geometry_of m) m) ≡ zones_read (geometry_of m) 0 (blocks_of (geometry_of m) m)
  at_zones c x = rw (checks_none c, eq-eqb (cross_sum (blocks_of g m)) 255 x)
