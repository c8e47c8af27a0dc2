-- An accepted map, and one that the mender mends: its record, its length and its zones hold (`MapTests`), and each zone in turn is read, with
-- the entries that were read of the whole map.
use mathlib.Core.Path.{◌≡◌, refl, sym, ap, ◌∙◌, subst, subst⁻¹}
use mathlib.Core.List.{List, [], ◌∷◌, cons≢nil}
use Prim.Native.Nat.{ℕ, zero, suc, ◌+◌, ◌<◌, ◌≤◌}
use native.Mathlib.Omega.{arith}
use lib.Dec.{ltb}
use lib.ListN.{get_or}
use borrow.Author.Tests.{ltb-true, ltb-false}
use Rattle.bits.proofs.Tests.{by_test}
use Rattle.geometry.specs.declared.Geometry.{Geometry}
use Rattle.geometry.specs.Record.{disc_record, geometry_of}
use Rattle.geometry.proofs.Numbers.{test_gives_accepted}
use Rattle.model.specs.Chain.{Entry}
use Rattle.model.specs.Blocks.{block_at}
use Rattle.model.specs.Rules.{zone_block}
use Rattle.model.specs.Answer.{Answer, refused, answered}
use Rattle.model.specs.Check.{zone_read, zones_read, blocks_of, map_read, mend_read}
use Rattle.map.specs.Checked.{check_answer, checked, mend_checked}
use Rattle.map.specs.Accepted.{ReadableFrom, AcceptedMap, MendableMap}
use Rattle.std.specs.Prelude.{Ok}
use Rattle.model.proofs.MapTests.{zone_and_rest, read_tests, accepted_tests}
use Rattle.model.proofs.ByPlace.{rest_from, rest_cons, rest_none, rest_all}
use Rattle.zone.specs.Lines.{entries_in, IsRead}
use Rattle.zone.proofs.EntriesRead.{is_read}

answer_parts : (g k : Geometry) (r : Answer (List (List Entry))) → check_answer g r ≡ Ok k → (ess : List (List Entry)) × (r ≡ answered ess) × (g ≡ k)
answer_parts g k (refused n i) e = let x : ◌≡◌ {A = ℕ} 0 1 = cc in absurd (omega arith)
answer_parts g k (answered ess) e = (ess, refl, cc)

-- the zones walked: each is read, and what is left of the map's entries are those of the zones to come
module _ (m : List ℕ) (g : Geometry) where
  abbrev ReadFrom : ℕ → List (List Entry) → Type 0
  ReadFrom z ess = zones_read g z (rest_from m g.zones g.sector z) ≡ answered ess

  from_start : (ess : List (List Entry)) → zones_read g 0 (blocks_of g m) ≡ answered ess → ReadFrom 0 ess
  from_start ess e = ap (zones_read g 0) (rest_all m g.zones g.sector) ∙ e

  from_turn : (z : ℕ) → z < g.zones → (ess : List (List Entry)) → ReadFrom z ess
      → (es : List Entry) × (fss : List (List Entry)) × (ess ≡ es ∷ fss) × (zone_read g z (block_at g.sector z m) ≡ answered es) × ReadFrom (z + 1) fss
  from_turn z h ess f =
      let s : suc z ≡ z + 1 = omega arith in
      let t = zone_and_rest g z (block_at g.sector z m) (rest_from m g.zones g.sector (z + 1)) ess (sym (ap (zones_read g z) (rest_cons m g.zones g.sector z h)) ∙ f) in
      (t.0, t.1, sym t.4, t.2, subst (λ (i : ℕ). zones_read g i (rest_from m g.zones g.sector (z + 1)) ≡ answered t.1) s t.3)

  from_end : (z : ℕ) → g.zones ≤ z → (ess : List (List Entry)) → ReadFrom z ess → ess ≡ []
  from_end z h ess f =
      let k : answered [] ≡ answered ess = sym (ap (zones_read g z) (rest_none m g.zones g.sector z h)) ∙ f in
      cc

-- the entries of the zones from z on, one zone after another
abbrev pub ReadInTurn : List ℕ → Geometry → ℕ → List (List Entry) → Type 0
ReadInTurn m g z [] = z ≡ g.zones
ReadInTurn m g z (es ∷ ess) = (z < g.zones) × (zone_read g z (zone_block g m z) ≡ answered es) × ReadInTurn m g (suc z) ess

-- the zones from z on, one after another
module _ (m : List ℕ) (g : Geometry) where
  in_turn_law : (z : ℕ) (ess : List (List Entry)) → z ≤ g.zones → ReadFrom m g z ess → ReadInTurn m g z ess
  in_turn_law z [] h r =
      by_test (ltb z g.zones)
      (λ t. absurd (cons≢nil (sym (from_turn m g z (ltb-true z g.zones t) [] r).2)))
      (λ t. omega (arith, ltb-false))
  in_turn_law z (es ∷ ess) h r =
      by_test (ltb z g.zones)
      (λ t. let l = ltb-true z g.zones t in
      let p = from_turn m g z l (es ∷ ess) r in
      let e1 : p.0 ≡ es = cc p.2 in
      let e2 : p.1 ≡ ess = cc p.2 in
      let f : z + 1 ≡ suc z = omega arith in
      (l, p.3 ∙ ap answered e1, in_turn_law (suc z) ess l (subst (λ (i : ℕ). ReadFrom m g i ess) f (subst (λ (r : List (List Entry)). ReadFrom m g (z + 1) r) e2 p.4))))
      (λ t. absurd (cons≢nil (from_end m g z (ltb-false z g.zones t) (es ∷ ess) r)))

  read_at : (z : ℕ) (ess : List (List Entry)) → ReadInTurn m g z ess → (i : ℕ) → z ≤ i → i < g.zones → IsRead g i (zone_block g m i)
  read_at z [] r i l h = absurd (omega arith)
  read_at z (es ∷ ess) r i l h =
      by_test (ltb z i)
      (λ t. read_at (suc z) ess r.2 i (ltb-true z i t) h)
      (λ t. let e : z ≡ i = omega (arith, ltb-false) in subst (λ (x : ℕ). IsRead g x (zone_block g m x)) e (is_read g z (zone_block g m z) es r.1).1)

readable : (m : List ℕ) (ess : List (List Entry)) → mend_read m ≡ answered ess → ReadableFrom m (geometry_of m) 0
readable m ess e =
    let k = read_tests m ess e in
    let turn = in_turn_law m (geometry_of m) 0 ess (omega arith) (from_start m (geometry_of m) ess k.zones) in
    record {
      numbers = test_gives_accepted (disc_record m) k.record_fits_law;
      sized = k.whole;
      reads = λ z l h. read_at m (geometry_of m) 0 ess turn z l h;
    }

pub accepts : (m : List ℕ) (g : Geometry) → checked m ≡ Ok g → AcceptedMap m g
accepts m g e =
    let t = answer_parts (geometry_of m) g (map_read m) e in
    subst (AcceptedMap m) t.2 (record { geometry = refl; readable = readable m t.0 (accepted_tests m t.0 t.1).read; zones = t.0; read = t.1 })

pub mendable : (m : List ℕ) (g : Geometry) → mend_checked m ≡ Ok g → MendableMap m g
mendable m g e =
    let t = answer_parts (geometry_of m) g (mend_read m) e in
    subst (MendableMap m) t.2 (record { geometry = refl; readable = readable m t.0 t.1; zones = t.0; read = t.1 })

-- an accepted map is one that the mender mends
abbrev pub accepted_mends : {m : List ℕ} {g : Geometry} → AcceptedMap m g → MendableMap m g
accepted_mends {m} a = record { geometry = a.geometry; readable = a.readable; zones = a.zones; read = (accepted_tests m a.zones a.read).read }

module _ {m : List ℕ} {g : Geometry} (a : MendableMap m g) where
  mendable_in_turn : ReadInTurn m g 0 a.zones
  mendable_in_turn =
      let k : zones_read g 0 (blocks_of g m) ≡ answered a.zones = subst⁻¹ (λ (x : Geometry). zones_read x 0 (blocks_of x m) ≡ answered a.zones) a.geometry (read_tests m a.zones a.read).zones in
      in_turn_law m g 0 a.zones (omega arith) (from_start m g a.zones k)

  entries_from : (z : ℕ) (ess : List (List Entry)) → ReadInTurn m g z ess → (i : ℕ) → z + i < g.zones → entries_in g (z + i) (zone_block g m (z + i)) ≡ get_or ess i []
  entries_from z [] r i h = absurd (omega arith)
  entries_from z (es ∷ ess) r zero h =
      let e : z + 0 ≡ z = omega arith in
      ap (λ (x : ℕ). entries_in g x (zone_block g m x)) e ∙ (is_read g z (zone_block g m z) es r.1).0
  entries_from z (es ∷ ess) r (suc i) h =
      let e : z + suc i ≡ suc z + i = omega arith in
      ap (λ (x : ℕ). entries_in g x (zone_block g m x)) e ∙ entries_from (suc z) ess r.2 i (omega arith)

  pub mendable_entries : (z : ℕ) → z < g.zones → entries_in g z (zone_block g m z) ≡ get_or a.zones z []
  mendable_entries z h =
      let e : z ≡ 0 + z = omega arith in
      ap (λ (x : ℕ). entries_in g x (zone_block g m x)) e ∙ entries_from 0 a.zones mendable_in_turn z (omega arith)

module _ {m : List ℕ} {g : Geometry} (a : AcceptedMap m g) where
  pub zones_in_turn : ReadInTurn m g 0 a.zones
  zones_in_turn = mendable_in_turn (accepted_mends a)

  pub zone_entries : (z : ℕ) → z < g.zones → entries_in g z (zone_block g m z) ≡ get_or a.zones z []
  zone_entries = mendable_entries (accepted_mends a)
