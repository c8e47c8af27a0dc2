-- The entries of a zone that keeps the rules fill its allocation bits: they lie one after another from the zone's first bit to
-- its end, each with some bits. In disc bits the entries of all zones so fill the disc bits that the map controls.
use mathlib.Core.Path.{◌≡◌, refl, ap, ◌∙◌, subst, subst⁻¹}
use mathlib.Core.List.{List, [], ◌∷◌, ◌++◌, map}
use mathlib.Core.Option.{some}
use Prim.Native.Nat.{ℕ, zero, suc, ◌+◌, ◌-◌, ◌*◌, ◌<◌, ◌≤◌}
use native.Mathlib.Nat.{suc-mul}
use native.Mathlib.Omega.{arith}
use lib.ListN.{length}
use Rattle.geometry.specs.declared.Geometry.{Geometry}
use Rattle.geometry.specs.Places.{first_bit, end_bit, disc_bit, zone_from, disc_bits}
use Rattle.geometry.proofs.DiscBits.{first_of_zero, first_of_other, first_low, from_zero_on}
use Rattle.model.specs.Fragments.{Fragment}
use Rattle.model.specs.Chain.{Entry, onward, follow}
use Rattle.model.specs.Blocks.{link_in, alloc_bits}
use Rattle.model.specs.Rules.{zone_block}
use Rattle.model.specs.Answer.{answered}
use Rattle.model.specs.Check.{zone_read}
use Rattle.model.specs.Pieces.{to_disc}
use Rattle.model.proofs.FragmentsRead.{written_cut}
use Rattle.model.proofs.Followed.{Long, total, Followed, was_free, was_owned, followed, none_left}
use Rattle.model.proofs.ZoneDrawn.{length_frags, long_fit}
use Rattle.model.proofs.ZoneTests.{zone_tests}
use Rattle.zone.specs.Lines.{entries_in}
use Rattle.zone.proofs.AllocBits.{first_high, ZoneBlock, bits_left, alloc_all}
use Rattle.zone.proofs.EntriesRead.{is_read}
use Rattle.map.specs.Accepted.{AcceptedMap}
use Rattle.walk.specs.SoundZone.{SoundZone}
use Rattle.walk.proofs.ZonesRead.{zone_reads}
use Rattle.map.proofs.Accepts.{ReadInTurn, zones_in_turn}

abbrev pub Fills : ℕ → ℕ → List Entry → Type 0
Fills at end [] = at ≡ end
Fills at end (e ∷ es) = (e.at.start ≡ at) × (0 < e.at.len) × Fills (at + e.at.len) end es

pub fills_le : (at end : ℕ) (es : List Entry) → Fills at end es → at ≤ end
fills_le at end [] f = omega arith
fills_le at end (e ∷ es) f = omega (arith, fills_le (at + e.at.len) end es f.2)

pub fills_append : (at mid end : ℕ) (ds es : List Entry) → Fills at mid ds → Fills mid end es → Fills at end (ds ++ es)
fills_append at mid end [] es f k = subst⁻¹ (λ (x : ℕ). Fills x end es) f k
fills_append at mid end (d ∷ ds) es f k = (f.0, f.1, fills_append (at + d.at.len) mid end ds es f.2 k)

-- the chain followed
follow_fills : (at next end : ℕ) (fs : List Fragment) (es : List Entry) → Long fs → at + total fs ≡ end → follow at next fs ≡ some es → Fills at end es
follow_fills at next end [] es l t e = subst⁻¹ (λ (r : List Entry). Fills at end r) (none_left at next es e).1 (omega arith)
follow_fills at next end (f ∷ fs) es l t e = go es (followed at next f fs es e) (λ n gs k. follow_fills (at + f.len) n end fs gs l.1 (omega arith) k)
  where
    go : (es : List Entry) → Followed at next f fs es → ((n : ℕ) (gs : List Entry) → follow (at + f.len) n fs ≡ some gs → Fills (at + f.len) end gs) → Fills at end es
    go es (was_free gs h k) ih = (refl, l.0, ih (onward at f.id) gs k)
    go es (was_owned gs h k) ih = (refl, l.0, ih next gs k)

pub zone_fills : {g : Geometry} {z : ℕ} {b : List ℕ} → SoundZone g z b → Fills (first_bit z) (end_bit g) (entries_in g z b)
zone_fills {g} {z} {b} r =
    let p = zone_tests g z b (entries_in g z b) r.kept in
    let k : ZoneBlock g b (end_bit g) = record { numbers = r.numbers; sized = r.sized; ends = refl } in
    let w = written_cut (g.idlen - 1) (alloc_bits (first_bit z) (end_bit g) b) p.fragments p.cut in
    let t : length (alloc_bits (first_bit z) (end_bit g) b) ≡ total p.fragments = ap length w.0 ∙ length_frags (suc (g.idlen - 1)) p.fragments w.1 in
    let a : length (alloc_bits (first_bit z) (end_bit g) b) ≡ end_bit g - first_bit z = ap length (alloc_all k z (first_bit z) refl (first_low z) (first_high z)) ∙ bits_left k (first_bit z) in
    follow_fills (first_bit z) (onward 8 (link_in b)) (end_bit g) p.fragments (entries_in g z b) (long_fit (suc (g.idlen - 1)) p.fragments w.1)
    (omega (arith, first_high z, r.numbers.bits_low)) p.chain

-- in disc bits
abbrev pub entry_to_disc : Geometry → ℕ → Entry → Entry
entry_to_disc g z e = record { at = to_disc g z e.at; holder = e.holder }

abbrev pub disc_entries : Geometry → ℕ → List (List Entry) → List Entry
disc_entries g z [] = []
disc_entries g z (es ∷ ess) = map (entry_to_disc g z) es ++ disc_entries g (suc z) ess

pub disc_fills : (g : Geometry) (z at end : ℕ) (es : List Entry) → 512 ≤ z * g.bits + at → Fills at end es → Fills (disc_bit g z at) (disc_bit g z end) (map (entry_to_disc g z) es)
disc_fills g z at end [] h f = ap (disc_bit g z) f
disc_fills g z at end (e ∷ es) h f =
    let s : disc_bit g z (at + e.at.len) ≡ disc_bit g z at + e.at.len = omega arith in
    (ap (disc_bit g z) f.0, f.1, subst (λ (x : ℕ). Fills x (disc_bit g z end) (map (entry_to_disc g z) es)) s (disc_fills g z (at + e.at.len) end es (omega arith) f.2))

zone_from_law : (g : Geometry) (z : ℕ) → disc_bit g z (first_bit z) ≡ zone_from g z
zone_from_law g zero = rw (first_of_zero 0 refl) (omega arith)
zone_from_law g (suc z) = rw (first_of_other (suc z) (λ e. omega arith)) (omega arith)

zone_to : (g : Geometry) (z : ℕ) → disc_bit g z (end_bit g) ≡ zone_from g (suc z)
zone_to g z = omega (arith, suc-mul z g.bits)

module _ {m : List ℕ} {g : Geometry} (a : AcceptedMap m g) where
  pub entries_fill : (z : ℕ) (es : List Entry) → z < g.zones → zone_read g z (zone_block g m z) ≡ answered es → Fills (first_bit z) (end_bit g) es
  entries_fill z es h e =
      subst (λ (x : List Entry). Fills (first_bit z) (end_bit g) x) (is_read g z (zone_block g m z) es e).0 (zone_fills (zone_reads a z h))

  pub disc_entries_fill : (z : ℕ) (es : List Entry) → z < g.zones → zone_read g z (zone_block g m z) ≡ answered es
      → Fills (zone_from g z) (zone_from g (suc z)) (map (entry_to_disc g z) es)
  disc_entries_fill z es h e =
      let f = disc_fills g z (first_bit z) (end_bit g) es (from_zero_on g a.readable.numbers z (first_bit z) (omega arith)) (entries_fill z es h e) in
      subst (λ (x : Type 0). x) (λ i. Fills (zone_from_law g z i) (zone_to g z i) (map (entry_to_disc g z) es)) f

  zones_fill : (z : ℕ) (ess : List (List Entry)) → ReadInTurn m g z ess → Fills (zone_from g z) (disc_bits g) (disc_entries g z ess)
  zones_fill z [] r = ap (zone_from g) r
  zones_fill z (es ∷ ess) r =
      fills_append (zone_from g z) (zone_from g (suc z)) (disc_bits g) (map (entry_to_disc g z) es) (disc_entries g (suc z) ess)
      (disc_entries_fill z es r.0 r.1) (zones_fill (suc z) ess r.2)

  pub map_fills : Fills 0 (disc_bits g) (disc_entries g 0 a.zones)
  map_fills = let e : zone_from g 0 ≡ 0 = omega arith in subst (λ (x : ℕ). Fills x (disc_bits g) (disc_entries g 0 a.zones)) e (zones_fill 0 a.zones (zones_in_turn a))
