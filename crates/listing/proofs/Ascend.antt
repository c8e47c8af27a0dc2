-- The pairs of a holder ascend, lie apart and lie on the map: the entries of a zone fill it, so those that are kept lie apart in
-- it, and the zones follow each other. They are few.
use mathlib.Core.Path.{◌≡◌, refl, sym, ap, subst}
use mathlib.Core.List.{List, [], ◌∷◌, ◌++◌, map}
use Prim.Native.Nat.{ℕ, zero, suc, ◌+◌, ◌*◌, ◌<◌, ◌≤◌}
use native.Mathlib.Nat.{add-zero}
use native.Mathlib.Omega.{arith}
use lib.Dec.{eqb}
use lib.ListN.{length, length-append}
use Rattle.bits.proofs.Tests.{by_test}
use Rattle.geometry.specs.declared.Geometry.{Geometry}
use Rattle.geometry.specs.Places.{zone_from, disc_bits}
use Rattle.model.specs.Chain.{Pair, Entry}
use Rattle.model.specs.Rules.{zone_block}
use Rattle.model.specs.Pieces.{to_disc}
use Rattle.zone.specs.Lines.{entries_in, holder_number}
use Rattle.map.specs.Accepted.{AcceptedMap}
use Rattle.walk.specs.HeldBy.{held_by, in_disc_bits, held_in, held_from}
use Rattle.listing.specs.Laws.{At, first, later}
use Rattle.walk.proofs.HeldLines.{length_held}
use Rattle.walk.proofs.ZonesRead.{few_entries, zone_reads}
use Rattle.listing.proofs.Filled.{Fills, entry_to_disc, disc_entries_fill}

-- ascending and apart from bit `at` on, up to `end`, each with some bits
abbrev pub Apart : ℕ → ℕ → List Pair → Type 0
Apart at end [] = at ≤ end
Apart at end (q ∷ qs) = (at ≤ q.start) × (0 < q.len) × Apart (q.start + q.len) end qs

pub apart_from : (a at end : ℕ) (qs : List Pair) → a ≤ at → Apart at end qs → Apart a end qs
apart_from a at end [] h k = omega arith
apart_from a at end (q ∷ qs) h k = (omega (arith, k.0), k.1, k.2)

pub apart_le : (at end : ℕ) (qs : List Pair) → Apart at end qs → at ≤ end
apart_le at end [] k = k
apart_le at end (q ∷ qs) k = omega (arith, k.0, apart_le (q.start + q.len) end qs k.2)

pub apart_append : (at mid end : ℕ) (ps qs : List Pair) → Apart at mid ps → Apart mid end qs → Apart at end (ps ++ qs)
apart_append at mid end [] qs j k = apart_from at mid end qs j k
apart_append at mid end (p ∷ ps) qs j k = (j.0, j.1, apart_append (p.start + p.len) mid end ps qs j.2 k)

pub apart_rest : (at end : ℕ) (ps qs : List Pair) → Apart at end (ps ++ qs) → Apart at end qs
apart_rest at end [] qs k = k
apart_rest at end (p ∷ ps) qs k = apart_from at (p.start + p.len) end qs (omega (arith, k.0)) (apart_rest (p.start + p.len) end ps qs k.2)

-- each pair of the list lies within the stretch
pub apart_at : {q : Pair} {i : ℕ} {qs : List Pair} (at end : ℕ) → At q i qs → Apart at end qs → (at ≤ q.start) × (0 < q.len) × (q.start + q.len ≤ end)
apart_at {q} {i} at end (first {qs = qs}) k = (k.0, k.1, apart_le (q.start + q.len) end qs k.2)
apart_at at end (later {p = p} v) k = let r = apart_at (p.start + p.len) end v k.2 in (omega (arith, k.0, r.0), r.1, r.2)

-- and the earlier of two ends before the later starts
pub apart_in_turn : {p q : Pair} {i j : ℕ} {qs : List Pair} (at end : ℕ) → i < j → At p i qs → At q j qs → Apart at end qs → p.start + p.len ≤ q.start
apart_in_turn at end h first first k = absurd (omega arith)
apart_in_turn {p} at end h first (later w) k = (apart_at (p.start + p.len) end w k.2).0
apart_in_turn at end h (later v) first k = absurd (omega arith)
apart_in_turn at end h (later {p = r} v) (later w) k = apart_in_turn (r.start + r.len) end (omega arith) v w k.2

-- what a holder has of entries that fill a stretch
fills_apart : (h at end : ℕ) (es : List Entry) → Fills at end es → Apart at end (held_by h es)
fills_apart h at end [] f = omega arith
fills_apart h at end (e ∷ es) f =
    let k = fills_apart h (at + e.at.len) end es f.2 in
    by_test (eqb (holder_number e.holder) h)
    (λ t. rw t (omega (arith, f.0), f.1, apart_from (e.at.start + e.at.len) (at + e.at.len) end (held_by h es) (omega (arith, f.0)) k))
    (λ t. rw t (apart_from at (at + e.at.len) end (held_by h es) (omega arith) k))

held_in_disc : (g : Geometry) (z h : ℕ) (es : List Entry) → held_by h (map (entry_to_disc g z) es) ≡ in_disc_bits g z (held_by h es)
held_in_disc g z h [] = refl
held_in_disc g z h (e ∷ es) =
    by_test (eqb (holder_number e.holder) h)
    (λ t. rw t (ap (λ (r : List Pair). to_disc g z e.at ∷ r) (held_in_disc g z h es)))
    (λ t. rw t (held_in_disc g z h es))

held_at_most : (h : ℕ) (es : List Entry) → length (held_by h es) ≤ length es
held_at_most h [] = omega arith
held_at_most h (e ∷ es) =
    by_test (eqb (holder_number e.holder) h)
    (λ t. rw t (omega (arith, held_at_most h es)))
    (λ t. rw t (omega (arith, held_at_most h es)))

module _ {m : List ℕ} {g : Geometry} (a : AcceptedMap m g) (h : ℕ) where
  zone_apart : (z : ℕ) → z < g.zones → Apart (zone_from g z) (zone_from g (suc z)) (held_in g h m z)
  zone_apart z k =
      let es : List Entry = entries_in g z (zone_block g m z) in
      subst (λ (x : List Pair). Apart (zone_from g z) (zone_from g (suc z)) x) (held_in_disc g z h es)
      (fills_apart h (zone_from g z) (zone_from g (suc z)) (map (entry_to_disc g z) es) (disc_entries_fill a z es k (zone_reads a z k).kept))

  pub held_apart : (z n : ℕ) → z + n ≤ g.zones → Apart (zone_from g z) (zone_from g (z + n)) (held_from g h m z n)
  held_apart z zero k = let e : zone_from g z ≡ zone_from g (z + 0) = ap (zone_from g) (sym (add-zero z)) in omega arith
  held_apart z (suc n) k =
      let e : suc z + n ≡ z + suc n = omega arith in
      apart_append (zone_from g z) (zone_from g (suc z)) (zone_from g (z + suc n)) (held_in g h m z) (held_from g h m (suc z) n)
      (zone_apart z (omega arith))
      (subst (λ (x : ℕ). Apart (zone_from g (suc z)) (zone_from g x) (held_from g h m (suc z) n)) e (held_apart (suc z) n (omega arith)))

  -- of the whole map
  pub map_apart : Apart 0 (disc_bits g) (held_from g h m 0 g.zones)
  map_apart =
      let e : zone_from g (0 + g.zones) ≡ disc_bits g = (let z : 0 + g.zones ≡ g.zones = omega arith in ap (zone_from g) z) in
      let f : zone_from g 0 ≡ 0 = omega arith in
      subst (λ (x : Type 0). x) (λ i. Apart (f i) (e i) (held_from g h m 0 g.zones)) (held_apart 0 g.zones (omega arith))

  pub held_few : (z n : ℕ) → z + n ≤ g.zones → length (held_from g h m z n) ≤ 682 * n
  held_few z zero k = omega arith
  held_few z (suc n) k =
      let es : List Entry = entries_in g z (zone_block g m z) in
      omega (
        arith,
        length-append (held_in g h m z) (held_from g h m (suc z) n),
        length_held g z (held_by h es),
        held_at_most h es,
        few_entries (zone_reads a z (omega arith)),
        held_few (suc z) n (omega arith),
      )
