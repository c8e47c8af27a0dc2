-- The free spans ahead of a walk along the chains: all those from a zone on where its chain starts, and one fewer after each step.
use mathlib.Core.Path.{◌≡◌, refl, sym, ap, ◌∙◌}
use mathlib.Core.Bool.{Bool}
use mathlib.Core.List.{List, [], ◌∷◌, ◌++◌, append_assoc}
use Prim.Native.Nat.{ℕ, ◌+◌, ◌<◌, ◌≤◌}
use native.Mathlib.Omega.{arith}
use lib.ListN.{length}
use Rattle.std.specs.Prelude.{Option, Some, None}
use Rattle.bits.specs.Bits.{byte_bits}
use Rattle.bits.proofs.Bytes.{length_byte_bits}
use Rattle.geometry.specs.declared.Geometry.{Geometry}
use Rattle.geometry.specs.Places.{first_bit, end_bit, disc_bit}
use Rattle.geometry.proofs.DiscBits.{first_low, from_zero_on}
use Rattle.model.specs.Chain.{Pair, pair, onward}
use Rattle.model.specs.Blocks.{link_in}
use Rattle.model.specs.Rules.{zone_block}
use Rattle.fragment.specs.Reading.{id_at, length_at, entries_some}
use Rattle.fragment.proofs.Opened.{closes}
use Rattle.zone.specs.Lines.{entries_in}
use Rattle.zone.proofs.AllocBits.{first_high}
use Rattle.map.specs.Accepted.{ReadableFrom}
use Rattle.walk.specs.HeldBy.{held_by, in_disc_bits, held_between}
use Rattle.walk.proofs.ZonesRead.{zone_sound}
use Rattle.walk.proofs.HeldZones.{held_turn, held_end}
use Rattle.walk.proofs.Remains.{zone_read}
use Rattle.walk.proofs.OwnersSome.{ids_fit}
use Rattle.chain.specs.declared.FreeWalk.{FreeWalk}
use Rattle.chain.specs.declared.iter.Span.{Span}
use Rattle.chain.specs.FreeAhead.{entries_at, ReadsAt, spans_here, free_ahead, StandsFree, FreeStarts, FreeAdvances, EndBy, PassesTo}
use Rattle.chain.proofs.Links.{Leads, leads, over_free}

abbrev pub free_walk : ℕ → ℕ → FreeWalk
free_walk z at = record { zone = z; at = record { 0 = at } }

-- what lies ahead: nothing past the last zone, else the zone's and then the next zones'
module _ (m : List ℕ) (g : Geometry) where
  none_ahead : free_ahead m g None ≡ []
  unfolding free_ahead
  none_ahead = refl

  here_ahead : (w : FreeWalk) → free_ahead m g (Some w) ≡ in_disc_bits g w.zone (spans_here g m w) ++ held_between g 0 m (w.zone + 1) g.zones
  unfolding free_ahead
  here_ahead w = refl

module _ {m : List ℕ} {g : Geometry} {z : ℕ} (a : ReadableFrom m g z) (h : z < g.zones) where
  abbrev bits : List Bool
  bits = byte_bits (zone_block g m z)

  pub in_bits : end_bit g ≤ length bits
  in_bits = omega (arith, length_byte_bits (zone_block g m z), (zone_sound a z (omega arith) h).sized, a.numbers.bits_in_block)

  some_id : 0 < g.idlen
  some_id = omega (arith, a.numbers.idlen_low)

  -- where a zone's chain starts
  abbrev first : ℕ
  first = onward 8 (link_in (zone_block g m z))

  zone_entries : entries_at g bits (first_bit z) first ≡ entries_in g z (zone_block g m z)
  zone_entries = ap entries_some (zone_read (zone_sound a z (omega arith) h))

  zone_reads_at : ReadsAt g bits (first_bit z) first
  zone_reads_at = record {
    readable = rw (zone_read (zone_sound a z (omega arith) h)) tt;
    owners = rw zone_entries (ids_fit g z (zone_block g m z) (entries_in g z (zone_block g m z)) (a.reads z (omega arith) h));
  }

  zone_leads : Leads g bits (first_bit z) first
  zone_leads =
      leads some_id in_bits (end_bit g) (first_bit z) first (omega arith) (omega (arith, first_low z))
      (omega (arith, first_high z, a.numbers.bits_low, a.numbers.shortest_low)) zone_reads_at

  -- nothing of the zone is free
  pub zone_full : {at : ℕ} → at ≡ first → at ≡ 0 → held_between g 0 m z g.zones ≡ held_between g 0 m (z + 1) g.zones
  zone_full {at} e k = rw (held_turn g 0 m z g.zones h, ← zone_entries, zone_leads.nowhere (sym e ∙ k))

  -- a walk stands at the zone's first free fragment
  pub starts_here : {at : ℕ} → at ≡ first → (at ≡ 0 → ⊥) → FreeStarts m g z (Some (free_walk z at))
  starts_here {at} e k =
      let n : first ≡ 0 → ⊥ = λ q. k (e ∙ q) in
      let l = zone_leads in
      record {
        stands = rw e (record { ahead = a; zone = h; low = l.low n; inside = l.inside n; reads = l.reads n });
        all = rw (here_ahead m g (free_walk z at), e, ← l.same n, zone_entries) (sym (held_turn g 0 m z g.zones h));
      }

-- past the last zone
pub starts_past : {m : List ℕ} {g : Geometry} {z : ℕ} → g.zones ≤ z → FreeStarts m g z None
starts_past {m} {g} {z} h = record { stands = tt; all = none_ahead m g ∙ sym (held_end g 0 m z g.zones h) }

-- full zones before the first free fragment
pub starts_before : {m : List ℕ} {g : Geometry} {z y : ℕ} {w : Option FreeWalk} → held_between g 0 m z g.zones ≡ held_between g 0 m y g.zones
    → FreeStarts m g y w → FreeStarts m g z w
starts_before e s = record { stands = s.stands; all = s.all ∙ sym e }

-- one free fragment passed
module _ {m : List ℕ} {g : Geometry} {w : FreeWalk} (s : StandsFree m g w) where
  abbrev B : List Bool
  B = byte_bits (zone_block g m w.zone)

  abbrev id : ℕ
  id = id_at g.idlen w.at.0 B

  abbrev len : ℕ
  len = length_at g.idlen w.at.0 (end_bit g) B

  abbrev others : List Pair
  others = held_between g 0 m (w.zone + 1) g.zones

  passed : (held_by 0 (entries_at g B w.at.0 w.at.0) ≡ pair w.at.0 len ∷ held_by 0 (entries_at g B (w.at.0 + len) (onward w.at.0 id)))
      × ReadsAt g B (w.at.0 + len) (onward w.at.0 id)
  passed = over_free (some_id s.ahead s.zone) (in_bits s.ahead s.zone) s.inside s.reads

  pub closes_here : w.at.0 + len ≤ end_bit g
  closes_here = closes g.idlen w.at.0 (end_bit g) w.at.0 B (some_id s.ahead s.zone) (in_bits s.ahead s.zone) s.inside s.reads.readable

  link_leads : Leads g B (w.at.0 + len) (onward w.at.0 id)
  link_leads =
      leads (some_id s.ahead s.zone) (in_bits s.ahead s.zone) (end_bit g) (w.at.0 + len) (onward w.at.0 id) (omega arith)
      (omega arith) closes_here passed.1

  -- the span, and then what lies ahead of the next place
  module _ {start n : ℕ} (es : start ≡ disc_bit g w.zone w.at.0) (en : n ≡ len) where
    abbrev span : Span
    span = record { start = record { 0 = start }; len = n }

    first_span : (spans : List Pair) → held_by 0 (entries_at g B (w.at.0 + len) (onward w.at.0 id)) ≡ spans
        → free_ahead m g (Some w) ≡ pair start n ∷ (in_disc_bits g w.zone spans ++ others)
    first_span spans e = rw (here_ahead m g w, passed.0, e, es, en)

    module _ {next : ℕ} (ex : next ≡ onward w.at.0 id) (k : next ≡ 0 → ⊥) where
      pub advances_here : FreeAdvances m g w span (Some (free_walk w.zone next))
      advances_here =
          let some : onward w.at.0 id ≡ 0 → ⊥ = λ q. k (ex ∙ q) in
          let l = link_leads in
          record {
            stands = rw ex (record {
              ahead = s.ahead;
              zone = s.zone;
              low = omega (arith, s.low, l.low some);
              inside = l.inside some;
              reads = l.reads some;
            });
            passed = rw (here_ahead m g (free_walk w.zone next), ex) (first_span (spans_here g m (free_walk w.zone (onward w.at.0 id))) (l.same some));
          }

      -- the span ends where the next one starts, or before
      pub ends_before : start + n ≤ disc_bit g w.zone next
      ends_before =
          let low = link_leads.low (λ q. k (ex ∙ q)) in
          let some = from_zero_on g s.ahead.numbers w.zone w.at.0 s.low in
          omega (arith, es, en, ex, low, some)

    pub advances_on : onward w.at.0 id ≡ 0 → {after : Option FreeWalk} → FreeStarts m g (w.zone + 1) after → FreeAdvances m g w span after
    advances_on k t =
        record {
          stands = t.stands;
          passed = rw t.all (first_span [] (link_leads.nowhere k));
        }

-- spans passed over one by one
pub end_by_append : (d : ℕ) (ps qs : List Pair) → EndBy d ps → EndBy d qs → EndBy d (ps ++ qs)
end_by_append d [] qs j k = k
end_by_append d (p ∷ ps) qs j k = (j.0, end_by_append d ps qs j.1 k)

pub passes_none : {m : List ℕ} {g : Geometry} {w : FreeWalk} (d : ℕ) → StandsFree m g w → PassesTo m g d w w
passes_none d s = record { stands = s; spans = []; passed = refl; before = tt }

-- one more
module _ {m : List ℕ} {g : Geometry} {d z : ℕ} {w : FreeWalk} {at next : ℕ} (p : PassesTo m g d w (free_walk z at))
    (e : next ≡ onward at (id_at g.idlen at (byte_bits (zone_block g m z)))) (k : next ≡ 0 → ⊥) where
  abbrev q : Pair
  q = pair (disc_bit g z at) (length_at g.idlen at (end_bit g) (byte_bits (zone_block g m z)))

  one_on : FreeAdvances m g (free_walk z at) (record { start = record { 0 = q.start }; len = q.len }) (Some (free_walk z next))
  one_on = advances_here {w = free_walk z at} p.stands {start = q.start} {n = q.len} refl refl {next = next} e k

  pub next_free : StandsFree m g (free_walk z next)
  next_free = one_on.stands

  pub one_fewer : length (free_ahead m g (Some (free_walk z next))) < length (free_ahead m g (Some (free_walk z at)))
  one_fewer = omega (arith, ap length one_on.passed)

  pub passes_more : disc_bit g z next ≤ d → PassesTo m g d w (free_walk z next)
  passes_more l =
      let b = ends_before {w = free_walk z at} p.stands {start = q.start} {n = q.len} refl refl {next = next} e k in
      record {
        stands = one_on.stands;
        spans = p.spans ++ (q ∷ []);
        passed = rw (p.passed, one_on.passed, append_assoc);
        before = end_by_append d p.spans (q ∷ []) p.before (omega (arith, b), tt);
      }
