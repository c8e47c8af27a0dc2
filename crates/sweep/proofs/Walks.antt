-- The two walks on an accepted map, along all lines and along the free spans. What a holder has lies apart, so where a walk has come so far no more
-- is counted than the stretch has bytes; and it ascends, so what a walk along the chains leaves out misses the stretch.
use mathlib.Core.Path.{◌≡◌, refl, sym, ap, ◌∙◌, subst}
use mathlib.Core.List.{List, [], ◌∷◌, ◌++◌, append-nil, append_assoc}
use Prim.Native.Nat.{ℕ, ◌+◌, ◌*◌, ◌/◌, ◌^◌, ◌<◌, ◌≤◌}
use native.Mathlib.Nat.{add-zero, div-mul-le_self}
use native.Mathlib.Omega.{arith}
use lib.ListN.{length}
use borrow.Author.Tests.{eq-eqb, ne_eqb}
use Rattle.geometry.specs.declared.Geometry.{Geometry}
use Rattle.geometry.specs.Places.{disc_bits, zone_of, zone_from}
use Rattle.model.specs.Chain.{Pair, pair}
use Rattle.map.specs.Accepted.{AcceptedMap}
use Rattle.walk.specs.declared.Line.{Line}
use Rattle.walk.specs.HeldBy.{held_lines, held_from}
use Rattle.walk.proofs.HeldZones.{held_all}
use Rattle.chain.specs.declared.iter.Spans.{Spans}
use Rattle.chain.specs.FreeAhead.{EndBy}
use Rattle.chain.specs.SpansLeft.{spans_left, LeftFrom}
use Rattle.chain.proofs.Ahead.{end_by_append}
use Rattle.listing.proofs.Ascend.{Apart, apart_rest, held_apart, map_apart}
use Rattle.sweep.specs.declared.Stretch.{Stretch}
use Rattle.sweep.specs.Sweep.{covers, pair_counts}
use Rattle.sweep.specs.Stretch.{StretchSwept}
use Rattle.sweep.proofs.ApartCounts.{apart_end_by, none_before, none_after, counts_fit}
use Rattle.sweep.proofs.Bounds.{size_small, zone_on_map, zone_before}
use Rattle.sweep.proofs.SweptOn.{SweptSoFar, swept_past, same_length, counts_append, ends, goes_on}

module _ {m : List ℕ} {g : Geometry} (a : AcceptedMap m g) (holder : ℕ) {rest : List Pair} {s t : Stretch} {count : ℕ}
    (w : SweptSoFar g.unit (held_from g holder m 0 g.zones) rest s count t) where
  -- the count so far
  pub count_fits : s.first + length s.image.now ≤ g.size → count < 2 ^ 64
  count_fits h =
      let whole : List Pair = held_from g holder m 0 g.zones in
      omega (
        arith,
        w.swept.count,
        counts_append g.unit w.done rest s.first (length s.image.now),
        ap (λ (x : List Pair). pair_counts g.unit x s.first (length s.image.now)) w.parts,
        counts_fit g.unit 0 (disc_bits g) whole (map_apart a holder) s.first (length s.image.now),
        size_small g a.readable.numbers,
      )

  -- the next span starts past the stretch, so all is swept
  pub ends_early : (q : Pair) (others : List Pair) → rest ≡ q ∷ others → s.first + length s.image.now ≤ q.start * g.unit
      → StretchSwept g.unit (held_from g holder m 0 g.zones) s count t
  ends_early q others e h =
      let whole : List Pair = held_from g holder m 0 g.zones in
      let end : ℕ = disc_bits g in
      let k : Apart 0 end (q ∷ others) =
      subst (λ (x : List Pair). Apart 0 end x) e (apart_rest 0 end w.done rest (subst (λ (x : List Pair). Apart 0 end x) w.parts (map_apart a holder))) in
      let misses = λ (x : ℕ) (l : t.first ≤ x) (u : x < t.first + length t.image.now).
      ap (λ (y : List Pair). covers g.unit y x) e
      ∙ none_before g.unit q.start end (q ∷ others) (omega arith, k.1, k.2) x (omega (arith, w.swept.first, same_length w.swept)) in
      subst (λ (n : ℕ). StretchSwept g.unit whole s n t) (add-zero count) (ends (goes_on rest [] w (sym (append-nil rest)) (swept_past t misses)) refl)

-- a walk along the chains from the zone of the stretch's first bit on leaves out spans that end before the stretch
pub starts_at : {m : List ℕ} {g : Geometry} → AcceptedMap m g → (s : Stretch) {d : ℕ} → d ≡ s.first / g.unit → d ≤ disc_bits g
    → {it : Spans} → LeftFrom m g d it → {rest : List Pair} → rest ≡ spans_left it → SweptSoFar g.unit (held_from g 0 m 0 g.zones) rest s 0 s
starts_at {m} {g} a s {d} e h r er =
    let z : ℕ = zone_of g d in
    let few : z ≤ g.zones = zone_on_map g a.readable.numbers d h in
    let zones : List Pair = held_from g 0 m 0 z in
    let low : d * g.unit ≤ s.first = rw e (div-mul-le_self s.first g.unit) in
    let early : EndBy d (zones ++ r.spans) =
    end_by_append d zones r.spans (apart_end_by (zone_from g 0) (zone_from g (0 + z)) d zones (held_apart a 0 0 z (omega (arith, few))) (zone_before g d z refl)) r.before in
    record {
      done = zones ++ r.spans;
      parts =
          held_all g 0 m z g.zones few ∙ ap (λ (q : List Pair). zones ++ q) (r.passed ∙ ap (λ (q : List Pair). r.spans ++ q) (sym er))
          ∙ sym (append_assoc zones r.spans _);
      swept = swept_past s (λ x l u. none_after g.unit d (zones ++ r.spans) early x (omega arith));
    }

-- one line more: it is swept if it is the holder's, and passed over if not
module _ {unit holder count : ℕ} {whole : List Pair} {s t : Stretch} {xs ys : List Line} {l : Line}
    (w : SweptSoFar unit whole (held_lines holder xs) s count t) (e : xs ≡ l ∷ ys) where
  pub holders_line : l.holder ≡ holder → {n : ℕ} {u : Stretch} → StretchSwept unit (pair l.start.0 l.len ∷ []) t n u
      → SweptSoFar unit whole (held_lines holder ys) s (count + n) u
  holders_line k = goes_on (pair l.start.0 l.len ∷ []) (held_lines holder ys) w (ap (held_lines holder) e ∙ rw (eq-eqb l.holder holder k))

  pub other_line : (l.holder ≡ holder → ⊥) → SweptSoFar unit whole (held_lines holder ys) s count t
  other_line k = subst (λ (x : List Pair). SweptSoFar unit whole x s count t) (ap (held_lines holder) e ∙ rw (ne_eqb l.holder holder k)) w
