-- When the calls that format are refused: the test of a disc passes exactly where its fewest zones and both pieces are found, so each answer is the line of the
-- table that applies, and each line that applies is the answer.
use mathlib.Core.Path.{◌≡◌, sym, ap, ◌∙◌, subst}
use mathlib.Core.Bool.{Bool, true, false, ◌&&◌, false≢true}
use mathlib.Core.List.{List}
use Prim.Native.Nat.{ℕ, suc, ◌+◌, ◌-◌, ◌*◌, ◌/◌, ◌<◌, ◌≤◌, min}
use native.Mathlib.Nat.{le_trans, mul-le-mul_right}
use native.Mathlib.Omega.{arith}
use lib.Dec.{eqb, ltb}
use borrow.Author.Tests.{ltb-true, leb-true, eqb-true, eqb-false, lt-ltb, le-leb, eq-eqb, ne_eqb}
use Rattle.bits.proofs.Tests.{by_test, both, and_true}
use Rattle.geometry.specs.declared.DiscRecord.{DiscRecord}
use Rattle.geometry.specs.declared.Geometry.{Geometry}
use Rattle.geometry.specs.Record.{geometry_from}
use Rattle.geometry.specs.Accepted.{AcceptedGeometry}
use Rattle.geometry.specs.Places.{zone_end, disc_bits}
use Rattle.model.specs.Answer.{Answer, refused, answered, unless, and_then}
use Rattle.model.specs.Refusals.{Exactly}
use Rattle.edits.proofs.Chosen.{need_long}
use Rattle.edits.proofs.NeedRules.{need_enough, need_least}
use Rattle.edits.proofs.ClustersKept.{need_clusters}
use Rattle.formatted.specs.Blank.{blank_record, blank_for, disc_fits}
use Rattle.formatted.specs.Drawn.{map_length, overhang_from, middle_bit, middle_room, copies_need, both_fit, drawn_map, blank_found, drawn_for, format_found, length_found}
use Rattle.formatted.specs.Table.{BothDrawn, with_zones, Formattable}
use Rattle.formatted.specs.Table.{NotFormattable, above, nothing, part_sector, no_zones, not_both, FormatJudged, no_disc, other_length, drawn, LengthJudged, no_length, length_told_law}
use Rattle.formatted.proofs.Units.{above_999}
use Rattle.formatted.proofs.Fewest.{disc_together, disc_geometry, disc_unit, disc_is_fewest, ranges_fit, fewest_are}

-- bits from a place on, up to two ends
fit_between : (n a e o : ℕ) → 0 < n → n ≤ min e o - a → (a + n ≤ e) × (a + n ≤ o)
fit_between n a e o some h = omega arith

between_fits : (n a e o : ℕ) → a + n ≤ e → a + n ≤ o → n ≤ min e o - a
between_fits n a e o h k = omega arith

-- both pieces: the overhang starts where it has m bits, and object 2 has what its bytes need
module _ (g : Geometry) (ok : AcceptedGeometry g) where
  middle_on_map : zone_end g (g.zones / 2) ≤ disc_bits g
  middle_on_map =
      let k : suc (g.zones / 2) * g.bits ≤ g.zones * g.bits = mul-le-mul_right g.bits (omega (arith, ok.zones_low)) in
      omega arith

  room_for_shortest : g.shortest ≤ disc_bits g
  room_for_shortest = let k : 1 * g.bits ≤ g.zones * g.bits = mul-le-mul_right g.bits ok.zones_low in omega (arith, ok.bits_low)

  overhang_fits : g.end.0 < disc_bits g → (overhang_from g ≤ g.end.0) × (overhang_from g + g.shortest ≤ disc_bits g)
  overhang_fits l = rw (lt-ltb g.end.0 (disc_bits g) l) (omega (arith, room_for_shortest))

  before_overhang : (two one : ℕ) → BothDrawn g two one → middle_bit g + two ≤ overhang_from g
  before_overhang two one b =
      by_test (ltb g.end.0 (disc_bits g))
      (λ t. let k = b.overhang (ltb-true g.end.0 (disc_bits g) t) in rw t (omega (arith, b.apart)))
      (λ t. rw t (omega (arith, b.in_zone_law, middle_on_map)))

  pub both_drawn : both_fit g ≡ true → BothDrawn g (copies_need g) (overhang_from g)
  both_drawn h =
      let bytes : ℕ = 2 * map_length g in
      let long : g.shortest ≤ copies_need g = need_long g bytes in
      let k = fit_between (copies_need g) (middle_bit g) (zone_end g (g.zones / 2)) (overhang_from g) (omega (arith, ok.shortest_low)) (leb-true _ _ h) in
      record { long = long; clusters = need_clusters g ok bytes; copies = need_enough g ok bytes; in_zone_law = k.0; overhang = overhang_fits; apart = k.1 }

  pub drawn_fits : (two one : ℕ) → BothDrawn g two one → both_fit g ≡ true
  drawn_fits two one b =
      let least : copies_need g ≤ two = need_least g ok (2 * map_length g) two b.long b.clusters b.copies in
      let room : two ≤ middle_room g = between_fits two (middle_bit g) (zone_end g (g.zones / 2)) (overhang_from g) b.in_zone_law (before_overhang two one b) in
      le-leb (copies_need g) (middle_room g) (le_trans least room)

module _ (logsector capacity idlen : ℕ) where
  abbrev blank : DiscRecord
  blank = blank_for logsector capacity idlen

  abbrev g : Geometry
  g = geometry_from blank

  abbrev fits : Bool
  fits = disc_fits logsector capacity idlen

  -- a disc that can be formatted passes the test, with the zones that the record says
  passes_formattable : fits && both_fit g ≡ true → Formattable logsector capacity idlen g.zones
  passes_formattable t =
      let p = both fits (both_fit g) t in
      record {
        zones = disc_is_fewest logsector capacity idlen p.0;
        two = copies_need g;
        one = overhang_from g;
        both = both_drawn g (disc_geometry logsector capacity idlen p.0) p.1;
      }

  formattable_passes : (n : ℕ) → Formattable logsector capacity idlen n → (n ≡ g.zones) × (fits && both_fit g ≡ true)
  formattable_passes n f =
      let e : n ≡ g.zones = fewest_are logsector capacity idlen n f.zones in
      let fit = ranges_fit logsector capacity idlen n f.zones.ranges in
      let b = drawn_fits g (disc_geometry logsector capacity idlen fit) f.two f.one (subst (λ (x : ℕ). BothDrawn (with_zones logsector capacity idlen x) f.two f.one) e f.both) in
      (e, and_true fits (both_fit g) fit b)

  -- and one that is refused fails it
  fails_refused : fits && both_fit g ≡ false → NotFormattable logsector capacity idlen
  fails_refused t =
      by_test fits
      (λ fit. not_both g.zones (disc_is_fewest logsector capacity idlen fit)
      (λ two one b. false≢true (sym t ∙ and_true fits (both_fit g) fit (drawn_fits g (disc_geometry logsector capacity idlen fit) two one b))))
      (λ no. no_zones (λ n r. false≢true (sym no ∙ ranges_fit logsector capacity idlen n r)))

  refused_fails : NotFormattable logsector capacity idlen → fits && both_fit g ≡ false
  refused_fails f = by_test (fits && both_fit g) (λ t. let p = both fits (both_fit g) t in absurd (clash f p.0 p.1)) (λ t. t)
    where
      clash : NotFormattable logsector capacity idlen → fits ≡ true → both_fit g ≡ true → ⊥
      clash (above l) fit b = omega (arith, disc_unit logsector capacity idlen fit, above_999 capacity l, (disc_geometry logsector capacity idlen fit).unit_low)
      clash (nothing e) fit b = omega (arith, (disc_together logsector capacity idlen fit).some_bytes)
      clash (part_sector n) fit b = n (disc_together logsector capacity idlen fit).whole_sectors
      clash (no_zones n) fit b = n g.zones (disc_is_fewest logsector capacity idlen fit).ranges
      clash (not_both n f none) fit b =
          let e : n ≡ g.zones = fewest_are logsector capacity idlen n f in
          subst (λ (x : ℕ). (two one : ℕ) → BothDrawn (with_zones logsector capacity idlen x) two one → ⊥) e none (copies_need g) (overhang_from g)
          (both_drawn g (disc_geometry logsector capacity idlen fit) b)

  -- a call goes on from the record, or is refused with 2
  module _ {A : Type 0} (rest : DiscRecord → Answer A) where
    found : fits && both_fit g ≡ true → and_then (blank_found logsector capacity idlen) rest ≡ rest blank
    found t = ap (λ (b : Bool). and_then (unless b 2 (answered blank)) rest) t

    found_with : (n : ℕ) → Formattable logsector capacity idlen n → and_then (blank_found logsector capacity idlen) rest ≡ rest (blank_record logsector capacity idlen n)
    found_with n f = let p = formattable_passes n f in found p.1 ∙ ap (λ (x : ℕ). rest (blank_record logsector capacity idlen x)) (sym p.0)

    not_found : fits && both_fit g ≡ false → and_then (blank_found logsector capacity idlen) rest ≡ refused 2 0
    not_found t = ap (λ (b : Bool). and_then (unless b 2 (answered blank)) rest) t

  abbrev length_of : DiscRecord → Answer ℕ
  length_of r = answered (map_length (geometry_from r))

  length_only : (s : Answer ℕ) → LengthJudged logsector capacity idlen s → length_found logsector capacity idlen ≡ s
  length_only s (no_length f) = not_found length_of (refused_fails f)
  length_only s (length_told_law n f) = found_with length_of n f

  pub length_judged : Exactly (LengthJudged logsector capacity idlen) (length_found logsector capacity idlen)
  length_judged = record {
    told = by_test (fits && both_fit g)
        (λ t. subst (LengthJudged logsector capacity idlen) (sym (found length_of t)) (length_told_law g.zones (passes_formattable t)))
        (λ t. subst (LengthJudged logsector capacity idlen) (sym (not_found length_of t)) (no_length (fails_refused t)));
    only = length_only;
  }

  module _ (room : ℕ) where
    abbrev Says : Answer (List ℕ) → Type 0
    Says r = FormatJudged logsector capacity idlen room r

    by_length : Formattable logsector capacity idlen g.zones → Says (drawn_for room blank)
    by_length f =
        by_test (eqb room (map_length g))
        (λ t. rw t (drawn g.zones f (eqb-true room (map_length g) t)))
        (λ t. rw t (other_length g.zones f (eqb-false room (map_length g) t)))

    abbrev told : ℕ → Bool → Answer (List ℕ)
    told n t = unless t 1 (answered (drawn_map (blank_record logsector capacity idlen n)))

    format_only : (s : Answer (List ℕ)) → Says s → format_found logsector capacity idlen room ≡ s
    format_only s (no_disc f) = not_found (drawn_for room) (refused_fails f)
    format_only s (other_length n f differs) =
        found_with (drawn_for room) n f ∙ ap (told n) (ne_eqb room (map_length (with_zones logsector capacity idlen n)) differs)
    format_only s (drawn n f e) = found_with (drawn_for room) n f ∙ ap (told n) (eq-eqb room (map_length (with_zones logsector capacity idlen n)) e)

    pub format_judged : Exactly (FormatJudged logsector capacity idlen room) (format_found logsector capacity idlen room)
    format_judged = record {
      told = by_test (fits && both_fit g)
          (λ t. subst Says (sym (found (drawn_for room) t)) (by_length (passes_formattable t)))
          (λ t. subst Says (sym (not_found (drawn_for room) t)) (no_disc (fails_refused t)));
      only = format_only;
    }
