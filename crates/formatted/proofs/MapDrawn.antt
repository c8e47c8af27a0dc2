-- The map that is drawn on a blank disc: it is written from pieces and cross checks that an accepted map can hold, on a map that has the record and
-- else only 0. So it is accepted, reads as these, and shows just the two objects, with all else free.
use mathlib.Core.Path.{◌≡◌, refl, sym, ap, ◌∙◌, subst, subst⁻¹}
use mathlib.Core.Bool.{Bool, true, false, ◌&&◌}
use mathlib.Core.List.{List, [], ◌∷◌, map}
use mathlib.Core.Logic.{inl, inr, ◌↔◌}
use Prim.Native.Nat.{ℕ, zero, suc, ◌+◌, ◌-◌, ◌*◌, ◌/◌, ◌^◌, ◌<◌, ◌≤◌}
use native.Mathlib.Omega.{arith}
use lib.Dec.{eqb, ltb}
use lib.ListN.{length, get_or, get_or-replicate}
use borrow.Author.Tests.{eq-eqb, ne_eqb, ltb-true, ltb-false}
use Rattle.bits.specs.Bits.{Bytes}
use Rattle.bits.proofs.Tests.{by_test, both}
use Rattle.checks.specs.Cross.{cross_of}
use Rattle.geometry.specs.declared.DiscRecord.{DiscRecord}
use Rattle.geometry.specs.declared.Geometry.{Geometry}
use Rattle.geometry.specs.Record.{disc_record, record_in, geometry_from, geometry_of}
use Rattle.geometry.specs.Ranges.{ZeroBytes}
use Rattle.geometry.specs.Places.{disc_bits, zone_from}
use Rattle.model.specs.Answer.{Answer, answered, unless, and_then}
use Rattle.model.specs.Chain.{Pair, Within, Entry}
use Rattle.model.specs.Pieces.{Piece, pieces_of, late, rotate, pieces_of_zones, object_pairs}
use Rattle.model.specs.Rules.{zone_block}
use Rattle.model.specs.Shown.{zones_in, pieces_on, listed_on, spans_on}
use Rattle.model.proofs.LinesJudged.{not_answered, same_answer}
use Rattle.model.proofs.MapJudged.{accepted_keeps_rules}
use Rattle.edits.specs.Edits.{Disc, own}
use Rattle.edits.specs.Editable.{Editable}
use Rattle.edits.specs.Room.{In, InSome}
use Rattle.edits.proofs.DiscKept.{AcceptedDisc}
use Rattle.edits.proofs.FreeBits.{NoneHas, map_free}
use Rattle.edits.proofs.MapWritten.{drawn_zones, none_touching}
use Rattle.edits.proofs.RunsOnBytes.{ReadsAs, reads_listed, reads_editable}
use Rattle.edits.proofs.StepWritten.{MapOf, length_new_map, block_new, record_new, geometry_new, bytes_new, read_new, disc_new}
use Rattle.formatted.specs.Blank.{blank_record, blank_for, disc_fits, record_bytes, blank_map}
use Rattle.formatted.specs.Drawn.{map_length, both_fit, object_two, object_one, if_any, blank_pieces, blank_cross, blank_disc, drawn_map, blank_found, drawn_for, format_found, length_found}
use Rattle.formatted.specs.Laws.{PiecesLie, IfBits, no_bits, some_bits, Suits, Formats}
use Rattle.formatted.proofs.BlankMap.{record_of_blank, record_zeros, blank_of, blank_record_law}
use Rattle.formatted.proofs.Fewest.{disc_geometry, disc_unit, disc_last, disc_end_clusters, disc_fewest}
use Rattle.formatted.proofs.PiecesFit.{pieces_lie, blank_accepted}

-- pieces of object 2, and of object 1 if it has bits: what the objects list
one_in_order : {A : Type 0} (t : A → Bool) (x : A) → rotate t (x ∷ []) ≡ x ∷ []
one_in_order t x = by_test (t x) (λ h. simp h) (λ h. simp h)

module _ (g : Geometry) (two one : Pair) where
  abbrev l : List Piece
  l = own 2 two ∷ if_any (own 1 one)

  abbrev in_order_pairs : ℕ → List Piece → List Pair
  in_order_pairs id ps = map (λ p. p.at) (rotate (late g id) ps)

  two_kept : pieces_of 2 l ≡ own 2 two ∷ []
  two_kept = by_test (ltb 0 one.len) (λ h. simp h) (λ h. simp h)

  two_listed : object_pairs g 2 l ≡ two ∷ []
  two_listed = ap (in_order_pairs 2) two_kept ∙ ap (map (λ p. p.at)) (one_in_order (late g 2) (own 2 two))

  one_listed : IfBits one (object_pairs g 1 l)
  one_listed =
      by_test (ltb 0 one.len)
      (λ h. let e : pieces_of 1 l ≡ own 1 one ∷ [] = simp h in
      subst⁻¹ (IfBits one) (ap (in_order_pairs 1) e ∙ ap (map (λ p. p.at)) (one_in_order (late g 1) (own 1 one))) (some_bits (ltb-true 0 one.len h)))
      (λ h. let e : pieces_of 1 l ≡ [] = simp h in
      subst⁻¹ (IfBits one) (ap (in_order_pairs 1) e) (no_bits (omega (arith, ltb-false 0 one.len h))))

  others_listed : (id : ℕ) → (id ≡ 1 → ⊥) → (id ≡ 2 → ⊥) → object_pairs g id l ≡ []
  others_listed id n k =
      let a : eqb 2 id ≡ false = ne_eqb 2 id (λ e. k (sym e)) in
      let b : eqb 1 id ≡ false = ne_eqb 1 id (λ e. n (sym e)) in
      let e : pieces_of id l ≡ [] = by_test (ltb 0 one.len) (λ h. simp (a, h, b)) (λ h. simp (a, h)) in
      ap (in_order_pairs id) e

  -- the bits that neither has
  none_has : (d : ℕ) → NoneHas l d ↔ ((Within two d → ⊥) × (Within one d → ⊥))
  none_has d =
      by_test (ltb 0 one.len)
      (λ h. simp h ((λ n. (n (own 2 two) (inl refl), n (own 1 one) (inr (inl refl)))), (λ k p i. has k.0 k.1 p i)))
      (λ h. simp h ((λ n. (n (own 2 two) (inl refl), λ w. omega (arith, ltb-false 0 one.len h))), (λ k p i. has k.0 k.1 p (more p i))))
    where
      has : (Within two d → ⊥) → (Within one d → ⊥) → (p : Piece) → In p (own 2 two ∷ own 1 one ∷ []) → Within p.at d → ⊥
      has a b p (inl e) w = a (subst (λ (x : Piece). Within x.at d) e w)
      has a b p (inr (inl e)) w = b (subst (λ (x : Piece). Within x.at d) e w)
      has a b p (inr (inr e)) w = e

      more : (p : Piece) → In p (own 2 two ∷ []) → In p (own 2 two ∷ own 1 one ∷ [])
      more p (inl e) = inl e
      more p (inr e) = absurd e

-- the cross checks
later_cross : (n z : ℕ) → 0 < z → z < n → get_or (blank_cross n) z 0 ≡ 0
later_cross n zero l h = absurd (omega arith)
later_cross n (suc z) l h = get_or-replicate (n - 1) z 0 0 (omega arith)

-- a disc that can be formatted
module _ (logsector capacity idlen : ℕ) (fits : disc_fits logsector capacity idlen ≡ true) (drawable : both_fit (geometry_from (blank_for logsector capacity idlen)) ≡ true) where
  abbrev r : DiscRecord
  r = blank_for logsector capacity idlen

  abbrev g : Geometry
  g = geometry_from (blank_for logsector capacity idlen)

  -- a map that reads as what is drawn
  module _ (m : List ℕ) (bytes : Bytes m) (reads : ReadsAs g (blank_disc g) m) (has_record : disc_record m ≡ record_bytes r) (long : length m ≡ map_length g)
      (crosses : (z : ℕ) → z < g.zones → cross_of (zone_block g m z) ≡ get_or (blank_cross g.zones) z 0) where
    same : geometry_of m ≡ g
    same = reads.4

    zones_are : (geometry_of m).zones ≡ g.zones
    zones_are = ap (λ (x : Geometry). x.zones) same

    editable : Editable m
    editable = reads_editable g (blank_disc g) m reads bytes

    pieces : pieces_on (geometry_of m) m ≡ blank_pieces g
    pieces = ap (λ (x : List (List Entry)). pieces_of_zones (geometry_of m) 0 x) (ap zones_in reads.1) ∙ ap (λ (x : Disc). x.pieces) reads.3

    two : listed_on m 2 ≡ object_two g ∷ []
    two = reads_listed g (blank_disc g) m reads 2 ∙ two_listed g (object_two g) (object_one g)

    one : IfBits (object_one g) (listed_on m 1)
    one = subst⁻¹ (IfBits (object_one g)) (reads_listed g (blank_disc g) m reads 1) (one_listed g (object_two g) (object_one g))

    lie : PiecesLie g (object_two g) (object_one g)
    lie = pieces_lie g (disc_geometry logsector capacity idlen fits) (disc_last logsector capacity idlen fits) (disc_end_clusters logsector capacity idlen fits) drawable

    both_copies : 2 * length m ≤ (object_two g).len * (geometry_of m).unit
    both_copies =
        subst⁻¹ (λ (x : Geometry). 2 * length m ≤ (object_two g).len * x.unit) same (subst⁻¹ (λ (n : ℕ). 2 * n ≤ (object_two g).len * g.unit) long lie.two_holds.copies)

    free_bits : (d : ℕ) → InSome (spans_on m) d ↔ ((d < disc_bits g) × (Within (object_two g) d → ⊥) × (Within (object_one g) d → ⊥))
    free_bits d =
        let k = subst (λ (x : Geometry). InSome (spans_on m) d ↔ ((d < disc_bits x) × NoneHas (blank_pieces g) d)) same
        (subst (λ (l : List Piece). InSome (spans_on m) d ↔ ((d < disc_bits (geometry_of m)) × NoneHas l d)) pieces (map_free m editable d)) in
        let n = none_has g (object_two g) (object_one g) d in
        ((λ w. let f = k.0 w in let e = n.0 f.1 in (f.0, e.0, e.1)), (λ w. k.1 (w.0, n.1 (w.1, w.2))))

    suits : Suits logsector capacity idlen m
    suits = record {
      bytes = bytes;
      accepted = accepted_keeps_rules m reads.0 reads.1;
      disc = ap record_in has_record ∙ blank_record_law logsector capacity idlen fits 0 ∙ ap (blank_record logsector capacity idlen) (sym zones_are);
      copies = (object_two g, subst⁻¹ (In (object_two g)) two (inl refl), ap (λ (x : Geometry). zone_from x (x.zones / 2)) (sym same), both_copies);
    }

    formatted : Formats logsector capacity idlen m
    formatted = record {
      suits = suits;
      in_order = editable;
      given = subst⁻¹ (λ (x : Geometry). (x.sector ≡ 2 ^ logsector) × (x.size ≡ capacity) × (x.idlen ≡ idlen) × (x.version ≡ 0)) same (refl, refl, refl, refl);
      unit = ap (λ (x : Geometry). x.unit) same ∙ disc_unit logsector capacity idlen fits;
      no_bits_over = subst⁻¹ (λ (x : Geometry). 32 + x.bits ≡ 8 * x.sector) same (omega (arith, (disc_geometry logsector capacity idlen fits).sector_low));
      fewest = subst⁻¹ (λ (x : Geometry). (n : ℕ) → capacity ≤ (n * x.bits - 480) * x.unit → x.zones ≤ n) same (disc_fewest logsector capacity idlen fits);
      lie = subst⁻¹ (λ (x : Geometry). PiecesLie x (object_two x) (object_one x)) same lie;
      two = subst⁻¹ (λ (x : Geometry). listed_on m 2 ≡ object_two x ∷ []) same two;
      one = subst⁻¹ (λ (x : Geometry). IfBits (object_one x) (listed_on m 1)) same one;
      others = λ id n k. reads_listed g (blank_disc g) m reads id ∙ others_listed g (object_two g) (object_one g) id n k;
      free_bits = subst⁻¹ (λ (x : Geometry). (d : ℕ) → InSome (spans_on m) d ↔ ((d < disc_bits x) × (Within (object_two x) d → ⊥) × (Within (object_one x) d → ⊥))) same free_bits;
      cross_0 = subst⁻¹ (λ (x : Geometry). cross_of (zone_block x m 0) ≡ 255) same (crosses 0 (disc_geometry logsector capacity idlen fits).zones_low);
      cross = subst⁻¹ (λ (x : Geometry). (z : ℕ) → 0 < z → z < x.zones → cross_of (zone_block x m z) ≡ 0) same (λ z l h. crosses z h ∙ later_cross g.zones z l h);
      zeros = subst⁻¹ (λ (x : List ℕ). ZeroBytes 1 4 x × ZeroBytes 6 9 x × ZeroBytes 12 16 x × ZeroBytes 20 60 x) has_record (record_zeros r);
    }

  -- what is drawn reads so
  t : MapOf g (blank_map r (map_length g))
  t = blank_of logsector capacity idlen fits

  disc : AcceptedDisc g (blank_disc g)
  disc = blank_accepted g (disc_geometry logsector capacity idlen fits) (disc_last logsector capacity idlen fits) (disc_end_clusters logsector capacity idlen fits) drawable

  pub drawn_length : length (drawn_map (blank_for logsector capacity idlen)) ≡ map_length (geometry_from (blank_for logsector capacity idlen))
  drawn_length = length_new_map g (blank_map r (map_length g)) t (blank_disc g)

  pub drawn_formatted : Formats logsector capacity idlen (drawn_map (blank_for logsector capacity idlen))
  drawn_formatted =
      let m = blank_map r (map_length g) in
      let s = blank_disc g in
      formatted (drawn_map r) (bytes_new g m t s disc)
      (drawn_zones g 0 g.zones s.pieces, read_new g m t s disc, none_touching g 0 g.zones s.pieces 0, disc_new g m t s disc, geometry_new g m t s disc)
      (record_new g m t s disc ∙ record_of_blank r (map_length g)) drawn_length (λ z h. ap cross_of (block_new g m t s z disc.count h))

-- an answer comes from a disc that can be formatted
module _ (logsector capacity idlen : ℕ) where
  abbrev blank : DiscRecord
  blank = blank_for logsector capacity idlen

  passed : {A : Type 0} (rest : DiscRecord → Answer A) (x : A) → and_then (blank_found logsector capacity idlen) rest ≡ answered x
      → (disc_fits logsector capacity idlen && both_fit (geometry_from blank) ≡ true) × (rest blank ≡ answered x)
  passed {A} rest x e = go (disc_fits logsector capacity idlen && both_fit (geometry_from blank)) e
    where
      go : (b : Bool) → and_then (unless b 2 (answered blank)) rest ≡ answered x → (b ≡ true) × (rest blank ≡ answered x)
      go true e = (refl, e)
      go false e = absurd (not_answered e)

  pub formats : (room : ℕ) (m : List ℕ) → format_found logsector capacity idlen room ≡ answered m → Formats logsector capacity idlen m
  formats room m e =
      let k = passed (drawn_for room) m e in
      let f = both (disc_fits logsector capacity idlen) (both_fit (geometry_from blank)) k.0 in
      go (eqb room (map_length (geometry_from blank))) k.1 (drawn_formatted logsector capacity idlen f.0 f.1)
    where
      go : (b : Bool) → unless b 1 (answered (drawn_map blank)) ≡ answered m → Formats logsector capacity idlen (drawn_map blank) → Formats logsector capacity idlen m
      go true e f = subst (Formats logsector capacity idlen) (same_answer e) f
      go false e f = absurd (not_answered e)

  pub wanted : (n : ℕ) → length_found logsector capacity idlen ≡ answered n → (m : List ℕ) × (format_found logsector capacity idlen n ≡ answered m) × (length m ≡ n)
  wanted n e =
      let k = passed (λ (r : DiscRecord). answered (map_length (geometry_from r))) n e in
      let f = both (disc_fits logsector capacity idlen) (both_fit (geometry_from blank)) k.0 in
      let long : map_length (geometry_from blank) ≡ n = same_answer k.1 in
      let told : drawn_for n blank ≡ answered (drawn_map blank) = ap (λ (b : Bool). unless b 1 (answered (drawn_map blank))) (eq-eqb n (map_length (geometry_from blank)) (sym long)) in
      (drawn_map blank, ap (λ (b : Bool). and_then (unless b 2 (answered blank)) (drawn_for n)) k.0 ∙ told, drawn_length logsector capacity idlen f.0 f.1 ∙ long)
