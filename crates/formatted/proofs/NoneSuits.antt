-- No map suits a disc that is refused with 2. Of a map that suits a disc, the piece of object 2 with room for two copies ends by the disc's end: what ends past it is
-- object 1's. With the fewest zones object 2 starts no later and its copies need no more bits, so it ends by the disc's end too, and in its zone it always leaves room for
-- the overhang. So both pieces can be drawn, and the disc is not refused.
use mathlib.Core.Path.{◌≡◌, refl, sym, ap, ◌∙◌, subst}
use mathlib.Core.Bool.{true, ◌&&◌, ◌||◌}
use mathlib.Core.List.{List, [], ◌∷◌}
use mathlib.Core.Logic.{◌⊎◌, inl, inr}
use Prim.Native.Nat.{ℕ, suc, ◌+◌, ◌-◌, ◌*◌, ◌/◌, ◌^◌, ◌≤◌}
use native.Mathlib.Nat.{mul-le-mul_left, mul-le-mul_right}
use native.Mathlib.Omega.{arith}
use lib.Dec.{eqb, ltb, leb}
use borrow.Author.Tests.{eqb-true, eq-eqb, ltb-true, leb-true}
use Rattle.bits.proofs.Tests.{both, either}
use Rattle.geometry.specs.declared.Geometry.{Geometry}
use Rattle.geometry.specs.Record.{geometry_from, geometry_of}
use Rattle.geometry.specs.Ranges.{FieldRules, GeometryRules}
use Rattle.geometry.specs.Accepted.{AcceptedGeometry}
use Rattle.geometry.specs.Places.{zone_of, zone_from, zone_end}
use Rattle.model.specs.Answer.{refused, answered}
use Rattle.model.specs.Check.{map_read}
use Rattle.model.specs.Pieces.{Piece}
use Rattle.model.specs.Shown.{zones_in, zones_of, pieces_on}
use Rattle.model.proofs.LinesJudged.{not_answered}
use Rattle.model.proofs.MapJudged.{rules_accepted}
use Rattle.edits.specs.Edits.{own, in_zone}
use Rattle.edits.specs.Room.{In}
use Rattle.edits.proofs.Entries.{all_in, in_keep, listed_back}
use Rattle.edits.proofs.Gaps.{is_long}
use Rattle.edits.proofs.Chosen.{need_long}
use Rattle.edits.proofs.NeedRules.{need_enough, need_least}
use Rattle.edits.proofs.Clusters.{sub_whole, len_whole}
use Rattle.edits.proofs.ClustersKept.{need_clusters}
use Rattle.edits.proofs.Returned.{is_whole}
use Rattle.edits.proofs.ObjectRules.{gap_ends_by, one_from_end}
use Rattle.edits.proofs.PiecesKept.{AcceptedPieces}
use Rattle.edits.proofs.MapAccepted.{map_disc}
use Rattle.formatted.specs.Blank.{blank_for}
use Rattle.formatted.specs.Drawn.{map_length, middle_bit, copies_need, length_found}
use Rattle.formatted.specs.Table.{BothDrawn, with_zones, InRanges, Formattable, length_told_law}
use Rattle.formatted.specs.Laws.{HoldsCopies, Suits}
use Rattle.formatted.proofs.Fewest.{disc_fields, disc_geometry, disc_is_fewest, ranges_fewest, ranges_fit}
use Rattle.formatted.proofs.Judged.{length_judged}

-- a piece that is not object 1's ends by bit d, where only those of object 1 end past it
ends_by_disc : (d at end : ℕ) (l : List Piece) (p : Piece) → In p l → (p.owner ≡ 1 → ⊥) → one_from_end d at end l ≡ true → p.at.start + p.at.len ≤ d
ends_by_disc d at end [] p i n t = absurd i
ends_by_disc d at end (x ∷ xs) p i n t = go i (λ j. ends_by_disc d (x.at.start + x.at.len) end xs p j n ones.1)
  where
    ones : (gap_ends_by d at x.at.start && (eqb x.owner 1 || leb (x.at.start + x.at.len) d) ≡ true) × (one_from_end d (x.at.start + x.at.len) end xs ≡ true)
    ones = both (gap_ends_by d at x.at.start && (eqb x.owner 1 || leb (x.at.start + x.at.len) d)) (one_from_end d (x.at.start + x.at.len) end xs) t

    by_end : p ≡ x → (eqb x.owner 1 ≡ true) ⊎ (leb (x.at.start + x.at.len) d ≡ true) → x.at.start + x.at.len ≤ d
    by_end e (inl k) = absurd (n (ap (λ (y : Piece). y.owner) e ∙ eqb-true x.owner 1 k))
    by_end e (inr k) = leb-true (x.at.start + x.at.len) d k

    go : In p (x ∷ xs) → (In p xs → p.at.start + p.at.len ≤ d) → p.at.start + p.at.len ≤ d
    go (inl e) later =
        rw e (by_end e (either _ _ (both (gap_ends_by d at x.at.start) (eqb x.owner 1 || leb (x.at.start + x.at.len) d) ones.0).1))
    go (inr j) later = later j

-- so on an accepted map it ends by the disc's end
on_disc : (g : Geometry) (l : List Piece) → AcceptedPieces g l → (p : Piece) → In p l → (p.owner ≡ 1 → ⊥) → p.at.start + p.at.len ≤ g.end.0
on_disc g l k p i n =
    let z = zone_of g p.at.start in
    let there = ltb-true z g.zones (all_in (λ x. ltb (zone_of g x.at.start) g.zones) l p k.fit.zoned i) in
    let here = in_keep (λ x. eqb (zone_of g x.at.start) z) p l i (eq-eqb z z refl) in
    ends_by_disc g.end.0 (zone_from g z) (zone_end g z) (in_zone g z l) p here n (k.objects.one z there)

-- bits from the middle zone's first on that hold both copies and end by the disc's end
record CopiesOnDisc (g : Geometry) (n : ℕ) : Type 0 where
  holds : HoldsCopies g n
  ends : middle_bit g + n ≤ g.end.0

-- they are enough for both pieces, since with up to 255 zones any zone has room for object 2 and m bits besides
module _ (g : Geometry) (ok : AcceptedGeometry g) (few : g.zones ≤ 255) (spare : 32 + g.bits ≡ 8 * g.sector) where
  need_small : copies_need g + g.shortest + 480 ≤ g.bits
  need_small =
      let room : ℕ = g.bits - 480 - g.shortest in
      let k = g.cluster in
      let whole = sub_whole k (g.bits - 480) g.shortest (sub_whole k g.bits 480 ok.bits_clusters ok.record_clusters) ok.shortest_clusters in
      let short : g.shortest ≤ 27 = omega (arith, ok.shortest_high, ok.idlen_high, ok.cluster_high) in
      let bytes : g.zones * g.sector ≤ 255 * g.sector = mul-le-mul_right g.sector few in
      let enough : room * 128 ≤ room * g.unit = mul-le-mul_left room ok.unit_low in
      let least : copies_need g ≤ room = need_least g ok (2 * map_length g) room (omega (arith, ok.sector_low)) whole (omega (arith, ok.sector_low)) in
      omega (arith, ok.sector_low)

  both_there : (n : ℕ) → CopiesOnDisc g n → BothDrawn g (copies_need g) (middle_bit g + copies_need g)
  both_there n c =
      let least : copies_need g ≤ n = need_least g ok (2 * map_length g) n c.holds.long c.holds.clusters c.holds.copies in
      let up : suc (g.zones / 2) * g.bits ≤ g.zones * g.bits = mul-le-mul_right g.bits (omega (arith, ok.zones_low)) in
      let small = need_small in
      record {
        long = need_long g (2 * map_length g);
        clusters = need_clusters g ok (2 * map_length g);
        copies = need_enough g ok (2 * map_length g);
        in_zone_law = omega arith;
        overhang = λ past. (omega (arith, c.ends), omega arith);
        apart = omega arith;
      }

module _ (logsector capacity idlen : ℕ) where
  -- with fewer zones object 2 starts no later, for a map that is no longer
  fewer_zones : (i j n : ℕ) → i ≤ j → CopiesOnDisc (with_zones logsector capacity idlen j) n → CopiesOnDisc (with_zones logsector capacity idlen i) n
  fewer_zones i j n h c =
      let Z : ℕ = 8 * 2 ^ logsector - 32 in
      let from : i / 2 * Z ≤ j / 2 * Z = mul-le-mul_right Z (omega arith) in
      let map : i * 2 ^ logsector ≤ j * 2 ^ logsector = mul-le-mul_right (2 ^ logsector) h in
      record { holds = record { long = c.holds.long; clusters = c.holds.clusters; copies = omega (arith, c.holds.copies) }; ends = omega (arith, c.ends) }

  -- a map that suits a disc shows that it can be formatted
  module _ (m : List ℕ) (s : Suits logsector capacity idlen m) where
    abbrev zones : ℕ
    zones = (geometry_of m).zones

    same : geometry_of m ≡ with_zones logsector capacity idlen zones
    same = ap geometry_from s.disc

    ranges : InRanges logsector capacity idlen zones
    ranges = record {
      fields = subst FieldRules s.disc s.accepted.record_rules.fields;
      together = subst GeometryRules same s.accepted.record_rules.together;
    }

    read : map_read m ≡ answered (zones_of m)
    read = let k = (rules_accepted m s.accepted).1 in k ∙ ap answered (sym (ap zones_in k))

    copies : CopiesOnDisc (geometry_of m) s.copies.0.len
    copies =
        let g = geometry_of m in
        let q = s.copies in
        let l = pieces_on g m in
        let p = own 2 q.0 in
        let k = (map_disc m (zones_of m) s.bytes read).pieces in
        let i = listed_back g 2 q.0 l q.1 in
        record {
          holds = record {
            long = leb-true g.shortest q.0.len (all_in (is_long g.shortest) l p k.fit.long i);
            clusters = len_whole g.cluster p (all_in (is_whole g.cluster) l p k.clusters i);
            copies = rw s.accepted.whole at q.3;
          };
          ends = rw q.2 at (on_disc g l k p i (λ x. omega arith));
        }

    formattable : (n : ℕ) × Formattable logsector capacity idlen n
    formattable =
        let g : Geometry = geometry_from (blank_for logsector capacity idlen) in
        let fits = ranges_fit logsector capacity idlen zones ranges in
        let ok = disc_geometry logsector capacity idlen fits in
        let c = fewer_zones g.zones zones _ (ranges_fewest logsector capacity idlen zones ranges) (subst (λ (x : Geometry). CopiesOnDisc x s.copies.0.len) same copies) in (
          g.zones,
          record {
            zones = disc_is_fewest logsector capacity idlen fits;
            two = copies_need g;
            one = middle_bit g + copies_need g;
            both = both_there g ok (disc_fields logsector capacity idlen fits).zones_high (omega (arith, ok.sector_low)) _ c;
          },
        )

pub none_suits : (logsector capacity idlen : ℕ) → length_found logsector capacity idlen ≡ refused 2 0 → (m : List ℕ) → Suits logsector capacity idlen m → ⊥
none_suits logsector capacity idlen e m s =
    let f = formattable logsector capacity idlen m s in
    not_answered (sym e ∙ (length_judged logsector capacity idlen).only _ (length_told_law f.0 f.1))
