-- A mended map: it is written from the owned pieces as they were read and from cross checks that exclusive-or to 255, which an accepted
-- map can hold. So it is accepted and shows these, no two free fragments touch, and every bit that is not written is the old one.
use mathlib.Core.Path.{◌≡◌, sym, ap, ap₂, ◌∙◌, subst, subst⁻¹}
use mathlib.Core.Bool.{false}
use mathlib.Core.List.{List, [], map}
use mathlib.Core.Logic.{◌⊎◌, ◌↔◌}
use Prim.Native.Nat.{ℕ, ◌<◌, ◌≤◌}
use native.Mathlib.Omega.{arith}
use lib.ListN.{length, get_or, length-map, get_or-map}
use Rattle.bits.specs.Bits.{byte_bits, Bytes}
use Rattle.checks.specs.Cross.{cross_of}
use Rattle.geometry.specs.declared.Geometry.{Geometry}
use Rattle.geometry.specs.Record.{geometry_of}
use Rattle.geometry.specs.Places.{first_bit, end_bit}
use Rattle.model.specs.Answer.{answered}
use Rattle.model.specs.Chain.{Pair, Entry}
use Rattle.model.specs.Check.{blocks_of, mend_read}
use Rattle.model.specs.Pieces.{free_spans}
use Rattle.model.specs.Rules.{zone_block}
use Rattle.model.specs.Shown.{zones_in, spans_on}
use Rattle.model.proofs.ByPlace.{block_length}
use Rattle.model.proofs.MapTests.{read_tests}
use Rattle.edits.specs.Edits.{Disc, in_zone}
use Rattle.edits.specs.Room.{InSome}
use Rattle.edits.specs.Written.{to_block}
use Rattle.edits.proofs.BlockKept.{written_outside}
use Rattle.edits.proofs.BytesKept.{crosses_of_bytes}
use Rattle.edits.proofs.DiscKept.{AcceptedDisc}
use Rattle.edits.proofs.MapAccepted.{read_geometry, read_each_bytes, read_of, read_pieces_found, read_pieces}
use Rattle.edits.proofs.MapFound.{zone_pieces_law}
use Rattle.edits.proofs.MapWritten.{drawn_zones, none_touching}
use Rattle.edits.proofs.RunsOnBytes.{ReadsAs, reads_listed, reads_editable}
use Rattle.edits.proofs.Slices.{length_blocks, block_of_slice}
use Rattle.edits.proofs.StepWritten.{MapOf, written_map, count_old, sized_old, length_new_map, block_new, read_new, geometry_new, bytes_new, disc_new, outcome_new}
use Rattle.edits.proofs.ZoneDrawable.{zone_drawable}
use Rattle.edits.proofs.ZonePlaces.{zone_bits}
use Rattle.mended.specs.Mended.{disc_mended, mended_by, mended}
use Rattle.mended.specs.Laws.{Mends}
use Rattle.mended.proofs.CrossMended.{mended_count, mended_later, mended_sum, mended_bytes}
use Rattle.mended.proofs.NeverNine.{never_nine}
use Rattle.mended.proofs.ZonesFree.{SameFree, zones_free}

module _ (m : List ℕ) (bytes : Bytes m) (ess : List (List Entry)) (read : mend_read m ≡ answered ess) where
  abbrev g : Geometry
  g = geometry_of m

  abbrev crosses : List ℕ
  crosses = map cross_of (blocks_of (geometry_of m) m)

  abbrev s : Disc
  s = disc_mended m ess

  abbrev M : List ℕ
  M = written_map (geometry_of m) m (disc_mended m ess)

  t : MapOf g m
  t = read_of m ess bytes read

  cross_count : length crosses ≡ g.zones
  cross_count = length-map (blocks_of g m) cross_of ∙ length_blocks g.sector g.zones m

  disc : AcceptedDisc g s
  disc = record {
    pieces = read_pieces m ess bytes read;
    count = mended_count crosses ∙ cross_count;
    sum = mended_sum crosses (omega (arith, cross_count, (read_geometry m ess bytes read).zones_low));
    bytes = mended_bytes crosses (crosses_of_bytes (blocks_of g m) (read_each_bytes m ess bytes read));
  }

  -- what is written reads as these
  reads : ReadsAs g s M
  reads = (drawn_zones g 0 g.zones s.pieces, read_new g m t s disc, none_touching g 0 g.zones s.pieces 0, disc_new g m t s disc, geometry_new g m t s disc)

  free_bits : (d : ℕ) → InSome (spans_on M) d ↔ InSome (free_spans g 0 ess) d
  free_bits d =
      let e = ap₂ (λ (x : Geometry) (zs : List (List Entry)). free_spans x 0 zs) (geometry_new g m t s disc) (ap zones_in (read_new g m t s disc)) in
      let k : SameFree g 0 (drawn_zones g 0 (length (blocks_of g m)) s.pieces) ess d =
      zones_free g t.accepted s.pieces 0 (blocks_of g m) ess (sized_old g m t) (read_tests m ess read).zones (zone_pieces_law g 0 ess (read_pieces_found m ess bytes read)) d in
      subst⁻¹ (λ (qs : List Pair). InSome qs d ↔ InSome (free_spans g 0 ess) d) e
      (subst (λ (n : ℕ). SameFree g 0 (drawn_zones g 0 n s.pieces) ess d) (count_old g m t) k)

  -- a zone's block
  cross_kept : (z : ℕ) → 0 < z → z < g.zones → cross_of (zone_block g M z) ≡ cross_of (zone_block g m z)
  cross_kept z n h =
      ap cross_of (block_new g m t s z disc.count h)
      ∙ mended_later crosses z n
      ∙ get_or-map cross_of (blocks_of g m) z []
      ∙ ap cross_of (block_of_slice g.sector g.zones m z t.whole h)

  outside_kept : (z : ℕ) → z < g.zones → (b : ℕ) → 32 ≤ b → (b < first_bit z) ⊎ (end_bit g ≤ b)
      → get_or (byte_bits (zone_block g M z)) b false ≡ get_or (byte_bits (zone_block g m z)) b false
  outside_kept z h b lo o =
      ap (λ (x : List ℕ). get_or (byte_bits x) b false) (block_new g m t s z disc.count h)
      ∙ written_outside g.idlen (first_bit z) (end_bit g) (zone_block g m z) (zone_bits g t.accepted z (zone_block g m z) (block_length m g.zones g.sector t.whole z h))
      (map (to_block g z) (in_zone g z s.pieces)) (zone_drawable g s.pieces z t.accepted disc.pieces.fit h) (get_or s.cross z 0) b lo o

  pub mends : Mends m ess (mended m)
  mends = subst⁻¹ (Mends m ess) (ap (mended_by m) read) (record {
    in_order = reads_editable g s M reads (bytes_new g m t s disc);
    no_nine = λ c z e. never_nine g s.pieces c z (sym (outcome_new g m t s disc c) ∙ e);
    same_disc = geometry_new g m t s disc;
    objects = reads_listed g s M reads;
    free_bits = free_bits;
    cross = cross_kept;
    long = length_new_map g m t s ∙ sym t.whole;
    outside = outside_kept;
  })
