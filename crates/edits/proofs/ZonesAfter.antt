-- Each zone's block after calls on an accepted map in which no two free fragments touch: written from the zone's pieces and
-- cross check, over the block that it had. A zone that an edit does not touch keeps its block byte for byte.
use mathlib.Core.Path.{◌≡◌, ap, ap₂, ◌∙◌, subst}
use mathlib.Core.Bool.{false}
use mathlib.Core.List.{List, [], ◌∷◌, map}
use mathlib.Core.Option.{none}
use Prim.Native.Nat.{ℕ, ◌<◌}
use native.Mathlib.Nat.{zero-add}
use native.Mathlib.Omega.{arith}
use lib.ListN.{length, get_or, get_or-map}
use Rattle.bits.specs.Bits.{Bytes}
use Rattle.checks.specs.Cross.{cross_of}
use Rattle.geometry.specs.declared.Geometry.{Geometry}
use Rattle.geometry.specs.Record.{geometry_of}
use Rattle.geometry.specs.Places.{first_bit, end_bit}
use Rattle.model.specs.Chain.{Entry, touching}
use Rattle.model.specs.Blocks.{block_at}
use Rattle.model.specs.Pieces.{Piece, owned_of, piece_to_disc}
use Rattle.model.specs.Answer.{Answer, answered}
use Rattle.model.specs.Check.{blocks_of, map_read}
use Rattle.edits.specs.Edits.{Disc, touches, Edit, pairs_in, edit, in_zone}
use Rattle.edits.specs.Judge.{Call, judge}
use Rattle.edits.proofs.PieceRuns.{obey, run}
use Rattle.edits.proofs.RunsKept.{allowed}
use Rattle.edits.specs.Written.{written, to_block}
use Rattle.edits.specs.Steps.{disc_of, step, steps}
use Rattle.edits.proofs.Slices.{length_blocks, block_of_slice}
use Rattle.edits.proofs.ZoneFound.{ZoneFound}
use Rattle.edits.proofs.MapFound.{found_at, zone_pieces_law, zone_as_written}
use Rattle.edits.proofs.DiscKept.{disc_run}
use Rattle.edits.proofs.StepWritten.{block_new}
use Rattle.edits.proofs.MapAccepted.{map_geometry, map_of, map_count, map_pieces_found, map_found, map_disc}
use Rattle.edits.proofs.ZonesTouched.{untouched_pieces, untouched_cross}
use Rattle.edits.proofs.RunsOnBytes.{run_bytes}

module _ (m : List ℕ) (ess : List (List Entry)) (bytes : Bytes m) (accepted : map_read m ≡ answered ess) (apart : touching 0 ess ≡ none) where
  abbrev g : Geometry
  g = geometry_of m

  abbrev s : Disc
  s = disc_of m ess

  abbrev block : ℕ → List ℕ
  block z = block_at (geometry_of m).sector z m

  in_blocks : (z : ℕ) → z < (geometry_of m).zones → z < length (blocks_of (geometry_of m) m)
  in_blocks z h = omega (arith, length_blocks g.sector g.zones m)

  block_is : (z : ℕ) → z < (geometry_of m).zones → get_or (blocks_of (geometry_of m) m) z [] ≡ block_at (geometry_of m).sector z m
  block_is z h = block_of_slice g.sector g.zones m z (map_of m ess bytes accepted).whole h

  -- before: what was found in a zone, its pieces and its cross check
  pub zone_at : (z : ℕ) → z < (geometry_of m).zones → ZoneFound (geometry_of m) z (block_at (geometry_of m).sector z m) (get_or ess z [])
  zone_at z h =
      subst (λ (b : List ℕ). ZoneFound g z b (get_or ess z [])) (block_is z h)
      (subst (λ (i : ℕ). ZoneFound g i (get_or (blocks_of g m) z []) (get_or ess z [])) (zero-add z) (found_at g 0 (blocks_of g m) ess (map_found m ess bytes accepted apart) z (in_blocks z h)))

  pub zone_pieces_at : (z : ℕ) → z < (geometry_of m).zones → in_zone (geometry_of m) z (disc_of m ess).pieces ≡ map (piece_to_disc (geometry_of m) z) (owned_of (get_or ess z []))
  zone_pieces_at z h =
      subst (λ (i : ℕ). in_zone g i s.pieces ≡ map (piece_to_disc g i) (owned_of (get_or ess z []))) (zero-add z)
      (zone_pieces_law g 0 ess (map_pieces_found m ess bytes accepted) z (omega (arith, map_count m ess bytes accepted)))

  pub zone_cross_at : (z : ℕ) → z < (geometry_of m).zones → get_or (disc_of m ess).cross z 0 ≡ cross_of (block_at (geometry_of m).sector z m)
  zone_cross_at z h = get_or-map cross_of (blocks_of g m) z [] ∙ ap cross_of (block_is z h)

  -- after a run
  pub zone_after_law : (cs : List Call) (z : ℕ) → z < (geometry_of m).zones
      → block_at (geometry_of m).sector z (steps m cs)
      ≡ written (geometry_of m).idlen (first_bit z) (end_bit (geometry_of m)) (map (to_block (geometry_of m) z) (in_zone (geometry_of m) z (run (geometry_of m) (disc_of m ess) cs).pieces))
      (get_or (run (geometry_of m) (disc_of m ess) cs).cross z 0) (block_at (geometry_of m).sector z m)
  zone_after_law cs z h =
      ap (block_at g.sector z) (run_bytes m ess bytes accepted apart cs)
      ∙ block_new g m (map_of m ess bytes accepted) (run g s cs) z (disc_run g (map_geometry m ess bytes accepted) s cs (map_disc m ess bytes accepted)).count h

  -- after one call that is accepted
  module _ (c : Call) (e : Edit) (v : judge (geometry_of m) none (disc_of m ess).pieces c ≡ answered e) (z : ℕ) (h : z < (geometry_of m).zones) where
    pub zone_edited : block_at (geometry_of m).sector z (step m c)
        ≡ written (geometry_of m).idlen (first_bit z) (end_bit (geometry_of m)) (map (to_block (geometry_of m) z) (in_zone (geometry_of m) z (edit (geometry_of m) e (disc_of m ess)).pieces))
        (get_or (edit (geometry_of m) e (disc_of m ess)).cross z 0) (block_at (geometry_of m).sector z m)
    zone_edited =
        zone_after_law (c ∷ []) z h
        ∙ ap (λ (r : Answer Edit). written g.idlen (first_bit z) (end_bit g) (map (to_block g z) (in_zone g z (obey g r s).pieces)) (get_or (obey g r s).cross z 0) (block z)) v

    -- a zone that the edit does not touch keeps its block byte for byte
    pub zone_untouched : touches (geometry_of m) z (pairs_in e) ≡ false → block_at (geometry_of m).sector z (step m c) ≡ block_at (geometry_of m).sector z m
    zone_untouched t =
        let ok = map_geometry m ess bytes accepted in
        let d = map_disc m ess bytes accepted in
        let a = (allowed g s.pieces c e ok d.pieces.fit v).0 in
        zone_edited
        ∙ ap₂ (λ (l : List Piece) (x : ℕ). written g.idlen (first_bit z) (end_bit g) (map (to_block g z) l) x (block z)) (untouched_pieces g z s e a t) (untouched_cross g z s e d.count h t ∙ zone_cross_at z h)
        ∙ zone_as_written g ok z (block z) (get_or ess z []) s.pieces (zone_at z h) (zone_pieces_at z h)
