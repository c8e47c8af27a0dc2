-- One zone of an edit: without pairs its block is put back as it was, with some it is drawn from the pieces after the edit.
use mathlib.Core.Path.{◌≡◌, sym, ap, ◌∙◌}
use mathlib.Core.List.{List, map}
use Prim.Native.Nat.{ℕ, ◌+◌, ◌-◌, ◌*◌, ◌≤◌}
use native.Mathlib.Omega.{arith}
use lib.Bits.{bit_xor}
use lib.ListN.{length}
use borrow.Author.Tests.{lt-ltb, le-ltb}
use borrow.Rule.Slice.PartMut.{put_same}
use Rattle.checks.specs.Cross.{cross_of}
use Rattle.geometry.specs.declared.Geometry.{Geometry}
use Rattle.geometry.specs.Places.{first_bit, end_bit}
use Rattle.model.specs.Pieces.{Piece}
use Rattle.model.specs.Rules.{zone_block}
use Rattle.model.proofs.ByPlace.{zone_end_law}
use Rattle.walk.proofs.ZonesRead.{zone_sound}
use Rattle.edits.specs.Judge.{pairs_from}
use Rattle.edits.specs.Written.{to_block, written}
use Rattle.writer.specs.Listed.{as_pieces, ZoneDrawing}
use Rattle.writer.specs.declared.Piece as code
use Rattle.writer.specs.Edited.{owned_in_zone, pieces_after, ZoneEdit, zone_after, zone_put}
use Rattle.writer.proofs.WholeZone.{drawing_listed}

module _ {m : List ℕ} {g : Geometry} {z gone : ℕ} {list : List ℕ} {id room : ℕ} (q : ZoneEdit m g z gone list id room) where
  pub block_ends : z * g.sector + g.sector ≤ length m
  block_ends = omega (arith, zone_end_law g.zones g.sector z q.part.zone, q.part.reads.sized)

  pub none_drawn : (change : ℕ) → length list ≡ 0 → m ≡ zone_put g z m (zone_after g z gone list id change (zone_block g m z))
  none_drawn change e = rw (le-ltb 0 (length list) (omega arith)) (sym (put_same (z * g.sector) (z * g.sector + g.sector - z * g.sector) m))

  drawn_is : (change : ℕ) → (length list ≡ 0 → ⊥) → zone_after g z gone list id change (zone_block g m z)
      ≡ written g.idlen (first_bit z) (end_bit g) (map (to_block g z) (pieces_after gone id (pairs_from list) (owned_in_zone g z (zone_block g m z)))) (bit_xor (cross_of (zone_block g m z)) change) (zone_block g m z)
  drawn_is change s = rw (lt-ltb 0 (length list) (omega arith))

  module _ (pieces : List code.Piece) (e : as_pieces pieces ≡ pieces_after gone id (pairs_from list) (owned_in_zone g z (zone_block g m z))) where
    pub zone_drawing : ZoneDrawing g z (zone_block g m z) pieces
    zone_drawing = drawing_listed pieces q.part.reads.numbers q.part.zone (zone_sound q.part.reads z (omega arith) q.part.zone).sized e q.drawable

    pub some_drawn : (change : ℕ) → (length list ≡ 0 → ⊥) → {b : List ℕ}
        → b ≡ written g.idlen (first_bit z) (end_bit g) (map (to_block g z) (as_pieces pieces)) (bit_xor (cross_of (zone_block g m z)) change) (zone_block g m z)
        → zone_put g z m b ≡ zone_put g z m (zone_after g z gone list id change (zone_block g m z))
    some_drawn change s eb =
        let block = zone_block g m z in
        ap (zone_put g z m)
        (eb ∙ ap (λ (ps : List Piece). written g.idlen (first_bit z) (end_bit g) (map (to_block g z) ps) (bit_xor (cross_of block) change) block) e ∙ sym (drawn_is change s))
