-- A whole zone: pieces that are listed can be drawn, and drawn and sealed it is the block that `written` says.
use mathlib.Core.Path.{◌≡◌, subst⁻¹}
use mathlib.Core.List.{List, map}
use Prim.Native.Nat.{ℕ, ◌-◌, ◌<◌}
use native.Mathlib.Omega.{arith}
use lib.Bits.{bit_xor}
use lib.ListN.{length, drop}
use Rattle.bits.specs.Bits.{byte_bits, Bytes}
use Rattle.checks.specs.Cross.{cross_of}
use Rattle.geometry.specs.declared.Geometry.{Geometry}
use Rattle.geometry.specs.declared.BlockBit.{BlockBit}
use Rattle.geometry.specs.Accepted.{AcceptedGeometry}
use Rattle.geometry.specs.Places.{first_bit, end_bit}
use Rattle.geometry.proofs.DiscBits.{first_low}
use Rattle.model.specs.Drawing.{Drawable}
use Rattle.model.specs.Pieces.{Piece}
use Rattle.edits.specs.Written.{to_block, sealed}
use Rattle.zone.proofs.AllocBits.{first_high}
use Rattle.writer.specs.Listed.{as_pieces, ZoneDrawing, ZoneRedrawn, zone_drawn}
use Rattle.writer.specs.declared.Piece as code
use Rattle.writer.proofs.Sealed.{sealed_written}

pub drawing_listed : {g : Geometry} {z : ℕ} {block : List ℕ} {ps : List Piece} (pieces : List code.Piece) → AcceptedGeometry g → z < g.zones → length block ≡ g.sector
    → as_pieces pieces ≡ ps → Drawable g.idlen (first_bit z) (end_bit g) (map (to_block g z) ps) → ZoneDrawing g z block pieces
drawing_listed {g} {z} pieces ok h l e d =
    record { numbers = ok; zone = h; sized = l; drawable = subst⁻¹ (λ (ps : List Piece). Drawable g.idlen (first_bit z) (end_bit g) (map (to_block g z) ps)) e d }

module _ {g : Geometry} {z : ℕ} {block : List ℕ} {pieces : List code.Piece} (q : ZoneDrawing g z block pieces) where
  pub zone_written : (w : List ℕ) {first : BlockBit} (change : ℕ) → length w ≡ length block → Bytes block → Bytes w
      → ZoneRedrawn g z (as_pieces pieces) (byte_bits block) (byte_bits w) first
      → sealed (first.0 - 8) (bit_xor (cross_of w) change) (drop 4 w) ≡ zone_drawn g z (as_pieces pieces) change block
  zone_written w {first} change l bs bw d =
      sealed_written block w g.idlen (first_bit z) (end_bit g) first.0 change (map (to_block g z) (as_pieces pieces)) (omega (arith, q.sized, q.numbers.sector_low)) l bs bw
      (first_low z) (omega (arith, first_high z, q.numbers.bits_low, q.numbers.shortest_low)) (omega (arith, q.sized, q.numbers.bits_in_block)) d
