-- The zones of a blank map drawn one by one. A zone to come is still blank: its cross check is 0, and the pieces that are in it can be drawn. Where
-- all zones are done the map is the one that is written from the pieces and cross checks.
use mathlib.Core.Path.{◌≡◌, refl, sym, ap, ◌∙◌, subst⁻¹}
use mathlib.Core.List.{List, ◌∷◌}
use Prim.Native.Nat.{ℕ, zero, suc, ◌+◌, ◌-◌, ◌*◌, ◌<◌, ◌≤◌}
use native.Mathlib.Omega.{arith}
use lib.Bits.{bit_xor, xor_zero_l}
use lib.ListN.{length, get_or, replicate}
use lib.Seq.{get_or-take, get_or-drop, get_or-append-add}
use borrow.Author.Tests.{ne_eqb}
use Rattle.checks.specs.Cross.{cross_of}
use Rattle.geometry.specs.declared.DiscRecord.{DiscRecord}
use Rattle.geometry.specs.declared.Geometry.{Geometry}
use Rattle.geometry.specs.Accepted.{AcceptedGeometry}
use Rattle.model.specs.Rules.{zone_block}
use Rattle.edits.specs.Edits.{in_zone}
use Rattle.edits.specs.Written.{zone_written}
use Rattle.edits.proofs.StepWritten.{MapOf, length_new_map, block_new}
use Rattle.edits.proofs.WrittenBelow.{WrittenBelow, next_block, written_ends, written_turn}
use Rattle.edits.proofs.ZoneDrawable.{zone_drawable}
use Rattle.writer.specs.Listed.{zone_drawn}
use Rattle.formatted.specs.Blank.{record_bytes, blank_map}
use Rattle.formatted.specs.Drawn.{map_length, blank_pieces, blank_cross, blank_disc}
use Rattle.format.specs.Zones.{cross_at, BlankOn, ZoneBlank, zone_formatted, zones_formatted}
use Rattle.format.proofs.BlankDiscs.{map_of, pieces_stand}

only_zero : (n i : ℕ) → get_or {A = ℕ} (replicate n 0) i 0 ≡ 0
only_zero zero i = refl
only_zero (suc n) zero = refl
only_zero (suc n) (suc i) = only_zero n i

-- the cross checks that are drawn
cross_at_law : (zones z : ℕ) → get_or (blank_cross zones) z 0 ≡ cross_at z
cross_at_law zones zero = refl
cross_at_law zones (suc z) = only_zero (zones - 1) z ∙ rw (ne_eqb (suc z) 0 (λ e. omega arith))

-- the bytes past the record of a blank map, and byte 3 of each block of it
past_record : (r : DiscRecord) (n i : ℕ) → 64 ≤ i → get_or (blank_map r n) i 0 ≡ 0
past_record r n i h =
    let front : List ℕ = 0 ∷ 0 ∷ 0 ∷ 0 ∷ record_bytes r in
    let e : i ≡ length front + (i - 64) = omega arith in
    ap (λ (k : ℕ). get_or (blank_map r n) k 0) e ∙ get_or-append-add front (replicate (n - 64) 0) (i - 64) 0 ∙ only_zero (n - 64) (i - 64)

byte_three : (r : DiscRecord) (n size z : ℕ) → 64 ≤ size → get_or (blank_map r n) (z * size + 3) 0 ≡ 0
byte_three r n size zero h = let e : 0 * size + 3 ≡ 3 = omega arith in ap (λ (k : ℕ). get_or (blank_map r n) k 0) e
byte_three r n size (suc z) h = past_record r n (suc z * size + 3) (omega arith)

-- the zones in turn
module _ {m : List ℕ} {g : Geometry} (a : BlankOn m g) where
  start : MapOf g m
  start = subst⁻¹ (MapOf g) a.bytes (map_of a.blank)

  pub numbers : AcceptedGeometry g
  numbers = start.accepted

  cross_zero : (z : ℕ) → cross_of (zone_block g m z) ≡ 0
  cross_zero z =
      let l : 3 < z * g.sector + g.sector - z * g.sector = omega (arith, numbers.sector_low) in
      get_or-take (z * g.sector + g.sector - z * g.sector) _ 3 0 l ∙ get_or-drop (z * g.sector) m 3 0
      ∙ ap (λ (x : List ℕ). get_or x (z * g.sector + 3) 0) a.bytes ∙ byte_three a.disc (map_length g) g.sector z (omega (arith, numbers.sector_low))

  long : length (zones_formatted g m) ≡ g.zones * g.sector
  long = length_new_map g m start (blank_disc g)

  block_drawn : (z : ℕ) → z < g.zones → zone_drawn g z (in_zone g z (blank_pieces g)) (cross_at z) (zone_block g m z) ≡ zone_block g (zones_formatted g m) z
  block_drawn z h =
      ap (λ (c : ℕ). zone_written g z (in_zone g z (blank_pieces g)) c (zone_block g m z))
      (ap (λ (c : ℕ). bit_xor c (cross_at z)) (cross_zero z) ∙ xor_zero_l (cross_at z) ∙ sym (cross_at_law g.zones z))
      ∙ sym (block_new g m start (blank_disc g) z (pieces_stand a.blank).count h)

  module _ {now : List ℕ} {z : ℕ} (w : WrittenBelow g.sector g.zones (zones_formatted g m) m now z) where
    pub drawing_ends : g.zones ≤ z → now ≡ zones_formatted g m
    drawing_ends l = written_ends w start.whole long l

    module _ (h : z < g.zones) where
      pub next_blank : ZoneBlank now g z
      next_blank = record {
        numbers = numbers;
        zone = h;
        sized = w.kept ∙ start.whole;
        drawable = zone_drawable g (blank_pieces g) z numbers (pieces_stand a.blank).pieces.fit h;
      }

      pub drawing_turn : {next : List ℕ} → next ≡ zone_formatted g z now → WrittenBelow g.sector g.zones (zones_formatted g m) m next (z + 1)
      drawing_turn en =
          written_turn w start.whole long h (ap (zone_drawn g z (in_zone g z (blank_pieces g)) (cross_at z)) (next_block w h) ∙ block_drawn z h) en
