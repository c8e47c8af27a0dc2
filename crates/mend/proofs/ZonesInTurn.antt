-- The zones of a map mended one by one. A zone to come is still the old one, so it can be read, and drawn from the pieces that it has.
-- Where all zones are done the map is the mended one.
use mathlib.Core.Path.{◌≡◌, sym, ap, ap₂, ◌∙◌, subst⁻¹}
use mathlib.Core.List.{List, map}
use Prim.Native.Nat.{ℕ, ◌+◌, ◌*◌, ◌<◌, ◌≤◌}
use native.Mathlib.Omega.{arith}
use lib.ListN.{length}
use Rattle.bits.specs.Bits.{Bytes}
use Rattle.geometry.specs.declared.Geometry.{Geometry}
use Rattle.geometry.specs.Places.{first_bit, end_bit}
use Rattle.model.specs.Drawing.{Drawable}
use Rattle.model.specs.Rules.{zone_block}
use Rattle.zone.specs.Lines.{IsRead}
use Rattle.map.specs.Accepted.{ReadableFrom, MendableMap}
use Rattle.edits.specs.Edits.{without}
use Rattle.edits.specs.Written.{to_block}
use Rattle.edits.proofs.WrittenBelow.{WrittenBelow, next_block, written_ends, written_turn}
use Rattle.writer.specs.Listed.{zone_drawn}
use Rattle.writer.specs.Edited.{owned_in_zone, zone_put}
use Rattle.mended.specs.Mended.{mended}
use Rattle.mend.specs.Zones.{change_of, ZoneMend, block_mended}
use Rattle.mend.proofs.ZonesMended.{lack_of, MendedZones, mended_zones}

module _ {m : List ℕ} {g : Geometry} (a : MendableMap m g) (bytes : Bytes m) where
  zones : MendedZones m g
  zones = mended_zones a bytes

  whole : length m ≡ g.zones * g.sector
  whole = a.readable.sized

  -- a zone whose block is the old one
  module _ (now : List ℕ) (z : ℕ) (same : zone_block g now z ≡ zone_block g m z) (h : z < g.zones) where
    pub zone_mend : ReadableFrom now g z → {room : ℕ} → 682 ≤ room → ZoneMend now g z room
    zone_mend reads r = record {
      reads = reads;
      zone = h;
      fits = r;
      drawable = subst⁻¹ (λ (b : List ℕ). Drawable g.idlen (first_bit z) (end_bit g) (map (to_block g z) (without 0 (owned_in_zone g z b)))) same (zones.drawable z h);
    }

    pub zone_mended : {change lack : ℕ} → lack ≡ lack_of g m → change ≡ change_of z lack → block_mended g now z change ≡ zone_block g (mended m) z
    zone_mended el ec =
        ap₂ (λ (b : List ℕ) (x : ℕ). zone_drawn g z (without 0 (owned_in_zone g z b)) x b) same (ec ∙ ap (change_of z) el)
        ∙ sym (zones.block z h)

  module _ {now : List ℕ} {z : ℕ} (w : WrittenBelow g.sector g.zones (mended m) m now z) where
    pub mending_ends : g.zones ≤ z → now ≡ mended m
    mending_ends l = written_ends w whole zones.long l

    module _ (h : z < g.zones) where
      old_block : zone_block g now z ≡ zone_block g m z
      old_block = next_block w h

      pub next_mend : {room : ℕ} → 682 ≤ room → ZoneMend now g z room
      next_mend r = zone_mend now z old_block h (record {
        numbers = a.readable.numbers;
        sized = w.kept ∙ whole;
        reads = λ y l u. subst⁻¹ (IsRead g y) (w.left y l u) (a.readable.reads y (omega arith) u);
      }) r

      pub mending_turn : {change lack : ℕ} {next : List ℕ} → lack ≡ lack_of g m → change ≡ change_of z lack → next ≡ zone_put g z now (block_mended g now z change)
          → WrittenBelow g.sector g.zones (mended m) m next (z + 1)
      mending_turn el ec en = written_turn w whole zones.long h (zone_mended now z old_block h el ec) en
