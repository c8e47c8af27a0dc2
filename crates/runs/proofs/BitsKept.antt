-- Each block of a map after a run keeps every bit after its header that is not an allocation bit, since each block written does.
use mathlib.Core.Path.{◌≡◌, ap, ◌∙◌}
use mathlib.Core.Bool.{false}
use mathlib.Core.List.{List, map}
use mathlib.Core.Option.{none}
use mathlib.Core.Logic.{◌⊎◌}
use Prim.Native.Nat.{ℕ, ◌<◌, ◌≤◌}
use lib.ListN.{get_or}
use Rattle.bits.specs.Bits.{byte_bits, Bytes}
use Rattle.geometry.specs.Record.{geometry_of}
use Rattle.geometry.specs.Places.{first_bit, end_bit}
use Rattle.model.specs.Chain.{Entry, touching}
use Rattle.model.specs.Blocks.{block_at}
use Rattle.model.specs.Answer.{answered}
use Rattle.model.specs.Check.{map_read}
use Rattle.edits.specs.Edits.{in_zone}
use Rattle.edits.specs.Judge.{Call}
use Rattle.edits.proofs.PieceRuns.{run}
use Rattle.edits.specs.Written.{to_block}
use Rattle.edits.specs.Steps.{disc_of, steps}
use Rattle.edits.proofs.BlockKept.{written_outside}
use Rattle.edits.proofs.ZoneDrawable.{zone_drawable}
use Rattle.edits.proofs.DiscKept.{disc_run}
use Rattle.edits.proofs.MapAccepted.{map_geometry, map_disc}
use Rattle.edits.proofs.ZonesAfter.{zone_at, zone_after_law}

module _ (m : List ℕ) (ess : List (List Entry)) (bytes : Bytes m) (accepted : map_read m ≡ answered ess) (apart : touching 0 ess ≡ none) where
  pub outside_kept : (cs : List Call) (z : ℕ) → z < (geometry_of m).zones → (k : ℕ) → 32 ≤ k → (k < first_bit z) ⊎ (end_bit (geometry_of m) ≤ k)
      → get_or (byte_bits (block_at (geometry_of m).sector z (steps m cs))) k false ≡ get_or (byte_bits (block_at (geometry_of m).sector z m)) k false
  outside_kept cs z h k lo o =
      let g = geometry_of m in
      let ok = map_geometry m ess bytes accepted in
      let s = run g (disc_of m ess) cs in
      let fit = (disc_run g ok (disc_of m ess) cs (map_disc m ess bytes accepted)).pieces.fit in
      ap (λ (b : List ℕ). get_or (byte_bits b) k false) (zone_after_law m ess bytes accepted apart cs z h)
      ∙ written_outside g.idlen (first_bit z) (end_bit g) (block_at g.sector z m) (zone_at m ess bytes accepted apart z h).block.bits
      (map (to_block g z) (in_zone g z s.pieces)) (zone_drawable g s.pieces z ok fit h) (get_or s.cross z 0) k lo o
