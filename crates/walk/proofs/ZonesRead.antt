-- The zones of a map that can be read: each one's block keeps the rules and has few fragments.
use Prim.Native.Nat.{ℕ, ◌*◌, ◌<◌, ◌≤◌}
use native.Mathlib.Omega.{arith}
use mathlib.Core.List.{List}
use lib.ListN.{length}
use Rattle.geometry.specs.declared.Geometry.{Geometry}
use Rattle.model.specs.Rules.{zone_block}
use Rattle.model.proofs.ByPlace.{block_length}
use Rattle.zone.specs.Lines.{entries_in}
use Rattle.zone.proofs.FewFragments.{few}
use Rattle.map.specs.Accepted.{ReadableFrom, AcceptedMap}
use Rattle.walk.specs.SoundZone.{SoundZone}

-- a zone that keeps the rules has few fragments
pub few_entries : {g : Geometry} {z : ℕ} {b : List ℕ} → SoundZone g z b → 3 * length (entries_in g z b) ≤ 2048
few_entries {g} {z} {b} r = few g r.numbers b r.sized z r.kept

module _ {m : List ℕ} {g : Geometry} {from : ℕ} (a : ReadableFrom m g from) where
  pub zone_sound : (z : ℕ) → from ≤ z → z < g.zones → SoundZone g z (zone_block g m z)
  zone_sound z l h = record {
    numbers = a.numbers;
    zone = h;
    sized = block_length m g.zones g.sector a.sized z h;
    kept = a.reads z l h;
  }

  -- from a later zone on
  pub reads_on : (z : ℕ) → from ≤ z → ReadableFrom m g z
  reads_on z l = record { numbers = a.numbers; sized = a.sized; reads = λ y k h. a.reads y (omega arith) h }

pub reads_from : {m : List ℕ} {g : Geometry} → AcceptedMap m g → (z : ℕ) → ReadableFrom m g z
reads_from a z = reads_on a.readable z (omega arith)

pub zone_reads : {m : List ℕ} {g : Geometry} → AcceptedMap m g → (z : ℕ) → z < g.zones → SoundZone g z (zone_block g m z)
zone_reads a z h = zone_sound a.readable z (omega arith) h
