-- One zone mended: the pieces that it has are listed, and its block is drawn from the list, in the map or in a copy of the block.
use mathlib.Core.List.{List}
use Prim.Native.Nat.{ℕ, ◌+◌, ◌*◌, ◌<◌, ◌≤◌}
use native.Mathlib.Omega.{arith}
use lib.ListN.{length}
use Rattle.geometry.specs.declared.Geometry.{Geometry}
use Rattle.model.proofs.ByPlace.{zone_end_law}
use Rattle.map.specs.Accepted.{ReadableFrom}

-- a zone's block ends within the map
pub block_ends : {m : List ℕ} {g : Geometry} {from z : ℕ} → ReadableFrom m g from → z < g.zones → z * g.sector + g.sector ≤ length m
block_ends {g = g} {z = z} a h = omega (arith, zone_end_law g.zones g.sector z h, a.sized)
