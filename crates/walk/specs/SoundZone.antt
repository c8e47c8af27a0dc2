-- A zone's block that keeps the rules. Assumes nothing.
use Rattle.std.specs.Prelude.{◌≡◌, List, ℕ, ◌<◌, length}
use Rattle.geometry.specs.declared.Geometry.{Geometry}
use Rattle.geometry.specs.Accepted.{AcceptedGeometry}
use Rattle.zone.specs.Lines.{IsRead}

pub record SoundZone (g : Geometry) (z : ℕ) (block : List ℕ) : Type 0 where
  pub numbers : AcceptedGeometry g
  pub zone : z < g.zones
  pub sized : length block ≡ g.sector
  pub kept : IsRead g z block
