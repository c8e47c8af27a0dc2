-- What holds of an accepted map: what every call after the check leans on. Assumes nothing.
use Rattle.std.specs.Prelude.{◌≡◌, List, ℕ, ◌*◌, ◌<◌, ◌≤◌, length}
use Rattle.geometry.specs.declared.Geometry.{Geometry}
use Rattle.geometry.specs.Record.{geometry_of}
use Rattle.geometry.specs.Accepted.{AcceptedGeometry}
use Rattle.model.specs.Chain.{Entry}
use Rattle.model.specs.Rules.{zone_block}
use Rattle.model.specs.Answer.{answered}
use Rattle.model.specs.Check.{map_read, mend_read}
use Rattle.zone.specs.Lines.{IsRead}

-- The zones from `from` on keep the rules of 6, 5 and 7: what a walk over them and the drawing of one needs. Zone checks, cross checks
-- and touching free fragments have no part in it.
pub record ReadableFrom (m : List ℕ) (g : Geometry) (from : ℕ) : Type 0 where
  pub numbers : AcceptedGeometry g
  pub sized : length m ≡ g.zones * g.sector
  pub reads : (z : ℕ) → from ≤ z → z < g.zones → IsRead g z (zone_block g m z)

-- the whole map, and the checks on top
pub record AcceptedMap (m : List ℕ) (g : Geometry) : Type 0 where
  pub geometry : g ≡ geometry_of m
  pub readable : ReadableFrom m g 0
  pub zones : List (List Entry)
  pub read : map_read m ≡ answered zones

-- a map that the mender mends: right but for checks and for free fragments that touch (document 02, R-9)
pub record MendableMap (m : List ℕ) (g : Geometry) : Type 0 where
  pub geometry : g ≡ geometry_of m
  pub readable : ReadableFrom m g 0
  pub zones : List (List Entry)
  pub read : mend_read m ≡ answered zones
