-- What an accepted record gives the layers above: the bounds that their arithmetic needs, with room for 65,535 zones and
-- ids of 19 bits, and how the numbers hang together. A geometry that was not read from a record may lack all of this,
-- so code that needs it says so. Assumes nothing.
use Rattle.std.specs.Prelude.{◌≡◌, ◌+◌, ◌-◌, ◌*◌, ◌/◌, ◌%◌, ◌^◌, ◌<◌, ◌≤◌}
use Rattle.geometry.specs.declared.Geometry.{Geometry}

-- numbers small enough to be multiplied: what the fields alone give
pub record SmallNumbers (g : Geometry) : Type 0 where
  pub sector_low : 1 ≤ g.sector
  pub idlen_high : g.idlen ≤ 19
  pub unit_high : g.unit ≤ 4096
  pub zones_high : g.zones < 65536
  pub cluster_low : 1 ≤ g.cluster
  pub bits_high : g.bits ≤ 8192
  pub shortest_high : g.shortest ≤ 2048
  pub ids_high : g.ids ≤ 8192

pub record AcceptedGeometry (g : Geometry) : Type 0 where
  -- bounds
  pub sector_low : 256 ≤ g.sector
  pub sector_high : g.sector ≤ 1024
  pub sector_words : g.sector % 4 ≡ 0
  pub idlen_low : 11 ≤ g.idlen
  pub idlen_high : g.idlen ≤ 19
  pub unit_low : 128 ≤ g.unit
  pub unit_high : g.unit ≤ 4096
  pub zones_low : 1 ≤ g.zones
  pub zones_high : g.zones < 65536
  pub cluster_low : 1 ≤ g.cluster
  pub cluster_high : g.cluster ≤ 8
  pub bits_low : 480 + g.shortest ≤ g.bits
  pub bits_high : g.bits ≤ 8160
  -- a zone's bits lie within its block, after the header
  pub bits_in_block : 32 + g.bits ≤ 8 * g.sector
  -- a link reaches every bit of a block
  pub links_reach : 8 * g.sector ≤ 2 ^ g.idlen
  -- clusters: every zone starts and ends with one
  pub bits_clusters : g.bits % g.cluster ≡ 0
  pub header_clusters : 32 % g.cluster ≡ 0
  pub record_clusters : 480 % g.cluster ≡ 0
  -- the shortest fragment holds an id and a closing bit, in whole clusters
  pub shortest_low : g.idlen + 1 ≤ g.shortest
  pub shortest_high : g.shortest ≤ g.idlen + g.cluster
  pub shortest_clusters : g.shortest % g.cluster ≡ 0
  -- ids
  pub ids_are : g.ids ≡ g.bits / (g.idlen + 1)
  pub ids_low : 25 ≤ g.ids
  pub ids_high : g.ids ≤ 680
  pub ids_fit : g.ids * g.zones ≤ 2 ^ g.idlen
  -- the disc's end
  pub size_low : 0 < g.size
  pub size_sectors : g.size % g.sector ≡ 0
  pub size_high : g.size ≤ (g.zones * g.bits - 480) * g.unit
  pub end_is : g.end.0 ≡ g.size / g.unit
  pub end_high : g.end.0 ≤ g.zones * g.bits - 480
