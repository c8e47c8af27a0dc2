-- Places on the disc (document 01, "Bits, fragments, chains"). A block bit counts within a zone's block, a disc bit
-- over the disc; the one formula between them is z*Z + b - 512. Assumes nothing.
use Rattle.std.specs.Prelude.{Bool, cond, ◌&&◌, ℕ, suc, ◌+◌, ◌-◌, ◌*◌, ◌/◌, eqb, ltb, leb}
use Rattle.geometry.specs.declared.Geometry.{Geometry}

-- "Allocation bits run from block bit 512 in zone 0, or 32 in any other zone, up to but not including 32+Z."
abbrev pub first_bit : ℕ → ℕ
first_bit z = cond (eqb z 0) 512 32

abbrev pub end_bit : Geometry → ℕ
end_bit g = 32 + g.bits

-- "Block bit b of zone z is disc bit z*Z + b - 512"
abbrev pub disc_bit : Geometry → ℕ → ℕ → ℕ
disc_bit g z b = z * g.bits + b - 512

abbrev pub block_bit : Geometry → ℕ → ℕ → ℕ
block_bit g z d = d + 512 - z * g.bits

-- the zone of a disc bit: zone 0 is 480 bits short
abbrev pub zone_of : Geometry → ℕ → ℕ
zone_of g d = (d + 480) / g.bits

-- the disc bits of a zone, and of the whole map
abbrev pub zone_from : Geometry → ℕ → ℕ
zone_from g z = z * g.bits - 480

abbrev pub zone_end : Geometry → ℕ → ℕ
zone_end g z = suc z * g.bits - 480

abbrev pub disc_bits : Geometry → ℕ
disc_bits g = g.zones * g.bits - 480

-- "the start zone is id div P (for object 2, nzones div 2)"
abbrev pub start_zone : Geometry → ℕ → ℕ
start_zone g id = cond (eqb id 2) (g.zones / 2) (id / g.ids)

-- an id from `low` to P*nzones - 1
abbrev pub id_from : ℕ → Geometry → ℕ → Bool
id_from low g id = leb low id && ltb id (g.ids * g.zones)
