-- The map's bits are few, and zone 0 alone has 480 and more.
use native.Mathlib.Omega.{arith}
use Rattle.geometry.proofs.DiscBits.{zone_bits_small, map_bits_low}
use Rattle.geometry.proofs.Geometry.disc_bits.Goals as goal

pub overflow_mul-result : goal.overflow_mul-result
overflow_mul-result c = omega (arith, zone_bits_small c.args.self c.requires c.args.self.zones (omega arith))

pub overflow_sub-result : goal.overflow_sub-result
overflow_sub-result c = omega (arith, map_bits_low c.args.self c.requires)
