-- The product is small.
use native.Mathlib.Omega.{arith}
use Rattle.geometry.proofs.DiscBits.{zone_bits_small}
use Rattle.geometry.proofs.Geometry.block_bit.Goals as goal

pub overflow_mul-z : goal.overflow_mul-z
overflow_mul-z c = omega (arith, zone_bits_small c.args.self c.requires.0 c.args.z c.requires.1)
