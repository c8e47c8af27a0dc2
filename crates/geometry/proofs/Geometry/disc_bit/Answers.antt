-- The product is small, and no bit of a zone lies before disc bit 0.
use native.Mathlib.Omega.{arith}
use Rattle.geometry.proofs.DiscBits.{zone_bits_small, from_zero_on}
use Rattle.geometry.proofs.Geometry.disc_bit.Goals as goal

pub overflow_mul-result : goal.overflow_mul-result
overflow_mul-result c = omega (arith, zone_bits_small c.args.self c.requires.0 c.args.z c.requires.1)

pub overflow_add-result : goal.overflow_add-result
overflow_add-result c = omega (arith, zone_bits_small c.args.self c.requires.0 c.args.z c.requires.1)

pub overflow_sub-result : goal.overflow_sub-result
overflow_sub-result c = omega (arith, from_zero_on c.args.self c.requires.0 c.args.z c.args.b.0 c.requires.2)

pub overflow_cast-result : goal.overflow_cast-result
overflow_cast-result c = omega (arith, zone_bits_small c.args.self c.requires.0 c.args.z c.requires.1, c.requires.0.bits_high)
