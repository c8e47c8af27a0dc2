-- The address lies on the disc, so its bit lies on the map or just past it.
use native.Mathlib.Omega.{arith}
use Rattle.geometry.proofs.DiscBits.{disc_bits_small}
use Rattle.sweep.proofs.Bounds.{bit_on_map}
use Rattle.sweep.proofs.bit_at.Goals as goal

pub overflow_cast-result : goal.overflow_cast-result
overflow_cast-result c = omega (arith, bit_on_map c.args.g c.requires.0 c.args.address c.requires.1, disc_bits_small c.args.g c.requires.0)
