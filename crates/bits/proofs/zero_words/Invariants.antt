-- The zeros of the words passed and those still ahead are all of them.
use Prim.Native.Nat.{◌+◌, ◌*◌}
use mathlib.Core.Path.{◌≡◌}
use lib.Seq.{slice}
use Rattle.bits.specs.Bits.{byte_bits, zeros}
use Rattle.bits.proofs.zero_words.Given as goal

abbrev pub invariant-loop-n : goal.invariant-loop-n
invariant-loop-n l = zeros (slice l.j l.end (byte_bits l.s)) ≡ 64 * l.n + zeros (slice (l.j + 64 * l.n) l.end (byte_bits l.s))
