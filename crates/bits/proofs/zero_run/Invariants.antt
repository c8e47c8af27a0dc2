-- The zeros passed and those still ahead are all of them.
use Prim.Native.Nat.{◌+◌, ◌-◌, ◌≤◌}
use mathlib.Core.Path.{◌≡◌}
use lib.Seq.{slice}
use Rattle.bits.specs.Bits.{byte_bits, zeros}
use Rattle.bits.proofs.zero_run.Given as goal

abbrev pub invariant-loop-j : goal.invariant-loop-j
invariant-loop-j l = (l.from ≤ l.j) × (l.j ≤ l.end) × (l.j + zeros (slice l.j l.end (byte_bits l.s)) ≡ l.from + zeros (slice l.from l.end (byte_bits l.s)))

abbrev pub decreases-loop-j : goal.decreases-loop-j
decreases-loop-j l = l.end - l.j
