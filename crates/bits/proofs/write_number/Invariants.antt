-- What is left to write, written into the bits so far, is the whole number written.
use Prim.Native.Nat.{◌+◌, ◌-◌, ◌≤◌}
use mathlib.Core.Path.{◌≡◌}
use lib.Seq.{sets}
use Rattle.bits.specs.Bits.{byte_bits, number_bits}
use Rattle.bits.proofs.write_number.Given as goal

abbrev pub invariant-loop-i : goal.invariant-loop-i
invariant-loop-i l = record {
  so_far : l.i ≤ l.n;
  rest : sets (byte_bits l.s) (l.at + l.i) (number_bits (l.n - l.i) l.w) ≡ sets (byte_bits l.initial.s) l.at (number_bits l.n l.v);
}

abbrev pub decreases-loop-i : goal.decreases-loop-i
decreases-loop-i l = l.n - l.i
