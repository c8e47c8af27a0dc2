-- The words passed are added up, and those still ahead are all of the others.
use Prim.Native.Nat.{◌+◌, ◌*◌, ◌^◌, ◌≤◌}
use mathlib.Core.Path.{◌≡◌}
use lib.ListN.{length}
use Rattle.std.specs.Slice.Iter.{chunks_exact_rest, chunks_exact_size}
use Rattle.bits.specs.Bits.{Bytes}
use Rattle.checks.specs.Words.{words_of}
use Rattle.checks.specs.Sums.{sum_of}
use Rattle.checks.proofs.word_sum.Given as goal

abbrev pub invariant-loop-word : goal.invariant-loop-word
invariant-loop-word l = record {
  size : chunks_exact_size l.word-iterator ≡ 4;
  small : l.t + length (chunks_exact_rest l.word-iterator) * 2 ^ 30 ≤ length l.chunk * 2 ^ 30;
  bytes : Bytes (chunks_exact_rest l.word-iterator);
  sum : sum_of (words_of l.chunk) ≡ l.t + sum_of (words_of (chunks_exact_rest l.word-iterator));
}
