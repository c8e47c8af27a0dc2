-- t is what is left, once carries are added, of the plain sum of the words passed: what all have over those still ahead.
use Prim.Native.Nat.{◌-◌, ◌^◌, ◌<◌, ◌≤◌}
use mathlib.Core.Path.{◌≡◌}
use lib.ListN.{drop}
use Rattle.std.specs.Slice.Iter.{chunks_rest, chunks_size}
use Rattle.checks.specs.Words.{words_of}
use Rattle.checks.specs.Sums.{sum_of}
use Rattle.checks.proofs.Carries.{Carried}
use Rattle.checks.proofs.zone_check.Given as goal

abbrev pub invariant-loop-chunk : goal.invariant-loop-chunk
invariant-loop-chunk l = record {
  size : chunks_size l.chunk-iterator ≡ 4096;
  small : l.t < 2 ^ 44;
  ahead : sum_of (words_of (chunks_rest l.chunk-iterator)) ≤ sum_of (words_of (drop 4 l.block));
  carried : Carried (sum_of (words_of (drop 4 l.block)) - sum_of (words_of (chunks_rest l.chunk-iterator))) l.t;
}
