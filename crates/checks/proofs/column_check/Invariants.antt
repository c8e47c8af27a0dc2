-- From the last whole word down: k has the column sums of the words passed.
use mathlib.Core.Path.{◌≡◌}
use lib.ListN.{drop}
use Rattle.std.specs.Slice.Iter.{chunks_exact_rest, chunks_exact_size}
use Rattle.std.specs.Iterator.Adapters.{rev_source}
use Rattle.checks.proofs.Sums.{Summed}
use Rattle.checks.proofs.column_check.Given as goal

abbrev pub invariant-loop-word : goal.invariant-loop-word
invariant-loop-word l = record {
  size : chunks_exact_size (rev_source l.word-iterator) ≡ 4;
  summed : Summed (drop 4 l.block) (chunks_exact_rest (rev_source l.word-iterator)) l.k;
}
