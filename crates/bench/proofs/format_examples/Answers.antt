-- The table, computed.
use mathlib.Core.Path.{refl}
use lib.Count.{count_trailing_zeros}
use Rattle.checks.specs.Words.{zone_check, words_of, total}
use Rattle.bench.proofs.format_examples.Goals as goal

pub returns : goal.returns
unfolding zone_check words_of total count_trailing_zeros
returns c = refl
