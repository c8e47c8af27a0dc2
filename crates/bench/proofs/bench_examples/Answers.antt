-- The table, computed.
use mathlib.Core.Path.{refl}
use Rattle.checks.specs.Words.{zone_check, words_of, total}
use Rattle.bench.proofs.bench_examples.Goals as goal

pub returns : goal.returns
unfolding zone_check words_of total
returns c = refl
