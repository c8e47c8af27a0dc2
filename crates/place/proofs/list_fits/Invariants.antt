-- The pairs that are left fit from place `from` on exactly where all pairs fit.
use mathlib.Core.Path.{◌≡◌}
use Rattle.edits.specs.Judge.{pairs_from}
use Rattle.writer.specs.Parts.{fits_from}
use Rattle.place.proofs.list_fits.Given as goal

abbrev pub invariant-loop-pair : goal.invariant-loop-pair
invariant-loop-pair l = fits_from l.g l.start l.from (pairs_from l.pair-iterator.0.now) ≡ fits_from l.g l.start 0 (pairs_from l.list)
