-- The pieces from the index on lie apart from `at` on exactly where all do.
use mathlib.Core.Path.{◌≡◌}
use Prim.Native.Nat.{◌<◌}
use lib.ListN.{drop}
use Rattle.edits.specs.Holes.{apart}
use Rattle.writer.specs.Listed.{as_pieces}
use Rattle.place.proofs.pieces_apart.Given as goal

abbrev pub invariant-loop-piece : goal.invariant-loop-piece
invariant-loop-piece l = (l.at < 8589934592) × (apart l.m l.at l.to.0 (as_pieces (drop l.piece-index l.pieces)) ≡ apart l.m l.initial.at l.to.0 (as_pieces l.pieces))
