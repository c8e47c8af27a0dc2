-- The lines that stay, as far as the loop has come, are stored.
use mathlib.Core.Path.{◌≡◌}
use mathlib.Core.List.{map}
use lib.ListN.{length, take}
use Rattle.writer.proofs.StayingPieces.{piece_of}
use Rattle.writer.proofs.staying.Given as goal

abbrev pub invariant-loop-line : goal.invariant-loop-line
invariant-loop-line l = record { count : l.n ≡ length l.yielded; stored : take l.n l.buffer ≡ map piece_of l.yielded }
