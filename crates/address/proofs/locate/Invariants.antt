-- What is left of the byte's number is what the pieces so far leave of it.
use mathlib.Core.Path.{◌≡◌}
use mathlib.Core.List.{map}
use Rattle.address.specs.Address.{locate, past}
use Rattle.address.proofs.SeekOn.{piece_of}
use Rattle.address.proofs.locate.Given as goal

abbrev pub invariant-loop-line : goal.invariant-loop-line
invariant-loop-line l = locate l.g.unit (map piece_of l.yielded) l.fn.i ≡ past l.left
