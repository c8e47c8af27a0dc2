-- What is stored so far, with the pairs of the lines that are left stored after it, is all pairs stored.
use mathlib.Core.Path.{ap, ◌∙◌}
use Rattle.walk.specs.LinesLeft.{lines_left}
use Rattle.walk.proofs.HeldLines.{held_some, held_line}
use Rattle.listing.proofs.Stored.{stored_starts, piece_room, piece_stored}
use Rattle.listing.proofs.write_held.Goals as goal

pub loop-line-init : goal.loop-line-init
loop-line-init c =
    let a = c.args in
    let e = ap lines_left c.into_iter-line-iterator.ensures.into_iter_gives ∙ c.lines-line-items.ensures in
    stored_starts a.pairs.now a.at (held_some a.holder a.g a.map.now a.from a.to e)

pub put_if-i-requires : goal.put_if-i-requires
put_if-i-requires c =
    piece_room c.loop-line.invariant _ _ _ _ (held_line c.args.holder c.in-Some.ensures.steps) c.requires.3

pub loop-line-preserved : goal.loop-line-preserved
loop-line-preserved c =
    piece_stored c.loop-line.invariant _ _ _ _ (held_line c.args.holder c.in-Some.ensures.steps) c.put_if-i.ensures.list c.put_if-i.ensures.next
