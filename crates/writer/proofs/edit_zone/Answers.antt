-- Without pairs the map stays (`ZoneEdited`).
use mathlib.Core.Path.{sym}
use lib.ListN.{length}
use borrow.Author.Tests.{eqb-true}
use Rattle.writer.proofs.ZoneEdited.{none_drawn}
use Rattle.writer.proofs.edit_zone.Goals as goal

pub returns-then-is_empty : goal.returns-then-is_empty
returns-then-is_empty c = none_drawn c.requires c.args.change (eqb-true (length c.args.list.now) 0 (sym c.if-is_empty.ensures))
