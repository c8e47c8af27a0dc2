-- A store past the end leaves the list as it is.
use mathlib.Core.Path.{sym}
use lib.Seq.{set_out}
use Rattle.mend.proofs.put.Goals as goal

pub returns-then-list-n-clause-list : goal.returns-then-list-n-clause-list
returns-then-list-n-clause-list c = let a = c.args in sym (set_out a.list.now a.n a.position c.if-list-n.true)
