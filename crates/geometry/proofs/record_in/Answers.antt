-- Each field is read at its offset.
use borrow.Author.Rules.{rules}
use Rattle.geometry.proofs.record_in.Goals as goal

pub returns : goal.returns
returns c = (cc, search rules, search rules)
