-- The writer gives the list as a place does (`ListGiven`).
use Rattle.claim.proofs.ListGiven.{asks, given}
use borrow.Author.Rules.{rules}
use Rattle.claim.proofs.give.Goals as goal

pub edit_map-requires : goal.edit_map-requires
edit_map-requires c = (asks c.requires, search rules)

pub returns : goal.returns
returns c = given c.requires c.edit_map.ensures
