-- The check's refusal, or where an accepted map's copies lie.
use Rattle.listing.proofs.Answers.{accepted_by}
use Rattle.copies.proofs.Answers.{map_not_read, copies_told}
use Rattle.copies.proofs.copy_addresses.Goals as goal

pub returns-in_err-g : goal.returns-in_err-g
returns-in_err-g c = map_not_read c.args.map.now c.check.ensures.answer c.in_err-g.was c.from_residual.ensures

pub addresses_of-requires : goal.addresses_of-requires
addresses_of-requires c = (accepted_by {m = c.args.map.now} c.check.ensures.answer c.in_ok-g.was).readable.numbers

pub returns : goal.returns
returns c = copies_told c.args.map.now c.check.ensures.answer c.in_ok-g.was c.addresses_of.ensures
