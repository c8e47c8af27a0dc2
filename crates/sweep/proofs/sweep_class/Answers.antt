-- The answers of `SweepAnswers` for a holder: 16, and the count.
use Rattle.sweep.proofs.SweepAnswers.{past_disc, held_swept}
use Rattle.sweep.proofs.sweep_class.Goals as goal

pub returns-then-not-lies_on : goal.returns-then-not-lies_on
returns-then-not-lies_on c = past_disc c.requires c.args.holder c.lies_on.ensures c.if-not-lies_on.true c.into.ensures

pub returns-then-holder-eq0 : goal.returns-then-holder-eq0
returns-then-holder-eq0 c = rw c.if-holder-eq0.true (held_swept c.requires 0 c.lies_on.ensures c.if-not-lies_on.false c.sweep_chains-count.ensures)

pub returns-else-holder-eq0 : goal.returns-else-holder-eq0
returns-else-holder-eq0 c = held_swept c.requires c.args.holder c.lies_on.ensures c.if-not-lies_on.false c.sweep_all-count.ensures
