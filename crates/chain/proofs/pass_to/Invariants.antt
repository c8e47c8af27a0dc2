-- The spans passed so far, and those ahead, are all of them; each was passed since the next one starts at d or before.
use lib.ListN.{length}
use Rattle.std.specs.Prelude.{Some}
use Rattle.chain.specs.FreeAhead.{free_ahead, PassesTo}
use Rattle.chain.proofs.Ahead.{free_walk}
use Rattle.chain.proofs.pass_to.Given as goal

abbrev pub invariant-loop-linked : goal.invariant-loop-linked
invariant-loop-linked l = PassesTo l.map l.g l.d.0 l.fn.w (free_walk l.zone l.at.0)

abbrev pub decreases-loop-linked : goal.decreases-loop-linked
decreases-loop-linked l = length (free_ahead l.map l.g (Some (free_walk l.zone l.at.0)))
