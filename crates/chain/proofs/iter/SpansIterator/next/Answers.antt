-- The walk stands at the first span that is left.
use Rattle.chain.proofs.Stands.{stands_free}
use Rattle.chain.proofs.iter.SpansIterator.next.Goals as goal

pub step-after-requires : goal.step-after-requires
step-after-requires c = stands_free c.args.self.now.stands c.in_ok-self.was
