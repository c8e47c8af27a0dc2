-- The line at which the walk stands is the first that is left, and from the last zone on none is.
use native.Mathlib.Omega.{arith}
use lib.ListN.{length}
use mathlib.Core.Path.{ap}
use Rattle.walk.specs.LinesLeft.{lines_left}
use Rattle.walk.proofs.Remains.{none_remain}
use Rattle.walk.proofs.iter.LinesIterator.next.Goals as goal

pub returns-then-self-clause-steps : goal.returns-then-self-clause-steps
unfolding lines_left
returns-then-self-clause-steps c =
    let s = c.args.self.now in
    let none = none_remain s.map.now s.geometry s.to s.at c.if-self.true in
    (none, none)

pub returns-clause-steps : goal.returns-clause-steps
unfolding lines_left
returns-clause-steps c = c.next-step.ensures.passed c.args.self.now.to c.args.self.now.within c.if-self.false

pub returns-clause-goes : goal.returns-clause-goes
unfolding lines_left
returns-clause-goes c =
    let fewer = ap length (c.next-step.ensures.passed c.args.self.now.to c.args.self.now.within c.if-self.false) in
    record { on = λ _. (tt, tt, omega (arith, fewer)); keeps = tt; rests = λ _. tt }
