-- A line's pair is swept where the line is the holder's.
use mathlib.Core.Path.{ap, ◌∙◌}
use native.Mathlib.Omega.{arith}
use Rattle.walk.specs.LinesLeft.{lines_left}
use Rattle.walk.proofs.HeldLines.{held_whole}
use Rattle.sweep.proofs.SweptOn.{starts}
use Rattle.sweep.proofs.Walks.{count_fits, holders_line, other_line}
use Rattle.sweep.proofs.sweep_all.Goals as goal

pub loop-line-init : goal.loop-line-init
loop-line-init c =
    let a = c.args in
    starts a.stretch.now (held_whole a.holder a.g a.map.now a.g.zones (ap lines_left c.into_iter-line-iterator.ensures.into_iter_gives ∙ c.lines-line-items.ensures))

pub overflow_add-count : goal.overflow_add-count
overflow_add-count c =
    omega (arith, count_fits c.requires.0 c.args.holder (holders_line c.loop-line.invariant c.in-Some.ensures.steps c.if-line-holder.true c.sweep-count.ensures) c.requires.1)

pub loop-line-preserved-then-line-holder : goal.loop-line-preserved-then-line-holder
loop-line-preserved-then-line-holder c = holders_line c.loop-line.invariant c.in-Some.ensures.steps c.if-line-holder.true c.sweep-count.ensures

pub loop-line-preserved : goal.loop-line-preserved
loop-line-preserved c = other_line c.loop-line.invariant c.in-Some.ensures.steps c.if-line-holder.false
