-- A bit so far, with what the id has of the lines that are left, is the bit at the start with what it has in all zones.
use mathlib.Core.Path.{ap, ◌∙◌}
use native.Mathlib.Omega.{arith}
use Rattle.walk.specs.LinesLeft.{lines_left}
use Rattle.walk.specs.HeldBy.{held_from}
use Rattle.claim.proofs.Cleared.{none_cleared, line_cleared, all_cleared}
use Rattle.claim.proofs.clear_used.Goals as goal

pub loop-line-init : goal.loop-line-init
loop-line-init c =
    let a = c.args in
    none_cleared a.g a.map.now a.from a.to a.unused.now (ap lines_left c.into_iter-line-iterator.ensures.into_iter_gives ∙ c.lines-line-items.ensures)

pub loop-line-preserved : goal.loop-line-preserved
loop-line-preserved c =
    let a = c.args in
    line_cleared (λ id. held_from a.g id a.map.now 0 a.g.zones) a.from a.to a.unused.now c.loop-line.unused c.clear_id.new.unused c.in-Some.ensures.steps (omega arith) c.clear_id.ensures
    c.loop-line.invariant

pub returns : goal.returns
returns c =
    let a = c.args in
    all_cleared (λ id. held_from a.g id a.map.now 0 a.g.zones) a.from a.to a.unused.now c.loop-line.unused c.in-None.ensures.steps.0 c.loop-line.invariant
