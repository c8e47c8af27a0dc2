-- The first hole among the lines that are left is the zone's.
use mathlib.Core.Path.{sym, ap, ◌∙◌}
use mathlib.Core.List.{List}
use Rattle.edits.specs.Judge.{first_hole}
use Rattle.walk.specs.declared.Line.{Line}
use Rattle.walk.specs.HeldBy.{held_lines}
use Rattle.walk.specs.LinesLeft.{lines_left}
use Rattle.claim.specs.Hole.{hole_of}
use Rattle.claim.proofs.HoleFound.{zone_starts, hole_taken, held_passed, short_passed}
use Rattle.claim.proofs.first_hole.Goals as goal
use Rattle.claim.proofs.first_hole.Goals.{else-line-eq0-via-then-line-eq0+else-need-line, else-line-eq0-via-else-line-eq0}

pub loop-line-init : goal.loop-line-init
loop-line-init c =
    let a = c.args in
    zone_starts a.need c.requires.0 c.requires.1 (ap lines_left c.into_iter-line-iterator.ensures.into_iter_gives ∙ c.lines-line-items.ensures)

pub returns-then-need-line : goal.returns-then-need-line
returns-then-need-line c =
    ap hole_of (sym (hole_taken c.args.need c.in-Some.ensures.steps c.if-line-eq0.true c.if-need-line.true) ∙ c.loop-line.invariant)

pub loop-line-preserved : goal.loop-line-preserved
loop-line-preserved c =
    let n = c.args.need in
    let e = c.in-Some.ensures.steps in
    elim c.else-line-eq0.branch [
      | else-line-eq0-via-then-line-eq0+else-need-line w ↦ sym (short_passed n e w.if-need-line.false) ∙ c.loop-line.invariant
      | else-line-eq0-via-else-line-eq0 w ↦ sym (held_passed n e w.if-line-eq0.false) ∙ c.loop-line.invariant
    ]

pub returns : goal.returns
returns c =
    ap hole_of (sym (ap (λ (ls : List Line). first_hole c.args.need (held_lines 0 ls)) c.in-None.ensures.steps.0) ∙ c.loop-line.invariant)
