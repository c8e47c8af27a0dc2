-- The byte is sought line by line, in the order of the object's pieces.
use mathlib.Core.Path.{refl, ap, ◌∙◌}
use lib.Dec.{eqb}
use borrow.Author.Tests.{tests}
use Rattle.std.proofs.Common.{rules}
use native.Mathlib.Omega.{arith}
use Rattle.std.proofs.lemmas.Iterator.Consumers.{YieldsList-at, YieldsList-from_first, YieldsList-from_chain, YieldsList-from_filter}
use Rattle.walk.specs.LinesLeft.{lines_left}
use Rattle.walk.specs.HeldBy.{held_in_order}
use Rattle.address.proofs.SeekOn.{NextSays, next_line, line_passed}
use Rattle.address.proofs.locate.Goals as goal
use Rattle.address.proofs.locate.Goals.{After-next}

-- what the next line says of the byte
next : (c : After-next) → let a = c.args in NextSays a.g.unit (held_in_order a.g a.id a.map.now a.start) a.i c.loop-line.left c.next.result
next c =
    let a = c.args in
    next_line a.g a.id a.map.now a.start a.i
    (ap lines_left c.chain.ensures.first ∙ c.lines-late.ensures) (ap lines_left c.chain.ensures.second ∙ c.lines-early.ensures)
    _ c.loop-line.yielded c.loop-line.yielded_by c.loop-line.invariant _
    (YieldsList-at c.into_iter-line-iterator.ensures.into_iter_gives
    (YieldsList-from_filter _ (λ l. eqb l.holder a.id)
    (YieldsList-at c.filter-line-items.ensures.source
    (YieldsList-from_chain (YieldsList-from_first (λ x. x) lines_left _ refl) (YieldsList-from_first (λ x. x) lines_left _ refl) c.chain.ensures.first_done c.chain.ensures.second_done))
    c.filter-line-items.ensures.closure (λ x b q k. search (rules, tests))))
    _ c.next.ensures.steps

pub returns-then-left-len : goal.returns-then-left-len
returns-then-left-len c =
    let found = rw c.in-Some.is at (next (goal.at.returns-then-left-len c).After-next) in
    rw (found (omega arith), c.bytes.ensures.0, c.bytes-len.ensures.0)

pub loop-line-preserved : goal.loop-line-preserved
loop-line-preserved c =
    line_passed c.args.g.unit c.args.i c.loop-line.yielded c.in-Some.line c.loop-line.invariant c.bytes-len.ensures.0 c.if-left-len.false

pub returns : goal.returns
returns c =
    let passed = rw c.in-None.is at (next (goal.at.returns c).After-next) in
    rw (passed, c.into.ensures)
