-- The lines that the filter lets through are those that stay (`StayingPieces`).
use mathlib.Core.Path.{◌≡◌, refl, sym, ap, ◌∙◌}
use mathlib.Core.List.{List, map, map-id}
use Prim.Native.Nat.{◌+◌, ◌-◌, ◌<◌}
use native.Mathlib.Omega.{arith}
use lib.ListN.{length}
use borrow.Author.Tests.{tests}
use Rattle.std.specs.List.{filter}
use Rattle.std.proofs.Common.{rules}
use Rattle.std.proofs.lemmas.List.{length_push}
use Rattle.std.proofs.lemmas.Iterator.Consumers.{YieldsList-from_first, YieldsList-from_filter, YieldsList-at, YieldsList-turn, YieldsList-end}
use Rattle.walk.specs.LinesLeft.{lines_left}
use Rattle.walk.specs.Remaining.{lines_from}
use Rattle.writer.specs.Listed.{as_pieces}
use Rattle.writer.proofs.StayingPieces.{stays, piece_of, stored_more, few_stay, all_stored}
use Rattle.writer.proofs.staying.Goals as goal
use Rattle.writer.proofs.staying.Goals.{In-Some, In-None}

room : (c : In-Some) → c.loop-line.n < 682
room c =
    let few = YieldsList-turn
    (YieldsList-at c.into_iter-line-iterator.ensures.into_iter_gives
    (YieldsList-from_filter _ (stays c.args.gone) (YieldsList-from_first (λ x. x) lines_left _ refl) c.filter-line-items.ensures.closure (λ x b q k. search (rules, tests))))
    c.loop-line.yielded _ c.loop-line.yielded_by _ _ c.in-Some.line c.in-Some.is c.next.ensures.steps in
    omega (arith, few.0, c.loop-line.invariant.count, few_stay c.requires.0 c.requires.1 (ap lines_left c.filter-line-items.ensures.source ∙ c.lines.ensures) c.args.gone)

pub bounds-buffer-n : goal.bounds-buffer-n
bounds-buffer-n c = omega (arith, room (goal.at.bounds-buffer-n c).In-Some, c.requires.2)

pub overflow_add-n : goal.overflow_add-n
overflow_add-n c = omega (arith, room (goal.at.overflow_add-n c).In-Some)

pub loop-line-preserved : goal.loop-line-preserved
loop-line-preserved c = record {
  count = omega (arith, length_push c.loop-line.yielded c.in-Some.line, c.loop-line.invariant.count);
  stored = stored_more c.loop-line.buffer c.loop-line.n c.loop-line.yielded c.in-Some.line (omega (arith, room (goal.at.loop-line-preserved c).In-Some, c.requires.2)) c.loop-line.invariant.stored;
}

-- in the end these are all
all : (c : In-None) → c.loop-line.yielded ≡ filter (stays c.args.gone) (lines_left c.filter-line-items.result.iter)
all c =
    let end = YieldsList-end
    (YieldsList-at c.into_iter-line-iterator.ensures.into_iter_gives
    (YieldsList-from_filter _ (stays c.args.gone) (YieldsList-from_first (λ x. x) lines_left _ refl) c.filter-line-items.ensures.closure (λ x b q k. search (rules, tests))))
    c.loop-line.yielded _ c.loop-line.yielded_by _ _ c.in-None.is c.next.ensures.steps in
    sym (map-id c.loop-line.yielded) ∙ end.0

left : (c : In-None) → let a = c.args in lines_left c.filter-line-items.result.iter ≡ lines_from a.g a.map.now a.z (a.z + 1 - a.z)
left c = ap lines_left c.filter-line-items.ensures.source ∙ c.lines.ensures

pub returns-clause-few : goal.returns-clause-few
returns-clause-few c =
    let at = (goal.at.returns-clause-few c).In-None in
    omega (arith, c.loop-line.invariant.count, ap length (all at), few_stay c.requires.0 c.requires.1 (left at) c.args.gone)

pub returns-clause-pieces : goal.returns-clause-pieces
returns-clause-pieces c =
    let at = (goal.at.returns-clause-pieces c).In-None in
    ap as_pieces c.loop-line.invariant.stored ∙ ap (λ ls. as_pieces (map piece_of ls)) (all at) ∙ all_stored c.requires.0 c.requires.1 (left at) c.args.gone
