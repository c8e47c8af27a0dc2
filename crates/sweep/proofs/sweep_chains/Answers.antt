-- The spans before the walk's start end before the stretch, and those after its end start past it.
use mathlib.Core.Path.{ap}
use mathlib.Core.List.{[], ◌∷◌}
use native.Mathlib.Omega.{arith}
use Rattle.chain.specs.SpansLeft.{span_pair, spans_left}
use Rattle.sweep.proofs.SweptOn.{goes_on}
use Rattle.sweep.proofs.Walks.{count_fits, ends_early, starts_at}
use Rattle.sweep.proofs.sweep_chains.Goals as goal

pub loop-span-init : goal.loop-span-init
loop-span-init c =
    let d = c.bit_at.ensures in
    starts_at c.requires.0 c.args.stretch.now d.0 d.1 c.spans_from-span-items.ensures (ap spans_left c.into_iter-span-iterator.ensures.into_iter_gives)

pub overflow_add-count : goal.overflow_add-count
overflow_add-count c =
    omega (arith, count_fits c.requires.0 0 (goes_on (span_pair c.in-Some.span ∷ []) _ c.loop-span.invariant c.in-Some.ensures.steps c.sweep-count.ensures) c.requires.1)

pub loop-span-preserved : goal.loop-span-preserved
loop-span-preserved c = goes_on (span_pair c.in-Some.span ∷ []) _ c.loop-span.invariant c.in-Some.ensures.steps c.sweep-count.ensures

pub returns-then-end-span : goal.returns-then-end-span
returns-then-end-span c = ends_early c.requires.0 0 c.loop-span.invariant (span_pair c.in-Some.span) _ c.in-Some.ensures.steps c.if-end-span.true
