-- The lowest unused id from `from` on is the lowest from 3.
use mathlib.Core.Path.{sym, ap, ◌∙◌}
use native.Mathlib.Omega.{arith}
use Rattle.model.specs.Shown.{pieces_on}
use Rattle.edits.specs.Judge.{unused}
use Rattle.claim.specs.Unused.{found}
use Rattle.claim.proofs.ZoneIds.{none_found, some_found, window_ends, window_passes}
use Rattle.claim.proofs.lowest_unused.Goals as goal

pub returns-in-Some : goal.returns-in-Some
returns-in-Some c =
    let t = unused (pieces_on c.args.g c.args.map.now) in
    ap found (sym (window_ends t 131072 c.min.ensures c.loop-from-test.true (some_found (sym c.unused_in.ensures ∙ c.in-Some.is))) ∙ c.loop-from.invariant.rest)

pub loop-from-preserved : goal.loop-from-preserved
loop-from-preserved c =
    let t = unused (pieces_on c.args.g c.args.map.now) in
    record {
      low = omega (arith, c.loop-from.invariant.low);
      rest = window_passes t 131072 c.min.ensures c.loop-from-test.true (none_found (sym c.unused_in.ensures ∙ c.in_default.is)) ∙ c.loop-from.invariant.rest;
    }
