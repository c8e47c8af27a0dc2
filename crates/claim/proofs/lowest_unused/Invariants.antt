-- The lowest unused id from `from` on is the lowest from 3.
use mathlib.Core.Path.{◌≡◌}
use Prim.Native.Nat.{◌-◌, ◌*◌, ◌≤◌}
use Rattle.model.specs.Shown.{pieces_on}
use Rattle.edits.specs.Judge.{lowest, lowest_id, unused}
use Rattle.claim.proofs.lowest_unused.Given as goal

abbrev pub invariant-loop-from : goal.invariant-loop-from
invariant-loop-from l = record {
  low : 3 ≤ l.from;
  rest : lowest (unused (pieces_on l.g l.map)) (l.g.ids * l.g.zones - l.from) l.from ≡ lowest_id l.g (unused (pieces_on l.g l.map));
}
