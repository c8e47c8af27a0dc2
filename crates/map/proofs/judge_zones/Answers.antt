-- From zone z on the answer is that of all zones.
use mathlib.Core.Path.{sym, ap, ◌∙◌}
use mathlib.Core.List.{List}
use Prim.Native.Nat.{ℕ}
use Rattle.model.specs.Check.{zone_read}
use Rattle.zone.specs.Walk.{verdict_of}
use native.Mathlib.Omega.{arith}
use Rattle.geometry.proofs.Results.{handed_on}
use Rattle.map.proofs.ZonesJudged.{zones_turn, zones_stop, zones_end, zones_all}
use Rattle.map.proofs.judge_zones.Goals as goal

pub returns-in_err-judge : goal.returns-in_err-judge
returns-in_err-judge c =
    let a = c.args in
    handed_on c.from_residual.result c.from_residual.ensures
    ∙ sym (zones_stop a.map.now a.g c.loop-z.z c.in_err-judge.field-0.0 c.loop-z-test.true (sym c.in_err-judge.was ∙ c.judge.ensures ∙ ap (λ (b : List ℕ). verdict_of (zone_read a.g c.loop-z.z b)) c.block.ensures))
    ∙ c.loop-z.invariant ∙ zones_all a.map.now a.g

pub loop-z-preserved : goal.loop-z-preserved
loop-z-preserved c =
    let a = c.args in
    sym (zones_turn a.map.now a.g c.loop-z.z c.loop-z-test.true (sym c.in_ok-judge.was ∙ c.judge.ensures ∙ ap (λ (b : List ℕ). verdict_of (zone_read a.g c.loop-z.z b)) c.block.ensures)) ∙ c.loop-z.invariant

pub returns : goal.returns
returns c =
    let a = c.args in
    sym (zones_end a.map.now a.g c.loop-z.z (omega arith)) ∙ c.loop-z.invariant ∙ zones_all a.map.now a.g
