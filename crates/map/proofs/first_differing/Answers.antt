-- From zone z on the first zone check that differs is that of the whole map.
use mathlib.Core.Path.{◌≡◌, sym, ap, ◌∙◌}
use mathlib.Core.List.{List}
use Prim.Native.Nat.{ℕ}
use lib.Dec.{eqb}
use lib.ListN.{get_or}
use Rattle.checks.specs.Words.{zone_check}
use Rattle.model.specs.Rules.{zone_block}
use Rattle.map.specs.Checked.{first_differing}
use Rattle.map.proofs.ChecksByZone.{checks_turn, checks_stop}
use Rattle.map.proofs.first_differing.Goals as goal
use Rattle.map.proofs.first_differing.Goals.{After-check_holds}

-- the test is of the zone's block
test : (c : After-check_holds) → let b = zone_block c.args.g c.args.map.now c.loop-z.z in c.check_holds.result ≡ eqb (get_or b 0 0) (zone_check b)
test c = c.check_holds.ensures ∙ ap (λ (b : List ℕ). eqb (get_or b 0 0) (zone_check b)) c.block.ensures

pub returns-then-not-check_holds : goal.returns-then-not-check_holds
returns-then-not-check_holds c =
    let a = c.args in
    ap first_differing (sym (checks_stop a.map.now a.g.zones a.g.sector c.loop-z.z c.loop-z-test.true (sym (test (goal.at.returns-then-not-check_holds c).After-check_holds) ∙ c.if-not-check_holds.true)) ∙ c.loop-z.invariant)

pub loop-z-preserved : goal.loop-z-preserved
loop-z-preserved c =
    let a = c.args in
    sym (checks_turn a.map.now a.g.zones a.g.sector c.loop-z.z c.loop-z-test.true (sym (test (goal.at.loop-z-preserved c).After-check_holds) ∙ c.if-not-check_holds.false)) ∙ c.loop-z.invariant
