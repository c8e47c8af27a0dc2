-- The lowest zone told by the lines that are left is that of all zones.
use mathlib.Core.Path.{◌≡◌, ap, sym, ◌∙◌, subst, subst⁻¹}
use native.Mathlib.Omega.{arith}
use Rattle.std.proofs.Common.{false}
use Rattle.walk.specs.LinesLeft.{lines_left}
use Rattle.walk.specs.Remaining.{lines_from}
use Rattle.walk.specs.Touching.{touching_lines}
use Rattle.walk.proofs.LinesOf.{LieIn, lines_of_all, lines_lie}
use Rattle.walk.proofs.ZonesTouching.{touching_all, touching_passed}
use Rattle.walk.proofs.first_touching.Goals as goal

pub loop-line-init : goal.loop-line-init
loop-line-init c =
    let a = c.args in
    let e : lines_left c.into_iter-line-iterator.result ≡ lines_from a.g a.map.now 0 a.g.zones =
    ap lines_left c.into_iter-line-iterator.ensures.into_iter_gives ∙ c.lines-line-items.ensures ∙ lines_of_all a.g a.map.now a.g.zones in
    record {
      told = ap (touching_lines 0 false) e ∙ touching_all c.requires;
      lie = subst⁻¹ (LieIn 0 a.g.zones) e (lines_lie a.g a.map.now 0 a.g.zones 0 a.g.zones (omega arith) (omega arith));
    }

pub loop-line-preserved : goal.loop-line-preserved
loop-line-preserved c =
    let e = c.in-Some.ensures.steps in
    let passed = touching_passed c.loop-line.zone c.loop-line.free c.in-Some.line (lines_left c.next.new.self) c.else-free.either in
    record {
      told = sym passed ∙ sym (ap (touching_lines c.loop-line.zone c.loop-line.free) e) ∙ c.loop-line.invariant.told;
      lie = (subst (LieIn 0 c.args.g.zones) e c.loop-line.invariant.lie).1;
    }
