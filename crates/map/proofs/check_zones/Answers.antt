-- The record, the length, and the zones. No answer names the call that sizes the map, so that must-fail/stale_check_not_ignored, which asks more
-- of it, is refused for what it answers.
use mathlib.Core.Path.{◌≡◌, sym, ◌∙◌}
use Rattle.std.specs.Prelude.{Ok, Err}
use Rattle.geometry.specs.declared.Geometry.{Geometry}
use Rattle.geometry.proofs.Results.{handed_on}
use Rattle.model.specs.Check.{zones_read, blocks_of}
use borrow.Author.Rules.{rules}
use Rattle.map.proofs.Answers.{sized, sized_refused, right_size, rest_answer, zones_refused, zones_kept}
use Rattle.map.proofs.check_zones.Goals as goal

pub returns-in_err-geometry : goal.returns-in_err-geometry
returns-in_err-geometry c =
    let m = c.args.map.now in
    let e : sized m ≡ Err c.in_err-geometry.field-0.0 = search rules in
    handed_on c.from_residual.result c.from_residual.ensures ∙ sized_refused m _ e

pub judge_zones-requires : goal.judge_zones-requires
judge_zones-requires c =
    let m = c.args.map.now in
    let e : sized m ≡ Ok c.in_ok-geometry.geometry = search rules in
    right_size m e

pub returns-in_err-judge_zones : goal.returns-in_err-judge_zones
returns-in_err-judge_zones c =
    let m = c.args.map.now in
    let g = c.in_ok-geometry.geometry in
    let e : sized m ≡ Ok g = search rules in
    handed_on c.from_residual-in_err-judge_zones.result c.from_residual-in_err-judge_zones.ensures
    ∙ zones_refused g (zones_read g 0 (blocks_of g m)) (sym c.judge_zones.ensures ∙ c.in_err-judge_zones.was)
    ∙ rest_answer m e (λ (g : Geometry). zones_read g 0 (blocks_of g m))

pub returns : goal.returns
returns c =
    let m = c.args.map.now in
    let g = c.in_ok-geometry.geometry in
    let e : sized m ≡ Ok g = search rules in
    zones_kept g (zones_read g 0 (blocks_of g m)) (sym c.judge_zones.ensures ∙ c.in_ok-judge_zones.was)
    ∙ rest_answer m e (λ (g : Geometry). zones_read g 0 (blocks_of g m))
