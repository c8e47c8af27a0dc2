-- All parts of the check, and the table's numbers.
use mathlib.Core.Path.{◌≡◌, sym, ap, ◌∙◌}
use Rattle.geometry.specs.declared.Geometry.{Geometry}
use Rattle.geometry.proofs.Results.{handed_on}
use Rattle.model.specs.Check.{zones_read, blocks_read, blocks_of}
use Rattle.map.specs.Checked.{check_answer, checked}
use Rattle.map.proofs.Answers.{checks, sized_refused, right_size, rest_answer, zones_refused, zones_kept, blocks_refused, blocks_right}
use Rattle.map.proofs.check.Goals as goal
use Rattle.map.proofs.check.Goals.{After-judge_zones}

pub returns-in_err-g : goal.returns-in_err-g
returns-in_err-g c =
    let m = c.args.map.now in
    checks m (handed_on c.from_residual.result c.from_residual.ensures ∙ sized_refused m _ (sym c.sized.ensures ∙ c.in_err-g.was))

pub check_bytes-requires : goal.check_bytes-requires
check_bytes-requires c = right_size c.args.map.now (sym c.sized.ensures ∙ c.in_ok-g.was)

pub returns-in_err-check_bytes : goal.returns-in_err-check_bytes
returns-in_err-check_bytes c =
    let m = c.args.map.now in
    checks m
    (handed_on c.from_residual-in_err-check_bytes.result c.from_residual-in_err-check_bytes.ensures
    ∙ blocks_refused c.in_ok-g.g m (sym c.check_bytes.ensures ∙ c.in_err-check_bytes.was)
    ∙ rest_answer m (sym c.sized.ensures ∙ c.in_ok-g.was) (λ (g : Geometry). blocks_read g (blocks_of g m)))

pub judge_zones-requires : goal.judge_zones-requires
judge_zones-requires c = right_size c.args.map.now (sym c.sized.ensures ∙ c.in_ok-g.was)

-- what the zones answer is the answer to the map
whole : (c : After-judge_zones) → let g = c.in_ok-g.g in check_answer g (zones_read g 0 (blocks_of g c.args.map.now)) ≡ checked c.args.map.now
whole c =
    let m = c.args.map.now in
    ap (check_answer c.in_ok-g.g) (blocks_right c.in_ok-g.g m (sym c.check_bytes.ensures ∙ c.in_ok-check_bytes.was))
    ∙ rest_answer m (sym c.sized.ensures ∙ c.in_ok-g.was) (λ (g : Geometry). blocks_read g (blocks_of g m))

pub returns-in_err-judge_zones : goal.returns-in_err-judge_zones
returns-in_err-judge_zones c =
    let m = c.args.map.now in
    let g = c.in_ok-g.g in
    checks m
    (handed_on c.from_residual-in_err-judge_zones.result c.from_residual-in_err-judge_zones.ensures
    ∙ zones_refused g (zones_read g 0 (blocks_of g m)) (sym c.judge_zones.ensures ∙ c.in_err-judge_zones.was)
    ∙ whole (goal.at.returns-in_err-judge_zones c).After-judge_zones)

pub returns : goal.returns
returns c =
    let m = c.args.map.now in
    let g = c.in_ok-g.g in
    checks m (zones_kept g (zones_read g 0 (blocks_of g m)) (sym c.judge_zones.ensures ∙ c.in_ok-judge_zones.was) ∙ whole (goal.at.returns c).After-judge_zones)
