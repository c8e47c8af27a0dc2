-- The record's refusal, or 1 where the length is not the record's.
use mathlib.Core.Path.{sym, ap, ◌∙◌}
use mathlib.Core.List.{[]}
use native.Mathlib.Omega.{arith}
use Rattle.std.specs.Prelude.{Err}
use Rattle.geometry.proofs.Results.{handed_on}
use Rattle.geometry.proofs.DiscBits.{map_small}
use Rattle.geometry.proofs.RecordAnswers.{accepted_geometry}
use Rattle.model.specs.Answer.{answered}
use Rattle.map.proofs.Answers.{record_refused, length_refused, length_right}
use Rattle.map.proofs.sized.Goals as goal

pub returns-in_err-g : goal.returns-in_err-g
returns-in_err-g c =
    handed_on c.from_residual.result c.from_residual.ensures ∙ record_refused c.args.map.now _ (sym c.read_record.ensures.answer ∙ c.in_err-g.was) (answered [])

pub overflow_mul-g : goal.overflow_mul-g
overflow_mul-g c =
    let m = c.args.map.now in
    omega (arith, map_small c.in_ok-g.g (accepted_geometry m _ (sym c.read_record.ensures.answer ∙ c.in_ok-g.was)))

pub returns-then-map-g : goal.returns-then-map-g
returns-then-map-g c =
    ap Err c.into.ensures ∙ length_refused c.args.map.now c.in_ok-g.g (sym c.read_record.ensures.answer ∙ c.in_ok-g.was) (omega arith) (answered [])

pub returns : goal.returns
returns c =
    length_right c.args.map.now c.in_ok-g.g (sym c.read_record.ensures.answer ∙ c.in_ok-g.was) (omega arith) (answered [])
