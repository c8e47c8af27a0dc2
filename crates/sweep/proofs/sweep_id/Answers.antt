-- The answers of `SweepAnswers` for an object: 10, and the holder's sweep.
use mathlib.Core.Path.{sym, ◌∙◌}
use Rattle.sweep.proofs.SweepAnswers.{no_object, object_swept}
use Rattle.sweep.proofs.sweep_id.Goals as goal

pub returns-then-count_held-eq0 : goal.returns-then-count_held-eq0
returns-then-count_held-eq0 c =
    no_object c.requires c.args.id c.args.stretch.now (sym c.is_id.ensures ∙ c.if-not-is_id.false) c.count_held.ensures c.if-count_held-eq0.true c.into-then-count_held-eq0.ensures

pub returns : goal.returns
returns c =
    object_swept c.requires c.args.id c.args.stretch.now (sym c.is_id.ensures ∙ c.if-not-is_id.false) c.count_held.ensures c.if-count_held-eq0.false c.sweep_class.ensures
