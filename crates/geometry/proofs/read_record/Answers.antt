-- A short map is refused, and of a longer one the record decides.
use mathlib.Core.Path.{ap, ◌∙◌}
use Rattle.std.specs.Prelude.{ok_or}
use Rattle.geometry.proofs.RecordAnswers.{read_long, reads_record}
use Rattle.geometry.proofs.read_record.Goals as goal

pub returns : goal.returns
returns c = reads_record c.args.map.now (c.ok_or.ensures.value ∙ ap (ok_or c.geometry_in.result) c.into-2.ensures ∙ read_long c.args.map.now c.if-map-lt64.false c.geometry_in.ensures)
