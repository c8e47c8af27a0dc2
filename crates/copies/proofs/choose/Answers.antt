-- The first if the check accepts it, else the second, else nothing.
use mathlib.Core.Path.{refl}
use Rattle.copies.proofs.Answers.{first_chosen, second_chosen, none_chosen}
use Rattle.copies.proofs.choose.Goals as goal
use Rattle.copies.proofs.choose.Goals.{in-Ok, in-Err+in-Ok-check, in-Err+in-Err-check}

pub returns : goal.returns
returns c =
    let a = c.args in
    elim c.match-check.branch [
      | in-Ok w ↦ first_chosen a.first a.second c.same.ensures c.check.ensures.answer w.in-Ok.is w.which-is
      | in-Err+in-Ok-check w ↦ second_chosen a.first a.second c.same.ensures c.check.ensures.answer w.in-Err.is w.check-in-Err.ensures.answer w.in-Ok-check.is w.which-is
      | in-Err+in-Err-check w ↦
          none_chosen a.first a.second c.same.ensures c.check.ensures.answer w.in-Err.is w.check-in-Err.ensures.answer w.in-Err-check.is refl w.which-is
    ]
