-- By the test of the version.
use mathlib.Core.Path.{sym, ap}
use mathlib.Core.Bool.{Bool, cond}
use borrow.Author.Tests.{eq-eqb, ne_eqb}
use Rattle.geometry.proofs.by_version.Goals as goal

pub returns-then-version-eq0 : goal.returns-then-version-eq0
returns-then-version-eq0 c = let a = c.args in sym (ap (λ (b : Bool). cond b a.e a.plus) (eq-eqb a.version 0 c.if-version-eq0.true))

pub returns-else-version-eq0 : goal.returns-else-version-eq0
returns-else-version-eq0 c = let a = c.args in sym (ap (λ (b : Bool). cond b a.e a.plus) (ne_eqb a.version 0 c.if-version-eq0.false))
