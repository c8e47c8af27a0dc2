-- The tests before each call give what it asks for.
use mathlib.Core.Path.{sym, ap, ◌∙◌, subst⁻¹}
use Rattle.geometry.specs.Ranges.{geometry_fits}
use Rattle.geometry.specs.Accepted.{SmallNumbers, AcceptedGeometry}
use Rattle.geometry.proofs.Rules.{test_gives_fields, test_gives_together}
use Rattle.geometry.proofs.Numbers.{fields_give_small, rules_give_accepted}
use Rattle.format.proofs.find_disc.Goals as goal

pub geometry_fits-requires : goal.geometry_fits-requires
geometry_fits-requires c =
    subst⁻¹ SmallNumbers c.geometry_from-geometry.ensures (fields_give_small _ (test_gives_fields _ (sym c.fields_fit.ensures ∙ c.if-not-fields_fit.false)))

pub both_fit-fits-requires : goal.both_fit-fits-requires
both_fit-fits-requires c =
    let e = c.geometry_from-geometry.ensures in
    let together = ap geometry_fits (sym e) ∙ sym c.geometry_fits.ensures ∙ c.if-geometry_fits.true in
    subst⁻¹ AcceptedGeometry e (rules_give_accepted _ (test_gives_fields _ (sym c.fields_fit.ensures ∙ c.if-not-fields_fit.false)) (test_gives_together _ together))
