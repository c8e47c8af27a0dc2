-- The hole below, or else the one above.
use mathlib.Core.Path.{◌≡◌, sym, ap, ◌∙◌}
use mathlib.Core.Option.{none}
use Rattle.model.specs.Shown.{pieces_on}
use Rattle.claim.specs.Hole.{hole_of}
use Rattle.claim.proofs.HoleFound.{no_hole, hole_at, below, below_there, not_below, above_there, not_above, beside_below, beside_above}
use Rattle.claim.proofs.hole_at.Goals as goal
use Rattle.claim.proofs.hole_at.Goals.{then-d-parent+in_default, else-d-parent}

pub returns-in-Some : goal.returns-in-Some
returns-in-Some c =
    let a = c.args in
    let l = pieces_on a.g a.map.now in
    ap hole_of (sym (beside_below a.g l a.need a.parent a.d (below_there a.g l a.need a.parent a.d c.if-d-parent.true ∙ hole_at _ c.in-Some.hole (sym c.first_hole.ensures ∙ c.in-Some.is))))

pub returns-then-above-g : goal.returns-then-above-g
returns-then-above-g c =
    let a = c.args in
    let l = pieces_on a.g a.map.now in
    let none_below : below a.g l a.need a.parent a.d ≡ none = elim c.if-d-parent.branch [
      | then-d-parent+in_default w ↦ below_there a.g l a.need a.parent a.d w.if-d-parent.true ∙ no_hole _ (sym w.first_hole.ensures ∙ w.in_default.is)
      | else-d-parent w ↦ not_below a.g l a.need a.parent a.d w.if-d-parent.false
    ] in
    c.first_hole-then-above-g.ensures
    ∙ ap hole_of (sym (beside_above a.g l a.need a.parent a.d none_below ∙ above_there a.g l a.need a.parent a.d c.if-d-gt0.true c.if-above-g.true))

pub returns-else-d-gt0 : goal.returns-else-d-gt0
returns-else-d-gt0 c =
    let a = c.args in
    let l = pieces_on a.g a.map.now in
    let none_below : below a.g l a.need a.parent a.d ≡ none = elim c.if-d-parent.branch [
      | then-d-parent+in_default w ↦ below_there a.g l a.need a.parent a.d w.if-d-parent.true ∙ no_hole _ (sym w.first_hole.ensures ∙ w.in_default.is)
      | else-d-parent w ↦ not_below a.g l a.need a.parent a.d w.if-d-parent.false
    ] in
    ap hole_of (sym (beside_above a.g l a.need a.parent a.d none_below ∙ not_above a.g l a.need a.parent a.d c.else-d-gt0.either))
