-- The first hole of the zones that are at least as far away as d is that of all.
use Prim.Native.Nat.{ℕ}
use mathlib.Core.Path.{sym, ap, ◌∙◌}
use native.Mathlib.Omega.{arith}
use native.Mathlib.Nat.{sub-zero}
use Rattle.model.specs.Shown.{pieces_on}
use Rattle.edits.specs.Near.{zones_from}
use Rattle.edits.specs.Holes.{holes_of}
use Rattle.edits.specs.Judge.{first_hole}
use Rattle.claim.specs.Hole.{hole_of}
use Rattle.claim.proofs.HoleFound.{no_hole, hole_at, distance_turn, none_further}
use Rattle.claim.proofs.nearest_hole.Goals as goal

pub loop-d-init : goal.loop-d-init
loop-d-init c =
    let a = c.args in
    ap (λ (n : ℕ). first_hole a.need (holes_of a.g (pieces_on a.g a.map.now) (zones_from a.g.zones a.parent 0 n))) (sub-zero a.g.zones)

pub returns-in-Some : goal.returns-in-Some
returns-in-Some c =
    let a = c.args in
    let e = hole_at _ c.in-Some.hole (sym c.hole_at.ensures ∙ c.in-Some.is) in
    ap hole_of (sym (distance_turn a.g (pieces_on a.g a.map.now) a.need a.parent c.loop-d.d c.loop-d-test.true _ e) ∙ c.loop-d.invariant)

pub loop-d-preserved : goal.loop-d-preserved
loop-d-preserved c =
    let a = c.args in
    let e = no_hole _ (sym c.hole_at.ensures ∙ c.in_default.is) in
    sym (distance_turn a.g (pieces_on a.g a.map.now) a.need a.parent c.loop-d.d c.loop-d-test.true _ e) ∙ c.loop-d.invariant

pub returns : goal.returns
returns c =
    let a = c.args in
    ap hole_of (sym (none_further a.g (pieces_on a.g a.map.now) a.need a.parent c.loop-d.d (omega arith)) ∙ c.loop-d.invariant)
