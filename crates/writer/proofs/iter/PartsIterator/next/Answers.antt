-- The part of the zone is the first that is left, and the pass goes on (`ZonePass`).
use mathlib.Core.Path.{◌≡◌, sym, ap, ◌∙◌, subst⁻¹}
use mathlib.Core.List.{◌∷◌}
use mathlib.Core.Logic.{◌⊎◌, inl, inr, ∥∥₁_elim, ∥∥₁_map}
use Prim.Native.Nat.{◌+◌}
use native.Mathlib.Omega.{arith}
use lib.ListN.{length}
use Rattle.std.specs.Coded.{Coded-set, coded_ℕ, coded_list}
use Rattle.writer.specs.Parts.{zone_part, zone_parts, PassAt}
use Rattle.writer.specs.PartsLeft.{parts_left}
use Rattle.writer.proofs.ZonePass.{turn_from, none_left, next_part}
use Rattle.writer.proofs.iter.PartsIterator.next.Goals as goal
use Rattle.writer.proofs.iter.PartsIterator.next.Goals.{After-split_at, then-z-self, else-z-self}

module _ (c : After-split_at) where
  stands : let s = c.args.self.now in ((s.zone ≡ s.start) × (c.if-z-self.from.now ≡ s.list.now)) ⊎ ((s.zone ≡ s.start → ⊥) × (c.if-z-self.from.now ≡ s.rest.now))
  stands = elim c.if-z-self.branch [
    | then-z-self w ↦ inl (w.if-z-self.true, ap (λ x. x.now) w.from-is)
    | else-z-self w ↦ inr (w.if-z-self.false, ap (λ x. x.now) w.from-is)
  ]

  turned : let s = c.args.self.now in ∥ (c.split_at.result.0.now ≡ zone_part s.geometry s.list.now s.zone) × PassAt s.geometry s.list.now s.start (s.zone + 1) c.split_at.result.1.now ∥₁
  turned =
      let s = c.args.self.now in
      ∥∥₁_map s.pass (λ w.
      let t = turn_from s.geometry s.numbers s.list.now s.start s.zone s.rest.now w (omega arith) c.if-z-self.from.now stands c.first_disc_bit-low.ensures c.first_disc_bit-high.ensures c.leading.result c.leading.ensures.0 in
      (c.split_at.ensures.front ∙ t.0, subst⁻¹ (PassAt s.geometry s.list.now s.start (s.zone + 1)) c.split_at.ensures.back t.1))

  passed : let s = c.args.self.now in zone_parts s.geometry s.list.now s.zone ≡ c.split_at.result.0.now ∷ zone_parts s.geometry s.list.now (s.zone + 1)
  passed =
      let s = c.args.self.now in
      ∥∥₁_elim turned (Coded-set (coded_list (coded_list coded_ℕ)) _ _) (λ t. next_part s.geometry s.list.now s.zone (omega arith) ∙ ap (λ x. x ∷ zone_parts s.geometry s.list.now (s.zone + 1)) (sym t.0))

pub invariant_of-self-clause-pass : goal.invariant_of-self-clause-pass
invariant_of-self-clause-pass c = ∥∥₁_map (turned (goal.at.invariant_of-self-clause-pass c).After-split_at) (λ t. t.1)

pub returns-then-self-z-clause-steps : goal.returns-then-self-z-clause-steps
unfolding parts_left
returns-then-self-z-clause-steps c =
    let s = c.args.self.now in
    let none = none_left s.geometry s.list.now s.zone c.if-self-z.true in
    (none, none)

pub returns-clause-steps : goal.returns-clause-steps
unfolding parts_left
returns-clause-steps c = passed (goal.at.returns-clause-steps c).After-split_at

pub returns-clause-goes : goal.returns-clause-goes
unfolding parts_left
returns-clause-goes c =
    let fewer = ap length (passed (goal.at.returns-clause-goes c).After-split_at) in
    record { on = λ _. (tt, tt, omega (arith, fewer)); keeps = tt; rests = λ _. tt }
