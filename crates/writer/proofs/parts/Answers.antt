-- The pass starts behind the pairs from the first one's zone on (`ListOrder`).
use mathlib.Core.Path.{refl, ap, ◌∙◌, subst⁻¹}
use native.Mathlib.Omega.{arith}
use Rattle.std.proofs.lemmas.List.{take_rest}
use Rattle.geometry.specs.Places.{zone_of}
use Rattle.writer.specs.declared.Pair as code
use Rattle.writer.specs.Parts.{PassAt}
use Rattle.writer.specs.PartsLeft.{parts_left}
use Rattle.writer.proofs.ListOrder.{first_zone_law, pass_starts}
use Rattle.writer.proofs.parts.Goals as goal

pub first_disc_bit-requires : goal.first_disc_bit-requires
first_disc_bit-requires c =
    let e = c.zone_of-start.ensures ∙ ap (λ (x : code.Pair). zone_of c.args.g x.start.0) c.pair_at-first.ensures in
    (c.requires.0, omega (arith, e, first_zone_law c.requires.0 c.requires.1, c.requires.0.zones_high))

pub invariant_of-result-clause-pass : goal.invariant_of-result-clause-pass
invariant_of-result-clause-pass c =
    let list = c.args.list.now in
    let late = c.leading-late in
    let start = c.zone_of-start.ensures ∙ ap (λ (x : code.Pair). zone_of c.args.g x.start.0) c.pair_at-first.ensures in
    ∣ subst⁻¹ (PassAt c.args.g list c.zone_of-start.result 0) (take_rest list late.result)
    (pass_starts c.requires.0 c.requires.1 start c.first_disc_bit.ensures c.first_disc_bit-2.ensures late.result late.ensures.0) ∣₁

pub returns : goal.returns
unfolding parts_left
returns c = refl
