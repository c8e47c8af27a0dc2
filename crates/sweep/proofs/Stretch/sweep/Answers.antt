-- The span's part of the stretch is one run, by `OnePair`.
use mathlib.Core.Path.{refl}
use Rattle.chain.specs.SpansLeft.{span_pair}
use Rattle.sweep.proofs.OnePair.{run_swept}
use Rattle.sweep.proofs.Stretch.sweep.Goals as goal

pub returns : goal.returns
returns c =
    let s = c.args.self.now in
    let w = run_swept c.args.unit s.fill s.first c.place-from.result c.place-to.result (span_pair c.args.span) s.image.now _ c.place-from.ensures.0 c.place-to.ensures.0 (c.fill.ensures.after (λ y q. q)) in
    record { bytes = w.0; count = w.1; image = refl; first = refl; fill = refl }
