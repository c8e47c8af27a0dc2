-- The numbers on the way are small, and the rounding is the definition's.
use mathlib.Core.Path.{ap, ◌∙◌}
use Prim.Native.Nat.{ℕ, ◌+◌, ◌*◌, ◌/◌, max}
use Rattle.claim.proofs.NeedBits.{bits_small, need_is}
use Rattle.claim.proofs.need_of.Goals as goal

pub overflow_mul-bytes : goal.overflow_mul-bytes
overflow_mul-bytes c = record { fits = bits_small c.args.g c.requires c.args.size c.from-started.result c.ranges.size.fits c.from-started.ensures }

pub returns : goal.returns
returns c = need_is c.args.g c.requires c.args.size c.from-started.result c.max.result c.from-started.ensures
    (c.max.ensures ∙ ap (λ (m : ℕ). max m ((c.args.size / (c.args.g.cluster * c.args.g.unit) + c.from-started.result) * c.args.g.cluster)) c.shortest_fragment.ensures)
