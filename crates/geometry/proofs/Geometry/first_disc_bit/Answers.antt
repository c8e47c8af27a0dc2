-- A zone's disc bits start with that of its first allocation bit.
use mathlib.Core.Path.{sym, ap, ◌∙◌}
use Rattle.geometry.specs.Places.{disc_bit}
use Rattle.geometry.proofs.DiscBits.{zone_starts}
use Rattle.geometry.proofs.Geometry.first_disc_bit.Goals as goal

pub returns : goal.returns
returns c =
    let a = c.args in
    c.disc_bit.ensures ∙ ap (disc_bit a.self a.z) c.zone_first.ensures.0 ∙ sym (zone_starts a.self a.z)
