-- Before the zone's end the place is settled; at the end what remains is what remains from the next zone on.
use mathlib.Core.Path.{refl}
use native.Mathlib.Omega.{arith}
use Rattle.walk.proofs.Remains.{settles_next}
use Rattle.walk.proofs.settled.Goals as goal

pub returns-else-w-zone_end : goal.returns-else-w-zone_end
returns-else-w-zone_end c =
    settles_next c.requires.2 (omega (arith, c.if-w-zone_end.false, c.zone_end.ensures)) _ refl c.from_zone.result c.from_zone.ensures
