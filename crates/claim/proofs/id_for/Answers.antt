-- Of the zone's window, or else of all ids.
use mathlib.Core.Path.{refl, sym, ◌∙◌}
use Rattle.claim.proofs.ZoneIds.{none_found, some_found, own_chosen, any_chosen}
use Rattle.claim.proofs.id_for.Goals as goal

pub returns-in-Some : goal.returns-in-Some
returns-in-Some c = own_chosen c.requires.0 c.args.z c.requires.1 c.max.ensures (some_found (sym c.unused_in.ensures ∙ c.in-Some.is))

pub returns : goal.returns
returns c = rw c.lowest_unused.ensures (any_chosen c.requires.0 c.args.z c.requires.1 c.max.ensures (none_found (sym c.unused_in.ensures ∙ c.in_default.is)) refl)
