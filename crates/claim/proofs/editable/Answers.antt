-- Where no two free fragments touch, edits work on the map.
use mathlib.Core.Path.{◌≡◌, refl, sym, ◌∙◌}
use mathlib.Core.Option.{Option, none, some}
use Prim.Native.Nat.{ℕ}
use Rattle.std.specs.Prelude.{Some}
use Rattle.bits.proofs.Bytes.{all_bytes}
use Rattle.walk.specs.Touching.{touching_of}
use Rattle.edits.proofs.EditableMap.{map_editable}
use Rattle.claim.proofs.editable.Goals as goal

touches : {o : Option ℕ} {z : ℕ} → touching_of o ≡ Some z → o ≡ some z
touches {o = none} e = cc
touches {o = some x} e = cc

pub returns-in-None : goal.returns-in-None
returns-in-None c = map_editable c.requires (all_bytes c.args.map.now (λ i. (c.type_inv.map i).fits)) (sym c.first_touching.ensures ∙ c.in-None.is)

pub returns-in-Some : goal.returns-in-Some
returns-in-Some c = (touches (sym c.first_touching.ensures ∙ c.in-Some.is), refl)
