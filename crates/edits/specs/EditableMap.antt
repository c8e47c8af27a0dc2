-- A map that edits work on, with its geometry: accepted, and not refused with 9. Assumes nothing.
use Rattle.std.specs.Prelude.{List, ℕ}
use Rattle.geometry.specs.declared.Geometry.{Geometry}
use Rattle.map.specs.Accepted.{AcceptedMap}
use Rattle.edits.specs.Editable.{Editable}

pub record EditableMap (m : List ℕ) (g : Geometry) : Type 0 where
  pub accepted : AcceptedMap m g
  pub editable : Editable m
