-- A list that a claim gives: the place of it would be accepted ("Then as place"). Assumes nothing.
use Rattle.std.specs.Prelude.{◌≡◌, List, ℕ}
use Rattle.std.proofs.Math.Option.{none}
use Rattle.geometry.specs.declared.Geometry.{Geometry}
use Rattle.edits.specs.Edits.{gives}
use Rattle.model.specs.Answer.{answered}
use Rattle.edits.specs.Judge.{pairs_from, place, judge}
use Rattle.model.specs.Shown.{pieces_on}
use Rattle.edits.specs.EditableMap.{EditableMap}

pub record ListFits (m : List ℕ) (g : Geometry) (id : ℕ) (list : List ℕ) : Type 0 where
  pub editable : EditableMap m g
  pub fits : judge g none (pieces_on g m) (place id list) ≡ answered (gives id (pairs_from list))
