-- What the steps of a place ask and judge. Assumes nothing.
use Rattle.std.specs.Prelude.{◌≡◌, Bool, true, cond, List, ℕ, ltb, length}
use Rattle.geometry.specs.declared.Geometry.{Geometry}
use Rattle.geometry.specs.Places.{zone_from, zone_end, id_from}
use Rattle.model.specs.Pieces.{pieces_of}
use Rattle.model.specs.Shown.{pieces_on}
use Rattle.edits.specs.Holes.{apart}
use Rattle.edits.specs.Judge.{is_empty, list_fits, pairs_from}
use Rattle.edits.specs.EditableMap.{EditableMap}
use Rattle.writer.specs.Edited.{owned_in_zone, pieces_after}

-- 8, 9, 11 and 12 are judged
pub record PlaceAsks (m : List ℕ) (g : Geometry) (id : ℕ) (list : List ℕ) : Type 0 where
  pub editable : EditableMap m g
  pub named : id_from 3 g id ≡ true
  pub absent : is_empty (pieces_of id (pieces_on g m)) ≡ true
  pub fits : list_fits g id list ≡ true

-- the pieces of zone z with listed ones put in lie apart; without listed ones there is nothing to judge
abbrev pub zone_fits : Geometry → ℕ → ℕ → List ℕ → List ℕ → Bool
zone_fits g z id block list =
    cond (ltb 0 (length list)) (apart g.shortest (zone_from g z) (zone_end g z) (pieces_after 0 id (pairs_from list) (owned_in_zone g z block))) true
