-- What an edit does to a map's pieces and cross checks (document 01, "Release", "Place", "Zone check and cross check").
-- The pieces of a map are one list, ascending by disc bit; the gaps in each zone are its holes. Assumes nothing.
use Rattle.std.specs.Prelude.{Bool, false, cond, not, ◌||◌, List, [], ◌∷◌, map, ℕ, zero, suc, eqb, ltb}
use Rattle.checks.specs.Cross.{changes, xor_each}
use Rattle.geometry.specs.declared.Geometry.{Geometry}
use Rattle.geometry.specs.Places.{zone_of}
use Rattle.model.specs.Chain.{Pair}
use Rattle.model.specs.Pieces.{Piece, keep, is_of}

-- what edits change: the owned pieces, and the cross check of each zone
pub record Disc : Type 0 where
  pub pieces : List Piece
  pub cross : List ℕ

-- "Release: removes all fragments of an object": the pieces of all others
abbrev pub not_of : ℕ → Piece → Bool
not_of id p = not (is_of id p)

abbrev pub without : ℕ → List Piece → List Piece
without id ps = keep (not_of id) ps

-- "Place: gives the listed pieces to an absent id, as separate fragments": each put in at its place
abbrev pub insert : Piece → List Piece → List Piece
insert p [] = p ∷ []
insert p (x ∷ xs) = cond (ltb p.at.start x.at.start) (p ∷ x ∷ xs) (x ∷ insert p xs)

abbrev pub put : List Piece → List Piece → List Piece
put [] l = l
put (p ∷ ps) l = insert p (put ps l)

abbrev pub own : ℕ → Pair → Piece
own id q = record { at = q; owner = id }

abbrev pub give : ℕ → List Pair → List Piece → List Piece
give id qs l = put (map (own id) qs) l

-- "An edit touches the zones in which its pairs lie": each of n zones from z on
abbrev pub touches : Geometry → ℕ → List Pair → Bool
touches g z [] = false
touches g z (q ∷ qs) = eqb (zone_of g q.start) z || touches g z qs

abbrev pub touched_from : Geometry → List Pair → ℕ → ℕ → List Bool
touched_from g qs z zero = []
touched_from g qs z (suc n) = touches g z qs ∷ touched_from g qs (suc z) n

abbrev pub touched_zones : Geometry → List Pair → List Bool
touched_zones g qs = touched_from g qs 0 g.zones

-- the cross checks after an edit of these pairs
abbrev pub crossed : Geometry → List Pair → List ℕ → List ℕ
crossed g qs cs = xor_each cs (changes (touched_zones g qs))

-- an accepted call's edit: its object loses these pairs, or is given them
pub data Edit : Type 0 where
  takes : ℕ → List Pair → Edit
  gives : ℕ → List Pair → Edit

abbrev pub pairs_in : Edit → List Pair
pairs_in (takes id qs) = qs
pairs_in (gives id qs) = qs

abbrev pub edit_id : Edit → ℕ
edit_id (takes id qs) = id
edit_id (gives id qs) = id

abbrev pub edit : Geometry → Edit → Disc → Disc
edit g (takes id qs) s = record { pieces = without id s.pieces; cross = crossed g qs s.cross }
edit g (gives id qs) s = record { pieces = give id qs s.pieces; cross = crossed g qs s.cross }

-- the pieces of a zone
abbrev pub in_zone : Geometry → ℕ → List Piece → List Piece
in_zone g z l = keep (λ p. eqb (zone_of g p.at.start) z) l
