-- An object's pairs are its pieces in another order, so there are as many.
use mathlib.Core.Path.{◌≡◌, ◌∙◌}
use mathlib.Core.Bool.{not}
use mathlib.Core.List.{List}
use Prim.Native.Nat.{ℕ}
use lib.ListN.{length, length-append, length-map}
use Rattle.geometry.specs.declared.Geometry.{Geometry}
use Rattle.model.specs.Pieces.{Piece, keep, pieces_of, late, rotate, object_pairs}
use Rattle.edits.proofs.Kept.{length_parts}

pub pairs_count : (g : Geometry) (id : ℕ) (l : List Piece) → length (object_pairs g id l) ≡ length (pieces_of id l)
pairs_count g id l =
    let t = late g id in
    let ps = pieces_of id l in
    length-map (rotate t ps) (λ p. p.at) ∙ length-append (keep t ps) (keep (λ x. not (t x)) ps) ∙ length_parts t ps
