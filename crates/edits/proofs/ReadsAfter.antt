-- What the objects list after an accepted call: the released one nothing, the placed or claimed one its pairs, and every
-- other what it did, since its pieces are left alone.
use mathlib.Core.Path.{◌≡◌, sym, ap, ◌∙◌, subst⁻¹}
use mathlib.Core.Bool.{not}
use mathlib.Core.List.{List, [], ◌∷◌, map}
use mathlib.Core.Option.{none}
use Prim.Native.Nat.{ℕ}
use borrow.Author.Tests.{eqb-true, ne_eqb}
use Rattle.geometry.specs.declared.Geometry.{Geometry}
use Rattle.geometry.specs.Accepted.{AcceptedGeometry}
use Rattle.model.specs.Chain.{Pair}
use Rattle.model.specs.Pieces.{Piece, is_of, pieces_of, late, rotate, object_pairs}
use Rattle.edits.specs.Edits.{Disc, not_of, without, own, give, Edit, takes, gives, edit}
use Rattle.model.specs.Answer.{Answer, answered}
use Rattle.edits.specs.Judge.{Call, judge}
use Rattle.edits.proofs.PieceRuns.{obey, after}
use Rattle.edits.proofs.Kept.{All, keep_keep, keep_none}
use Rattle.edits.proofs.PutIn.{keep_put_no}
use Rattle.edits.proofs.Undo.{Allowed, read_back}
use Rattle.edits.proofs.Invariant.{FitPieces}
use Rattle.edits.proofs.RunsKept.{allowed}

-- lists hang on the object's pieces
pub same_pieces : (g : Geometry) (j : ℕ) (l r : List Piece) → pieces_of j l ≡ pieces_of j r → object_pairs g j l ≡ object_pairs g j r
same_pieces g j l r e = ap (λ (ps : List Piece). map (λ p. p.at) (rotate (late g j) ps)) e

-- released
pub own_without : (g : Geometry) (id : ℕ) (l : List Piece) → object_pairs g id (without id l) ≡ []
own_without g id l = same_pieces g id (without id l) [] (keep_none (is_of id) l)

pub other_without : (g : Geometry) (id j : ℕ) (l : List Piece) → (j ≡ id → ⊥) → object_pairs g j (without id l) ≡ object_pairs g j l
other_without g id j l n = same_pieces g j (without id l) l (keep_keep (is_of j) (not_of id) l (λ x k. ap not (ne_eqb x.owner id (λ e. n (sym (eqb-true x.owner j k) ∙ e)))))

-- given pairs: those of its own are read back (Undo), another object's stay
none_of : (id j : ℕ) (qs : List Pair) → (j ≡ id → ⊥) → All (λ p. not (is_of j p)) (map (own id) qs)
none_of id j [] n = tt
none_of id j (q ∷ qs) n = (ap not (ne_eqb id j (λ e. n (sym e))), none_of id j qs n)

pub other_give : (g : Geometry) (id j : ℕ) (qs : List Pair) (l : List Piece) → (j ≡ id → ⊥) → object_pairs g j (give id qs l) ≡ object_pairs g j l
other_give g id j qs l n = same_pieces g j (give id qs l) l (keep_put_no (is_of j) (map (own id) qs) l (none_of id j qs n))

-- what objects list before an edit, on pieces l, and after it, on pieces r
abbrev pub OthersListed : Geometry → ℕ → List Piece → List Piece → Type 0
OthersListed g id l r = (j : ℕ) → (j ≡ id → ⊥) → object_pairs g j r ≡ object_pairs g j l

abbrev pub ListedAfter : Geometry → List Piece → Edit → List Piece → Type 0
ListedAfter g l (takes id qs) r = (object_pairs g id l ≡ qs) × (object_pairs g id r ≡ []) × OthersListed g id l r
ListedAfter g l (gives id qs) r = (object_pairs g id l ≡ []) × (object_pairs g id r ≡ qs) × OthersListed g id l r

pub listed_after : (g : Geometry) (s : Disc) (e : Edit) → Allowed g s.pieces e → ListedAfter g s.pieces e (edit g e s).pieces
listed_after g s (takes id qs) h = (sym h, own_without g id s.pieces, λ j n. other_without g id j s.pieces n)
listed_after g s (gives id qs) h = (same_pieces g id s.pieces [] h.0, read_back g id qs s.pieces h, λ j n. other_give g id j qs s.pieces n)

pub reads_after : (g : Geometry) (s : Disc) (c : Call) (e : Edit) → AcceptedGeometry g → FitPieces g s.pieces → judge g none s.pieces c ≡ answered e
    → ListedAfter g s.pieces e (after g s c).pieces
reads_after g s c e f k h =
    subst⁻¹ (λ (v : Answer Edit). ListedAfter g s.pieces e (obey g v s).pieces) h (listed_after g s e (allowed g s.pieces c e f k h).0)
