-- Runs of calls on pieces and cross checks, as the proofs follow them: what demand 3 says is of bytes (`runs`), and these are
-- what the bytes stand for.
use mathlib.Core.List.{List, [], ◌∷◌}
use mathlib.Core.Option.{none}
use Prim.Native.Nat.{ℕ, zero, suc}
use Rattle.geometry.specs.declared.Geometry.{Geometry}
use Rattle.model.specs.Pieces.{Piece, object_pairs}
use Rattle.edits.specs.Edits.{Disc, crossed, Edit, edit}
use Rattle.model.specs.Answer.{Answer, refused, answered}
use Rattle.edits.specs.Judge.{Call, judge}

-- the disc after the verdict
abbrev pub obey : Geometry → Answer Edit → Disc → Disc
obey g (refused n zone) s = s
obey g (answered e) s = edit g e s

-- "Each call gets the map as the call before left it"
abbrev pub after : Geometry → Disc → Call → Disc
after g s c = obey g (judge g none s.pieces c) s

abbrev pub run : Geometry → Disc → List Call → Disc
run g s [] = s
run g s (c ∷ cs) = run g (after g s c) cs

-- the accepted calls of a run, in order, as their edits: "with refused calls struck out"
abbrev pub kept : Answer Edit → List Edit → List Edit
kept (refused n zone) es = es
kept (answered e) es = e ∷ es

abbrev pub edits : Geometry → Disc → List Call → List Edit
edits g s [] = []
edits g s (c ∷ cs) = kept (judge g none s.pieces c) (edits g (after g s c) cs)

-- The cross checks with the changes that the present pieces stand for taken out: what giving each of n objects its pieces changes,
-- applied once more. It is the same after every run (`CrossKey`), so the cross checks are a function of the starting map and the
-- present pieces.
abbrev pub cross_key : Geometry → List Piece → ℕ → List ℕ → List ℕ
cross_key g l zero cs = cs
cross_key g l (suc n) cs = cross_key g l n (crossed g (object_pairs g n l) cs)
