-- Whole runs: every accepted call may be undone and keeps the invariant, so a run does; and its cross checks are those of
-- its edits.
use mathlib.Core.Path.{◌≡◌, refl, ap, ◌∙◌, subst}
use mathlib.Core.Bool.{Bool, true, false, not, ◌&&◌}
use mathlib.Core.List.{List, [], ◌∷◌}
use mathlib.Core.Option.{none}
use Prim.Native.Nat.{ℕ, ◌*◌, ◌%◌, ◌<◌}
use native.Mathlib.Omega.{arith}
use lib.Dec.{eqb, ltb, leb}
use lib.ListN.{length}
use borrow.Author.Tests.{ltb-true}
use Rattle.bits.proofs.Tests.{both}
use Rattle.geometry.specs.declared.Geometry.{Geometry}
use Rattle.geometry.specs.Accepted.{AcceptedGeometry}
use Rattle.model.specs.Chain.{Pair}
use Rattle.model.specs.Pieces.{Piece, pieces_of, object_pairs}
use Rattle.edits.specs.Edits.{Disc, give, crossed, Edit, takes, gives, pairs_in, edit}
use Rattle.edits.specs.Holes.{all_apart}
use Rattle.model.specs.Answer.{Answer, refused, answered, unless}
use Rattle.edits.specs.Judge.{Call, release, place, claim, is_empty, editable, pairs_from, pairs_fit, list_fits, Choice, choice, chosen, claim_fits, by_choice, judge}
use Rattle.edits.specs.Runs.{Undone, cross_run}
use Rattle.edits.proofs.PieceRuns.{obey, run, kept, edits}
use Rattle.edits.proofs.Undo.{Allowed, Trace, undone}
use Rattle.edits.proofs.Invariant.{FitPieces, fit_asc, fit_without, list_order, fit_give}
use Rattle.edits.proofs.Chosen.{empty, chosen_id, chosen_pairs}

-- accepted: no test refused
pub unless_inv : (b : Bool) (n : ℕ) (v : Answer Edit) (e : Edit) → unless b n v ≡ answered e → (b ≡ true) × (v ≡ answered e)
unless_inv true n v e h = (refl, h)
unless_inv false n v e h = let z : ◌≡◌ {A = ℕ} 0 1 = cc in absurd (omega arith)

pub same_edit : {a b : Edit} → answered a ≡ answered b → a ≡ b
same_edit h = cc

-- the tests that an accepted call has passed, and its edit
pub release_tests : (g : Geometry) (l : List Piece) (id room : ℕ) (e : Edit) → judge g none l (release id room) ≡ answered e
    → (editable g id ≡ true) × (not (is_empty (pieces_of id l)) ≡ true) × (leb (2 * length (object_pairs g id l)) room ≡ true) × (takes id (object_pairs g id l) ≡ e)
release_tests g l id room e h =
    let qs = object_pairs g id l in
    let a = unless_inv (editable g id) 8 (unless (not (is_empty (pieces_of id l))) 10 (unless (leb (2 * length qs) room) 17 (answered (takes id qs)))) e h in
    let b = unless_inv (not (is_empty (pieces_of id l))) 10 (unless (leb (2 * length qs) room) 17 (answered (takes id qs))) e a.1 in
    let c = unless_inv (leb (2 * length qs) room) 17 (answered (takes id qs)) e b.1 in
    (a.0, b.0, c.0, same_edit {a = takes id qs} c.1)

pub place_tests : (g : Geometry) (l : List Piece) (id : ℕ) (list : List ℕ) (e : Edit) → judge g none l (place id list) ≡ answered e
    → (editable g id ≡ true) × (pieces_of id l ≡ []) × (list_fits g id list ≡ true) × (all_apart g 0 g.zones (give id (pairs_from list) l) ≡ true) × (gives id (pairs_from list) ≡ e)
place_tests g l id list e h =
    let a = unless_inv (editable g id) _ _ e h in
    let b = unless_inv (is_empty (pieces_of id l)) _ _ e a.1 in
    let c = unless_inv (list_fits g id list) _ _ e b.1 in
    let d = unless_inv (all_apart g 0 g.zones (give id (pairs_from list) l)) _ _ e c.1 in
    (a.0, empty (pieces_of id l) b.0, c.0, d.0, same_edit d.1)

pub claim_tests : (g : Geometry) (l : List Piece) (size parent room : ℕ) (e : Edit) → judge g none l (claim size parent room) ≡ answered e
    → (id : ℕ) × (qs : List Pair) × (chosen g l size parent ≡ answered (choice id qs)) × (gives id qs ≡ e) × (parent < g.zones)
claim_tests g l size parent room e h = go (chosen g l size parent) refl u.1
  where
    u : (claim_fits g size parent ≡ true) × (by_choice room (chosen g l size parent) ≡ answered e)
    u = unless_inv (claim_fits g size parent) 12 (by_choice room (chosen g l size parent)) e h

    go : (o : Answer Choice) → chosen g l size parent ≡ o → by_choice room o ≡ answered e
        → (id : ℕ) × (qs : List Pair) × (chosen g l size parent ≡ answered (choice id qs)) × (gives id qs ≡ e) × (parent < g.zones)
    go (refused n i) c h = let z : ◌≡◌ {A = ℕ} 0 1 = cc in absurd (omega arith)
    go (answered o) c h =
        let r = unless_inv (leb (2 * length o.pairs) room) 17 (answered (gives o.id o.pairs)) e h in
        (o.id, o.pairs, c, same_edit r.1, ltb-true parent g.zones (both (ltb 0 size) (ltb parent g.zones) u.0).1)

-- an edit that may be undone and keeps the invariant
abbrev pub EditFits : Geometry → List Piece → Edit → Type 0
EditFits g l e = Allowed g l e × ((cross : List ℕ) → FitPieces g (edit g e (record { pieces = l; cross = cross })).pieces)

-- what an accepted call edits
pub allowed : (g : Geometry) (l : List Piece) (c : Call) (e : Edit) → AcceptedGeometry g → FitPieces g l → judge g none l c ≡ answered e → EditFits g l e
allowed g l (release id room) e f k h =
    subst (EditFits g l) (release_tests g l id room e h).3 (refl, λ x. fit_without g id l k)
allowed g l (place id list) e f k h =
    let t = place_tests g l id list e h in
    let ok : pairs_fit g id 0 (pairs_from list) ≡ true = (both (ltb 0 (length list) && eqb (length list % 2) 0) (pairs_fit g id 0 (pairs_from list)) t.2).1 in
    let fits = fit_give g id (pairs_from list) l f k (both (leb 3 id) (ltb id (g.ids * g.zones)) t.0).1 ok t.3 in
    subst (EditFits g l) t.4
    ((t.1, list_order g id 0 (pairs_from list) f ok, fit_asc g (give id (pairs_from list) l) f fits), λ x. fits)
allowed g l (claim size parent room) e f k h =
    let t = claim_tests g l size parent room e h in
    let c = chosen_pairs g l size parent t.0 t.1 t.2 f k t.4 in
    subst (EditFits g l) t.3
    (((chosen_id g l size parent t.0 t.1 t.2 f).absent, c.in_order, fit_asc g (give t.0 t.1 l) f c.fit), λ x. c.fit)

-- a run is a trace of its edits
pub traced : (g : Geometry) (s : Disc) (cs : List Call) → AcceptedGeometry g → FitPieces g s.pieces → Trace g s (edits g s cs) (run g s cs)
traced g s [] f k = refl
traced g s (c ∷ cs) f k = go (judge g none s.pieces c) refl (λ r h. traced g r cs f h)
  where
    go : (v : Answer Edit) → judge g none s.pieces c ≡ v → ((r : Disc) → FitPieces g r.pieces → Trace g r (edits g r cs) (run g r cs))
        → Trace g s (kept v (edits g (obey g v s) cs)) (run g (obey g v s) cs)
    go (refused n zone) h ih = ih s k
    go (answered e) h ih = let a = allowed g s.pieces c e f k h in (a.0, ih (edit g e s) (a.1 s.cross))

-- a run that is undone last first ends where it began
pub run_undone : (g : Geometry) (s : Disc) (cs : List Call) → AcceptedGeometry g → FitPieces g s.pieces → Undone (edits g s cs) → run g s cs ≡ s
run_undone g s cs f k u = undone g s (run g s cs) u (fit_asc g s.pieces f k) (traced g s cs f k)

-- a run keeps the invariant
pub run_fit : (g : Geometry) (s : Disc) (cs : List Call) → AcceptedGeometry g → FitPieces g s.pieces → FitPieces g (run g s cs).pieces
run_fit g s [] f k = k
run_fit g s (c ∷ cs) f k = go (judge g none s.pieces c) refl (λ r h. run_fit g r cs f h)
  where
    go : (v : Answer Edit) → judge g none s.pieces c ≡ v → ((r : Disc) → FitPieces g r.pieces → FitPieces g (run g r cs).pieces) → FitPieces g (run g (obey g v s) cs).pieces
    go (refused n zone) h ih = ih s k
    go (answered e) h ih = let a = allowed g s.pieces c e f k h in ih (edit g e s) (a.1 s.cross)

-- the cross checks of a run
pub cross_edit : (g : Geometry) (e : Edit) (s : Disc) → (edit g e s).cross ≡ crossed g (pairs_in e) s.cross
cross_edit g (takes id qs) s = refl
cross_edit g (gives id qs) s = refl

pub run_cross : (g : Geometry) (s : Disc) (cs : List Call) → (run g s cs).cross ≡ cross_run g (edits g s cs) s.cross
run_cross g s [] = refl
run_cross g s (c ∷ cs) = go (judge g none s.pieces c) (λ r. run_cross g r cs)
  where
    go : (v : Answer Edit) → ((r : Disc) → (run g r cs).cross ≡ cross_run g (edits g r cs) r.cross) → (run g (obey g v s) cs).cross ≡ cross_run g (kept v (edits g (obey g v s) cs)) s.cross
    go (refused n zone) ih = ih s
    go (answered e) ih = ih (edit g e s) ∙ ap (cross_run g (edits g (edit g e s) cs)) (cross_edit g e s)

-- where the pieces are as they were, all is, but for the cross checks
pub run_same : (g : Geometry) (s : Disc) (cs : List Call) → (run g s cs).pieces ≡ s.pieces → run g s cs ≡ record { pieces = s.pieces; cross = cross_run g (edits g s cs) s.cross }
run_same g s cs h = λ i. record { pieces = h i; cross = run_cross g s cs i }
