-- Cross checks after a run are fixed by the starting map and the present pieces: an edit of an object changes the cross checks and
-- that object's part of the key alike, and a change made twice is none.
use mathlib.Core.Path.{◌≡◌, refl, sym, ap, ap₂, ◌∙◌, subst}
use mathlib.Core.Bool.{true}
use mathlib.Core.List.{List, [], ◌∷◌}
use mathlib.Core.Option.{none}
use Prim.Native.Nat.{ℕ, zero, suc, ◌*◌, ◌<◌}
use native.Mathlib.Omega.{arith}
use lib.Dec.{eqb, leb, ltb}
use lib.Bits.{bit_xor, xor_zero_r, xor_comm}
use borrow.Author.Tests.{eqb-true, eqb-false, ltb-true}
use Rattle.bits.proofs.Tests.{by_test, both}
use Rattle.bits.proofs.Xor.{xor_assoc}
use Rattle.checks.specs.Cross.{xor_each, changes_from, changes, touched_count}
use Rattle.geometry.specs.declared.Geometry.{Geometry}
use Rattle.geometry.specs.Accepted.{AcceptedGeometry}
use Rattle.model.specs.Chain.{Pair}
use Rattle.model.specs.Pieces.{Piece, object_pairs}
use Rattle.edits.specs.Edits.{Disc, touched_from, touched_zones, crossed, Edit, takes, gives, edit, edit_id}
use Rattle.model.specs.Answer.{Answer, refused, answered}
use Rattle.edits.specs.Judge.{Call, release, place, claim, editable, judge}
use Rattle.edits.proofs.PieceRuns.{obey, run, cross_key}
use Rattle.edits.proofs.Undo.{each_twice}
use Rattle.edits.proofs.Invariant.{FitPieces}
use Rattle.edits.proofs.Chosen.{chosen_id}
use Rattle.edits.proofs.RunsKept.{release_tests, place_tests, claim_tests, allowed}
use Rattle.edits.proofs.ReadsAfter.{ListedAfter, listed_after}

-- changes commute, and none is none
each_nil : (cs : List ℕ) → xor_each cs [] ≡ cs
each_nil [] = refl
each_nil (c ∷ cs) = refl

swap : (c v w : ℕ) → bit_xor (bit_xor c v) w ≡ bit_xor (bit_xor c w) v
swap c v w = xor_assoc c v w ∙ ap (bit_xor c) (xor_comm v w) ∙ sym (xor_assoc c w v)

each_comm : (cs vs ws : List ℕ) → xor_each (xor_each cs vs) ws ≡ xor_each (xor_each cs ws) vs
each_comm [] vs ws = refl
each_comm (c ∷ cs) [] ws = sym (each_nil (xor_each (c ∷ cs) ws))
each_comm (c ∷ cs) (v ∷ vs) [] = refl
each_comm (c ∷ cs) (v ∷ vs) (w ∷ ws) = ap₂ (λ (x : ℕ) (l : List ℕ). x ∷ l) (swap c v w) (each_comm cs vs ws)

each_zero : (g : Geometry) (t i z n : ℕ) (cs : List ℕ) → xor_each cs (changes_from t i (touched_from g [] z n)) ≡ cs
each_zero g t i z zero cs = each_nil cs
each_zero g t i z (suc n) [] = refl
each_zero g t i z (suc n) (c ∷ cs) = ap₂ (λ (x : ℕ) (l : List ℕ). x ∷ l) (xor_zero_r c) (each_zero g t i (suc z) n cs)

crossed_none : (g : Geometry) (cs : List ℕ) → crossed g [] cs ≡ cs
crossed_none g cs = each_zero g (touched_count (touched_zones g [])) 0 0 g.zones cs

crossed_comm : (g : Geometry) (qs rs : List Pair) (cs : List ℕ) → crossed g qs (crossed g rs cs) ≡ crossed g rs (crossed g qs cs)
crossed_comm g qs rs cs = each_comm cs (changes (touched_zones g rs)) (changes (touched_zones g qs))

crossed_twice : (g : Geometry) (qs : List Pair) (cs : List ℕ) → crossed g qs (crossed g qs cs) ≡ cs
crossed_twice g qs cs = each_twice cs (changes (touched_zones g qs))

-- the key
key_crossed : (g : Geometry) (l : List Piece) (n : ℕ) (qs : List Pair) (cs : List ℕ) → cross_key g l n (crossed g qs cs) ≡ crossed g qs (cross_key g l n cs)
key_crossed g l zero qs cs = refl
key_crossed g l (suc n) qs cs =
    ap (cross_key g l n) (crossed_comm g (object_pairs g n l) qs cs) ∙ key_crossed g l n qs (crossed g (object_pairs g n l) cs)

key_twice : (g : Geometry) (l : List Piece) (n : ℕ) (cs : List ℕ) → cross_key g l n (cross_key g l n cs) ≡ cs
key_twice g l zero cs = refl
key_twice g l (suc n) cs =
    let q = object_pairs g n l in
    ap (λ (x : List ℕ). cross_key g l n (crossed g q x)) (key_crossed g l n q cs)
    ∙ ap (cross_key g l n) (crossed_twice g q (cross_key g l n cs)) ∙ key_twice g l n cs

key_same : (g : Geometry) (l r : List Piece) (n : ℕ) (cs : List ℕ) → ((j : ℕ) → j < n → object_pairs g j l ≡ object_pairs g j r) → cross_key g l n cs ≡ cross_key g r n cs
key_same g l r zero cs h = refl
key_same g l r (suc n) cs h =
    key_same g l r n (crossed g (object_pairs g n l) cs) (λ j k. h j (omega arith)) ∙ ap (λ (q : List Pair). cross_key g r n (crossed g q cs)) (h n (omega arith))

-- an object given its pairs
key_given : (g : Geometry) (l r : List Piece) (id n : ℕ) (qs : List Pair) (cs : List ℕ) → id < n
    → object_pairs g id l ≡ [] → object_pairs g id r ≡ qs → ((j : ℕ) → (j ≡ id → ⊥) → object_pairs g j r ≡ object_pairs g j l)
    → cross_key g r n (crossed g qs cs) ≡ cross_key g l n cs
key_given g l r id zero qs cs h a b o = absurd (omega arith)
key_given g l r id (suc n) qs cs h a b o =
    by_test (eqb n id)
    (λ t. let e = eqb-true n id t in
    let al : object_pairs g n l ≡ [] = ap (λ (j : ℕ). object_pairs g j l) e ∙ a in
    let br : object_pairs g n r ≡ qs = ap (λ (j : ℕ). object_pairs g j r) e ∙ b in
    ap (λ (q : List Pair). cross_key g r n (crossed g q (crossed g qs cs))) br
    ∙ ap (cross_key g r n) (crossed_twice g qs cs)
    ∙ key_same g r l n cs (λ j k. o j (λ x. omega (arith, x ∙ sym e)))
    ∙ sym (ap (λ (q : List Pair). cross_key g l n (crossed g q cs)) al ∙ ap (cross_key g l n) (crossed_none g cs)))
    (λ t. let d = eqb-false n id t in
    ap (λ (q : List Pair). cross_key g r n (crossed g q (crossed g qs cs))) (o n d)
    ∙ ap (cross_key g r n) (crossed_comm g (object_pairs g n l) qs cs)
    ∙ key_given g l r id n qs (crossed g (object_pairs g n l) cs) (omega (arith, d)) a b o)

-- an edit keeps the key
key_edit : (g : Geometry) (s : Disc) (e : Edit) (n : ℕ) → edit_id e < n → ListedAfter g s.pieces e (edit g e s).pieces
    → cross_key g (edit g e s).pieces n (edit g e s).cross ≡ cross_key g s.pieces n s.cross
key_edit g s (gives id qs) n h w = key_given g s.pieces (edit g (gives id qs) s).pieces id n qs s.cross h w.0 w.1 w.2
key_edit g s (takes id qs) n h w =
    sym (key_given g (edit g (takes id qs) s).pieces s.pieces id n qs (crossed g qs s.cross) h w.1 w.0 (λ j k. sym (w.2 j k)))
    ∙ ap (cross_key g s.pieces n) (crossed_twice g qs s.cross)

-- an accepted call names an id below P*nzones
below_limit : (g : Geometry) (id : ℕ) → editable g id ≡ true → id < g.ids * g.zones
below_limit g id t = ltb-true id (g.ids * g.zones) (both (leb 3 id) (ltb id (g.ids * g.zones)) t).1

pub edit_number : (g : Geometry) → AcceptedGeometry g → (l : List Piece) (c : Call) (e : Edit) → judge g none l c ≡ answered e → edit_id e < g.ids * g.zones
edit_number g ok l (release id room) e h =
    let t = release_tests g l id room e h in
    subst (λ (x : Edit). edit_id x < g.ids * g.zones) t.3 (below_limit g id t.0)
edit_number g ok l (place id list) e h =
    let t = place_tests g l id list e h in
    subst (λ (x : Edit). edit_id x < g.ids * g.zones) t.4 (below_limit g id t.0)
edit_number g ok l (claim size parent room) e h =
    let t = claim_tests g l size parent room e h in
    subst (λ (x : Edit). edit_id x < g.ids * g.zones) t.3 (below_limit g t.0 (chosen_id g l size parent t.0 t.1 t.2 ok).ordinary)

-- a run keeps the key
pub run_key : (g : Geometry) (s : Disc) (cs : List Call) → AcceptedGeometry g → FitPieces g s.pieces
    → cross_key g (run g s cs).pieces (g.ids * g.zones) (run g s cs).cross ≡ cross_key g s.pieces (g.ids * g.zones) s.cross
run_key g s [] f k = refl
run_key g s (c ∷ cs) f k = go (judge g none s.pieces c) refl (λ r h. run_key g r cs f h)
  where
    N : ℕ
    N = g.ids * g.zones

    go : (v : Answer Edit) → judge g none s.pieces c ≡ v
        → ((r : Disc) → FitPieces g r.pieces → cross_key g (run g r cs).pieces (g.ids * g.zones) (run g r cs).cross ≡ cross_key g r.pieces (g.ids * g.zones) r.cross)
        → cross_key g (run g (obey g v s) cs).pieces (g.ids * g.zones) (run g (obey g v s) cs).cross ≡ cross_key g s.pieces (g.ids * g.zones) s.cross
    go (refused n zone) h ih = ih s k
    go (answered e) h ih =
        let a = allowed g s.pieces c e f k h in
        ih (edit g e s) (a.1 s.cross) ∙ key_edit g s e (g.ids * g.zones) (edit_number g f s.pieces c e h) (listed_after g s e a.0)

-- so where two runs leave the same pieces, they leave the same cross checks
pub runs_cross_same : (g : Geometry) (s : Disc) (cs ds : List Call) → AcceptedGeometry g → FitPieces g s.pieces
    → (run g s cs).pieces ≡ (run g s ds).pieces → (run g s cs).cross ≡ (run g s ds).cross
runs_cross_same g s cs ds f k e =
    let N = g.ids * g.zones in
    let l = (run g s ds).pieces in
    sym (key_twice g l N (run g s cs).cross)
    ∙ ap (cross_key g l N) (ap (λ (x : List Piece). cross_key g x N (run g s cs).cross) (sym e) ∙ run_key g s cs f k ∙ sym (run_key g s ds f k))
    ∙ key_twice g l N (run g s ds).cross
