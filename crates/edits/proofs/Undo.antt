-- A run whose accepted calls cancel ends where it began: each cancelling pair leaves pieces and cross checks as they were,
-- and a trace with the pair struck out is a trace.
use mathlib.Core.Path.{◌≡◌, refl, sym, ap, ◌∙◌, subst}
use mathlib.Core.Bool.{not}
use mathlib.Core.List.{List, [], ◌∷◌, ◌++◌, map}
use Prim.Native.Nat.{ℕ}
use borrow.Author.Tests.{eqb-true, eq-eqb}
use Rattle.bits.proofs.Xor.{xor_twice}
use Rattle.checks.specs.Cross.{xor_each}
use Rattle.geometry.specs.declared.Geometry.{Geometry}
use Rattle.geometry.specs.Places.{disc_bits}
use Rattle.model.specs.Chain.{Pair}
use Rattle.model.specs.Pieces.{Piece, keep, is_of, pieces_of, late, rotate, object_pairs}
use Rattle.edits.specs.Order.{Ascending}
use Rattle.edits.specs.Edits.{Disc, not_of, without, put, own, give, crossed, Edit, takes, gives, edit}
use Rattle.edits.specs.Runs.{Cancel, released, restored, Undone, nothing, strike}
use Rattle.edits.proofs.Kept.{All, all_kept, all_keep, all_append}
use Rattle.edits.proofs.PutIn.{asc_keep, put_rotate, put_kept, keep_put, keep_put_no, without_absent}
use Rattle.edits.proofs.ObjectOrder.{InOrder, order_back}

-- cross checks changed twice alike
pub each_twice : (cs vs : List ℕ) → xor_each (xor_each cs vs) vs ≡ cs
each_twice [] vs = refl
each_twice (c ∷ cs) [] = refl
each_twice (c ∷ cs) (v ∷ vs) = simp (xor_twice, each_twice cs vs)

-- what an accepted edit may rest on
abbrev pub Allowed : Geometry → List Piece → Edit → Type 0
Allowed g l (takes id qs) = qs ≡ object_pairs g id l
Allowed g l (gives id qs) = (pieces_of id l ≡ []) × InOrder (late g id) (disc_bits g) 0 (map (own id) qs) × Ascending 0 (give id qs l)

-- the edits lead from one state to another
abbrev pub Trace : Geometry → Disc → List Edit → Disc → Type 0
Trace g s [] end = end ≡ s
Trace g s (e ∷ es) end = Allowed g s.pieces e × Trace g (edit g e s) es end

-- an edit keeps the pieces ascending
pub asc_edit : (g : Geometry) (s : Disc) (e : Edit) → Ascending 0 s.pieces → Allowed g s.pieces e → Ascending 0 (edit g e s).pieces
asc_edit g s (takes id qs) a h = asc_keep (not_of id) 0 s.pieces a
asc_edit g s (gives id qs) a h = h.2

-- an owner's pieces are its pairs
pub own_at : (id : ℕ) (l : List Piece) → All (is_of id) l → map (own id) (map (λ p. p.at) l) ≡ l
own_at id [] h = refl
own_at id (p ∷ ps) h = λ i. (record { at = p.at; owner = sym (eqb-true p.owner id h.0) i }) ∷ own_at id ps h.1 i

pub at_own : (id : ℕ) (qs : List Pair) → map (λ p. p.at) (map (own id) qs) ≡ qs
at_own id [] = refl
at_own id (q ∷ qs) = ap (λ (r : List Pair). q ∷ r) (at_own id qs)

pub all_own : (id : ℕ) (qs : List Pair) → All (is_of id) (map (own id) qs)
all_own id [] = tt
all_own id (q ∷ qs) = (eq-eqb id id refl, all_own id qs)

pub none_own : (id : ℕ) (qs : List Pair) → All (λ p. not (not_of id p)) (map (own id) qs)
none_own id [] = tt
none_own id (q ∷ qs) = (simp (eq-eqb id id refl), none_own id qs)

-- a released object's pairs, given back
pub give_back : (g : Geometry) (id : ℕ) (l : List Piece) → Ascending 0 l → give id (object_pairs g id l) (without id l) ≡ l
give_back g id l a =
    let X = pieces_of id l in
    let m = all_kept (is_of id) l in
    let t = late g id in
    let every : All (is_of id) (rotate t X) = all_append (is_of id) (keep t X) (keep (λ x. not (t x)) X) (all_keep (is_of id) t X m) (all_keep (is_of id) (λ x. not (t x)) X m) in
    ap (λ (r : List Piece). put r (without id l)) (own_at id (rotate t X) every)
    ∙ put_rotate t 0 X (without id l) (asc_keep (is_of id) 0 l a)
    ∙ put_kept (is_of id) 0 l a

-- an object given its pairs, and listed
pub read_back : (g : Geometry) (id : ℕ) (qs : List Pair) (l : List Piece) → Allowed g l (gives id qs) → object_pairs g id (give id qs l) ≡ qs
read_back g id qs l h =
    let ps = map (own id) qs in
    let e : pieces_of id (put ps l) ≡ put ps [] = keep_put (is_of id) 0 ps l (all_own id qs) h.2 ∙ ap (put ps) h.0 in
    let a : Ascending 0 (put ps []) = rw e at (asc_keep (is_of id) 0 (put ps l) h.2) in
    ap (λ (r : List Piece). map (λ p. p.at) (rotate (late g id) r)) e
    ∙ ap (map (λ p. p.at)) (order_back (late g id) (disc_bits g) 0 0 ps h.1 a)
    ∙ at_own id qs

-- an absent object given pairs, and released
pub take_back : (id : ℕ) (qs : List Pair) (l : List Piece) → pieces_of id l ≡ [] → without id (give id qs l) ≡ l
take_back id qs l h = keep_put_no (not_of id) (map (own id) qs) l (none_own id qs) ∙ without_absent id l h

pub same_disc : {s r : Disc} → s.pieces ≡ r.pieces → s.cross ≡ r.cross → s ≡ r
same_disc p q = λ i. record { pieces = p i; cross = q i }

-- two neighbours that cancel leave the state as it was
pub cancelled : (g : Geometry) (s : Disc) (a b : Edit) → Cancel a b → Ascending 0 s.pieces → Allowed g s.pieces a → Allowed g (edit g a s).pieces b → edit g b (edit g a s) ≡ s
cancelled g s a b (released id ps qs) asc ha hb = same_disc (take_back id ps s.pieces ha.0)
    (ap (λ (r : List Pair). crossed g r (crossed g ps s.cross)) (hb ∙ read_back g id ps s.pieces ha) ∙ each_twice s.cross _)
cancelled g s a b (restored id ps) asc ha hb = same_disc (ap (λ (r : List Pair). give id r (without id s.pieces)) ha ∙ give_back g id s.pieces asc) (each_twice s.cross _)

-- the trace with a cancelling pair struck out
pub struck : (g : Geometry) (s : Disc) (before : List Edit) (a b : Edit) (rest : List Edit) (end : Disc) → Cancel a b → Ascending 0 s.pieces → Trace g s (before ++ a ∷ b ∷ rest) end → Trace g s (before ++ rest) end
struck g s [] a b rest end c asc t = subst (λ (r : Disc). Trace g r rest end) (cancelled g s a b c asc t.0 t.1.0) t.1.1
struck g s (e ∷ es) a b rest end c asc t = (t.0, struck g (edit g e s) es a b rest end c (asc_edit g s e asc t.0) t.1)

-- a trace that is undone ends where it began
pub undone : (g : Geometry) (s end : Disc) {es : List Edit} → Undone es → Ascending 0 s.pieces → Trace g s es end → end ≡ s
undone g s end nothing asc t = t
undone g s end (strike before {a} {b} rest c u) asc t = undone g s end u asc (struck g s before a b rest end c asc t)
