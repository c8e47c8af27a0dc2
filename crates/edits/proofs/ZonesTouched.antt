-- What an edit does to one zone: to its pieces and to its cross check, each by the zone's place. In a zone that it does not
-- touch it does nothing.
use mathlib.Core.Path.{◌≡◌, refl, sym, ap, ap₂, ◌∙◌}
use mathlib.Core.Bool.{Bool, true, false, cond, not, true≢false}
use mathlib.Core.List.{List, [], ◌∷◌, map}
use mathlib.Core.Logic.{inl, inr}
use Prim.Native.Nat.{ℕ, zero, suc, ◌+◌, ◌<◌, ◌≤◌}
use native.Mathlib.Nat.{zero-add}
use native.Mathlib.Omega.{arith}
use lib.Dec.{eqb, ltb}
use lib.Bits.{bit_xor, xor_zero_r}
use lib.ListN.{length, get_or, take, length-append}
use borrow.Author.Tests.{lt-ltb, ltb-false, eqb-true, eq-eqb}
use Rattle.bits.proofs.Tests.{by_test, or_left, or_right}
use Rattle.checks.specs.Cross.{amount, touched_count, changes, xor_each}
use Rattle.checks.proofs.Changes.{changes_from_law}
use Rattle.geometry.specs.declared.Geometry.{Geometry}
use Rattle.geometry.specs.Places.{zone_of}
use Rattle.model.specs.Chain.{Pair}
use Rattle.model.specs.Pieces.{Piece, keep, is_of, pieces_of, late, rotate, object_pairs}
use Rattle.model.proofs.Lists.{keep_append}
use Rattle.edits.specs.Editable.{TouchedBy}
use Rattle.edits.specs.Edits.{Disc, not_of, without, put, own, give, touches, touched_from, touched_zones, crossed, Edit, takes, gives, pairs_in, edit, in_zone}
use Rattle.edits.proofs.Kept.{All, keep_comm, length_parts}
use Rattle.edits.proofs.ByPlace.{Weak, keep_put_by_place}
use Rattle.edits.proofs.PutIn.{keep_put_no, without_absent}
use Rattle.edits.proofs.Undo.{Allowed}
use Rattle.edits.proofs.RunsKept.{cross_edit}
use Rattle.edits.proofs.ZonePlaces.{zone_of_piece}

-- the touched zones counted, one more
pub count_next : (g : Geometry) (qs : List Pair) (y n : ℕ) → touched_count (touched_from g qs y (suc n)) ≡ touched_count (touched_from g qs y n) + cond (touches g (y + n) qs) 1 0
count_next g qs y zero =
    let e : y + 0 ≡ y = omega arith in
    by_test (touches g y qs) (λ t. rw (e, t) refl) (λ t. rw (e, t) refl)
count_next g qs y (suc n) =
    let e : suc y + n ≡ y + suc n = omega arith in
    let r : touched_count (touched_from g qs (suc y) (suc n)) ≡ touched_count (touched_from g qs (suc y) n) + cond (touches g (y + suc n) qs) 1 0 =
    count_next g qs (suc y) n ∙ ap (λ (x : ℕ). touched_count (touched_from g qs (suc y) n) + cond (touches g x qs) 1 0) e in
    by_test (touches g y qs)
    (λ t. simp t (omega (arith, r)))
    (λ t. simp t r)

-- an edit's pairs lie in a zone just if it has pieces there
pub touches_pieces : (g : Geometry) (z : ℕ) (l : List Piece) → touches g z (map (λ p. p.at) l) ≡ ltb 0 (length (in_zone g z l))
touches_pieces g z [] = refl
touches_pieces g z (x ∷ xs) =
    by_test (eqb (zone_of_piece g x) z)
    (λ t. simp t (sym (lt-ltb 0 (suc (length (in_zone g z xs))) (omega arith))))
    (λ t. simp (t, touches_pieces g z xs))

pub touches_object : (g : Geometry) (z id : ℕ) (l : List Piece) → touches g z (object_pairs g id l) ≡ ltb 0 (length (pieces_of id (in_zone g z l)))
touches_object g z id l =
    let t = late g id in
    let X = pieces_of id l in
    let u : Piece → Bool = λ p. eqb (zone_of_piece g p) z in
    let n : length (keep u (rotate t X)) ≡ length (pieces_of id (keep u l)) =
    ap length (keep_append u (keep t X) (keep (λ x. not (t x)) X)) ∙ length-append (keep u (keep t X)) (keep u (keep (λ x. not (t x)) X))
    ∙ ap₂ (λ (x y : List Piece). length x + length y) (keep_comm u t X) (keep_comm u (λ x. not (t x)) X)
    ∙ length_parts t (keep u X) ∙ ap length (keep_comm u (is_of id) l) in
    touches_pieces g z (rotate t X) ∙ ap (ltb 0) n

-- a zone's pieces after an edit
pub zone_without : (g : Geometry) (z id : ℕ) (l : List Piece) → in_zone g z (without id l) ≡ without id (in_zone g z l)
zone_without g z id l = keep_comm (λ p. eqb (zone_of_piece g p) z) (not_of id) l

pub zone_give : (g : Geometry) (z id : ℕ) (qs : List Pair) (l : List Piece) → Weak 0 l → in_zone g z (give id qs l) ≡ put (in_zone g z (map (own id) qs)) (in_zone g z l)
zone_give g z id qs l w = keep_put_by_place (λ p. eqb (zone_of_piece g p) z) (map (own id) qs) l w

no_length : (l : List Piece) → ltb 0 (length l) ≡ false → l ≡ []
no_length [] h = refl
no_length (x ∷ xs) h = absurd (omega (arith, ltb-false 0 (suc (length xs)) h))

none_there : (g : Geometry) (z id : ℕ) (qs : List Pair) → touches g z qs ≡ false → All (λ p. not (eqb (zone_of_piece g p) z)) (map (own id) qs)
none_there g z id [] h = tt
none_there g z id (q ∷ qs) h =
    by_test (eqb (zone_of g q.start) z)
    (λ t. absurd (true≢false (simp t at h)))
    (λ t. simp t (refl, none_there g z id qs (simp t at h)))

pub untouched_pieces : (g : Geometry) (z : ℕ) (s : Disc) (e : Edit) → Allowed g s.pieces e → touches g z (pairs_in e) ≡ false → in_zone g z (edit g e s).pieces ≡ in_zone g z s.pieces
untouched_pieces g z s (takes id qs) a h =
    let none : ltb 0 (length (pieces_of id (in_zone g z s.pieces))) ≡ false = sym (touches_object g z id s.pieces) ∙ ap (touches g z) (sym a) ∙ h in
    zone_without g z id s.pieces ∙ without_absent id (in_zone g z s.pieces) (no_length _ none)
untouched_pieces g z s (gives id qs) a h = keep_put_no (λ p. eqb (zone_of_piece g p) z) (map (own id) qs) s.pieces (none_there g z id qs h)

-- cross checks by their place
pub touched_at : (g : Geometry) (qs : List Pair) (z n i : ℕ) → i < n → get_or (touched_from g qs z n) i false ≡ touches g (z + i) qs
touched_at g qs z zero i h = absurd (omega arith)
touched_at g qs z (suc n) zero h = let e : z ≡ z + 0 = omega arith in ap (λ (j : ℕ). touches g j qs) e
touched_at g qs z (suc n) (suc i) h =
    let e : suc z + i ≡ z + suc i = omega arith in
    touched_at g qs (suc z) n i (omega arith) ∙ ap (λ (j : ℕ). touches g j qs) e

pub touched_below : (g : Geometry) (qs : List Pair) (z n i : ℕ) → i ≤ n → take i (touched_from g qs z n) ≡ touched_from g qs z i
touched_below g qs z n zero h = refl
touched_below g qs z zero (suc i) h = absurd (omega arith)
touched_below g qs z (suc n) (suc i) h = ap (λ (r : List Bool). touches g z qs ∷ r) (touched_below g qs (suc z) n i (omega arith))

pub each_at : (cs vs : List ℕ) (z : ℕ) → z < length cs → get_or (xor_each cs vs) z 0 ≡ bit_xor (get_or cs z 0) (get_or vs z 0)
each_at [] vs z h = absurd (omega arith)
each_at (c ∷ cs) [] z h = sym (xor_zero_r (get_or (c ∷ cs) z 0))
each_at (c ∷ cs) (v ∷ vs) zero h = refl
each_at (c ∷ cs) (v ∷ vs) (suc z) h = each_at cs vs z (omega arith)

-- the list of the touched zones: of all zones, and true exactly where a pair lies
pub touched_length : (g : Geometry) (qs : List Pair) (z n : ℕ) → length (touched_from g qs z n) ≡ n
touched_length g qs z zero = refl
touched_length g qs z (suc n) = ap suc (touched_length g qs (suc z) n)

pub touches_told : (g : Geometry) (z : ℕ) (qs : List Pair) → touches g z qs ≡ true → TouchedBy g qs z
touches_told g z [] e = absurd (true≢false (sym e))
touches_told g z (q ∷ qs) e =
    by_test (eqb (zone_of g q.start) z)
    (λ t. (q, inl refl, eqb-true (zone_of g q.start) z t))
    (λ t. let r = touches_told g z qs (rw t at e) in (r.0, inr r.1, r.2))

pub told_touches : (g : Geometry) (z : ℕ) (qs : List Pair) → TouchedBy g qs z → touches g z qs ≡ true
told_touches g z [] (q, i, e) = absurd i
told_touches g z (x ∷ qs) (q, inl i, e) = or_left (eqb (zone_of g x.start) z) (touches g z qs) (eq-eqb (zone_of g x.start) z (ap (λ (y : Pair). zone_of g y.start) (sym i) ∙ e))
told_touches g z (x ∷ qs) (q, inr i, e) = or_right (eqb (zone_of g x.start) z) (touches g z qs) (told_touches g z qs (q, i, e))

pub not_touched : (g : Geometry) (z : ℕ) (qs : List Pair) → (TouchedBy g qs z → ⊥) → touches g z qs ≡ false
not_touched g z qs n = by_test (touches g z qs) (λ t. absurd (n (touches_told g z qs t))) (λ t. t)

-- what a zone's cross check is exclusive-ored with: the i-th touched zone is the one with i touched zones below it
abbrev pub change_at : Geometry → List Pair → ℕ → ℕ
change_at g qs z = cond (touches g z qs) (amount (touched_count (touched_zones g qs)) (touched_count (touched_from g qs 0 z))) 0

pub crossed_at : (g : Geometry) (qs : List Pair) (cs : List ℕ) (z : ℕ) → length cs ≡ g.zones → z < g.zones
    → get_or (crossed g qs cs) z 0 ≡ bit_xor (get_or cs z 0) (change_at g qs z)
crossed_at g qs cs z e h =
    let n = touched_count (touched_zones g qs) in
    let i : 0 + touched_count (take z (touched_zones g qs)) ≡ touched_count (touched_from g qs 0 z) =
    zero-add _ ∙ ap touched_count (touched_below g qs 0 g.zones z (omega arith)) in
    let b : get_or (touched_zones g qs) z false ≡ touches g z qs = touched_at g qs 0 g.zones z h ∙ ap (λ (j : ℕ). touches g j qs) (zero-add z) in
    each_at cs (changes (touched_zones g qs)) z (omega arith)
    ∙ ap (bit_xor (get_or cs z 0)) (changes_from_law n 0 (touched_zones g qs) z ∙ ap₂ (λ (b : Bool) (j : ℕ). cond b (amount n j) 0) b i)

pub untouched_cross : (g : Geometry) (z : ℕ) (s : Disc) (e : Edit) → length s.cross ≡ g.zones → z < g.zones → touches g z (pairs_in e) ≡ false → get_or (edit g e s).cross z 0 ≡ get_or s.cross z 0
untouched_cross g z s e n h t =
    ap (λ (cs : List ℕ). get_or cs z 0) (cross_edit g e s)
    ∙ crossed_at g (pairs_in e) s.cross z n h
    ∙ rw t (xor_zero_r (get_or s.cross z 0))
