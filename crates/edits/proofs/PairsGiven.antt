-- What an accepted call that gives pairs has tested: its id is an ordinary one, it gives some pairs, and a place of the same pairs under
-- the same id is accepted too. So a claim is the place of its pairs.
use mathlib.Core.Path.{◌≡◌, refl, sym, ap, ◌∙◌, subst}
use mathlib.Core.Bool.{true, not, ◌&&◌}
use mathlib.Core.List.{List, [], ◌∷◌}
use mathlib.Core.Option.{none}
use Prim.Native.Nat.{ℕ, ◌%◌, ◌<◌}
use native.Mathlib.Omega.{arith}
use lib.Dec.{eqb, ltb}
use lib.ListN.{length, length-append, length-map}
use borrow.Author.Tests.{eqb-true, eq-eqb, ltb-true, lt-ltb}
use Rattle.bits.proofs.Tests.{both, and_true}
use Rattle.geometry.specs.declared.Geometry.{Geometry}
use Rattle.geometry.specs.Accepted.{AcceptedGeometry}
use Rattle.model.specs.Chain.{Pair, numbers_of}
use Rattle.model.specs.Pieces.{Piece, keep, pieces_of, late, rotate, object_pairs}
use Rattle.model.proofs.Lists.{length_numbers}
use Rattle.edits.specs.Edits.{Disc, give, Edit, takes, gives}
use Rattle.edits.specs.Holes.{all_apart}
use Rattle.model.specs.Answer.{answered}
use Rattle.edits.specs.Judge.{Call, release, place, claim, is_empty, editable, pairs_from, pairs_fit, list_fits, judge}
use Rattle.edits.proofs.Kept.{length_parts, some_length}
use Rattle.edits.proofs.HolesLeft.{apart_all}
use Rattle.edits.proofs.Undo.{read_back}
use Rattle.edits.proofs.Chosen.{chosen_id}
use Rattle.edits.proofs.RunsKept.{release_tests, place_tests, claim_tests, allowed}
use Rattle.edits.proofs.Returned.{listed_fits, pairs_numbers}
use Rattle.edits.proofs.PiecesKept.{AcceptedPieces, accepted_edit}

pub record GivenFacts (g : Geometry) (e : Edit) (id : ℕ) (qs : List Pair) : Type 0 where
  pub ordinary : editable g id ≡ true
  pub some_pairs : qs ≡ [] → ⊥

pairs_some : (list : List ℕ) → 0 < length list → length list % 2 ≡ 0 → pairs_from list ≡ [] → ⊥
pairs_some [] h k e = omega arith
pairs_some (a ∷ []) h k e = omega arith
pairs_some (a ∷ b ∷ l) h k e = let z : ◌≡◌ {A = ℕ} 0 1 = cc in omega arith

-- an object that lists no pairs has no pieces
pub none_listed : (g : Geometry) (id : ℕ) (l : List Piece) → object_pairs g id l ≡ [] → pieces_of id l ≡ []
none_listed g id l e =
    let X = pieces_of id l in
    let k : length (object_pairs g id l) ≡ length X =
    length-map (rotate (late g id) X) (λ (p : Piece). p.at) ∙ length-append (keep (late g id) X) (keep (λ x. not (late g id x)) X) ∙ length_parts (late g id) X in
    no_length X (sym k ∙ ap length e)
  where
    no_length : (l : List Piece) → length l ≡ 0 → l ≡ []
    no_length [] h = refl
    no_length (p ∷ ps) h = absurd (omega arith)

taken_given : {id jd : ℕ} {ps qs : List Pair} → takes id ps ≡ gives jd qs → ⊥
taken_given h = let z : ◌≡◌ {A = ℕ} 0 1 = cc in omega arith

given_id : {id jd : ℕ} {ps qs : List Pair} → gives id ps ≡ gives jd qs → id ≡ jd
given_id h = cc

given_pairs : {id jd : ℕ} {ps qs : List Pair} → gives id ps ≡ gives jd qs → ps ≡ qs
given_pairs h = cc

pub given_facts : (g : Geometry) → AcceptedGeometry g → (l : List Piece) (c : Call) (id : ℕ) (qs : List Pair) → judge g none l c ≡ answered (gives id qs) → GivenFacts g (gives id qs) id qs
given_facts g ok l (release jd room) id qs h = absurd (taken_given (release_tests g l jd room (gives id qs) h).3)
given_facts g ok l (place jd list) id qs h =
    let t = place_tests g l jd list (gives id qs) h in
    let f = both (ltb 0 (length list) && eqb (length list % 2) 0) (pairs_fit g jd 0 (pairs_from list)) t.2 in
    let k = both (ltb 0 (length list)) (eqb (length list % 2) 0) f.0 in
    record {
      ordinary = subst (λ (x : ℕ). editable g x ≡ true) (given_id t.4) t.0;
      some_pairs = λ n. pairs_some list (ltb-true 0 (length list) k.0) (eqb-true (length list % 2) 0 k.1) (given_pairs t.4 ∙ n);
    }
given_facts g ok l (claim size parent room) id qs h =
    let t = claim_tests g l size parent room (gives id qs) h in
    let c = chosen_id g l size parent t.0 t.1 t.2 ok in
    record {
      ordinary = subst (λ (x : ℕ). editable g x ≡ true) (given_id t.3) c.ordinary;
      some_pairs = λ n. c.some_pairs (given_pairs t.3 ∙ n);
    }

-- a place of the same pairs
pub given_placed : (g : Geometry) (ok : AcceptedGeometry g) (s : Disc) → AcceptedPieces g s.pieces → (c : Call) (id : ℕ) (qs : List Pair) → judge g none s.pieces c ≡ answered (gives id qs)
    → judge g none s.pieces (place id (numbers_of qs)) ≡ answered (gives id qs)
given_placed g ok s k c id qs h =
    let l = s.pieces in
    let a = allowed g l c (gives id qs) ok k.fit h in
    let f = given_facts g ok l c id qs h in
    let fit = a.1 s.cross in
    let e : pairs_from (numbers_of qs) ≡ qs = pairs_numbers qs in
    let p : pairs_fit g id 0 qs ≡ true = subst (λ (x : List Pair). pairs_fit g id 0 x ≡ true) (read_back g id qs l a.0) (listed_fits g ok id (give id qs l) fit (accepted_edit g ok s k c (gives id qs) h).clusters) in
    let t : is_empty (pieces_of id l) ≡ true = ap is_empty a.0.0 in
    let n : ltb 0 (length (numbers_of qs)) ≡ true = lt-ltb 0 (length (numbers_of qs)) (omega (arith, length_numbers qs, some_length qs f.some_pairs)) in
    let v : eqb (length (numbers_of qs) % 2) 0 ≡ true = eq-eqb (length (numbers_of qs) % 2) 0 (omega (arith, length_numbers qs)) in
    let w : list_fits g id (numbers_of qs) ≡ true = and_true (ltb 0 (length (numbers_of qs)) && eqb (length (numbers_of qs) % 2) 0) (pairs_fit g id 0 (pairs_from (numbers_of qs)))
    (and_true (ltb 0 (length (numbers_of qs))) (eqb (length (numbers_of qs) % 2) 0) n v) (subst (λ (x : List Pair). pairs_fit g id 0 x ≡ true) (sym e) p) in
    let d : all_apart g 0 g.zones (give id (pairs_from (numbers_of qs)) l) ≡ true = subst (λ (x : List Pair). all_apart g 0 g.zones (give id x l) ≡ true) (sym e) (apart_all g 0 g.zones (give id qs l) (λ i lo hi. fit.parts i (omega arith))) in
    simp (f.ordinary, t, w, d) (ap (λ (x : List Pair). answered (gives id x)) e)
