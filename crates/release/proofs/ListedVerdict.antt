-- A release is judged as the object's listing is: 10 where the object has no piece, 17 where its pairs do not fit, else its pairs.
-- The pairs are the object's pieces in another order, so there are none of both or some of both.
use mathlib.Core.Path.{◌≡◌, refl, sym, ap, ◌∙◌}
use mathlib.Core.Bool.{true, not}
use mathlib.Core.List.{List, [], ◌∷◌}
use mathlib.Core.Option.{none}
use Prim.Native.Nat.{ℕ, ◌*◌, ◌%◌}
use native.Mathlib.Omega.{arith}
use lib.Dec.{eqb, leb, ltb}
use lib.ListN.{length}
use borrow.Author.Tests.{eq-eqb, lt-ltb, le-leb, leb-true}
use Rattle.std.specs.Prelude.{Ok, Err}
use Rattle.bits.proofs.Tests.{by_test, both, and_true}
use Rattle.geometry.specs.declared.Geometry.{Geometry}
use Rattle.geometry.specs.declared.Refusal.{Refusal}
use Rattle.geometry.specs.Record.{geometry_of}
use Rattle.geometry.specs.Places.{id_from}
use Rattle.model.specs.Chain.{Pair, Entry, numbers_of}
use Rattle.model.proofs.Lists.{length_numbers}
use Rattle.model.specs.Pieces.{Piece, pieces_of, object_pairs}
use Rattle.edits.specs.Edits.{takes, Edit}
use Rattle.model.specs.Answer.{Answer, refused, answered, unless, and_then}
use Rattle.edits.specs.Judge.{is_empty, editable, list_fits, judge}
use Rattle.edits.specs.Judge as judged
use Rattle.edits.specs.Steps.{pairs_told, bytes_after}
use Rattle.model.specs.Shown.{pieces_on}
use Rattle.listing.specs.Listed.{with_room, present, object_read, object_found, list_answer}
use Rattle.edits.specs.EditableMap.{EditableMap}
use Rattle.edits.proofs.EditableMap.{with_record}
use Rattle.geometry.specs.Accepted.{AcceptedGeometry}
use Rattle.edits.proofs.Kept.{some_length}
use Rattle.edits.proofs.PiecesKept.{AcceptedPieces}
use Rattle.edits.proofs.Returned.{listed_fits, pairs_numbers}
use Rattle.edits.proofs.PairsCounted.{pairs_count}

-- what the listing of an object with these pairs finds, and the verdict that goes with it
abbrev pub listing : ℕ → List Pair → Answer (List Pair)
listing room qs = and_then (present qs) (with_room room)

abbrev pub verdict_of : ℕ → Answer (List Pair) → Answer Edit
verdict_of id r = and_then r (λ (qs : List Pair). answered (takes id qs))

-- an object has no pair just if it has no piece
empty_alike : (ps : List Piece) (qs : List Pair) → length ps ≡ length qs → is_empty ps ≡ is_empty qs
empty_alike [] [] e = refl
empty_alike [] (q ∷ qs) e = absurd (omega arith)
empty_alike (p ∷ ps) [] e = absurd (omega arith)
empty_alike (p ∷ ps) (q ∷ qs) e = refl

by_room : (id room : ℕ) (qs : List Pair)
    → unless (not (is_empty qs)) 10 (unless (leb (2 * length qs) room) 17 (answered (takes id qs))) ≡ verdict_of id (listing room qs)
by_room id room [] = refl
by_room id room (q ∷ qs) = by_test (leb (2 * length (q ∷ qs)) room) (λ t. rw t) (λ t. rw t)

-- an id that edits name is one that the listing names
id_listed : (g : Geometry) (id : ℕ) → editable g id ≡ true → id_from 1 g id ≡ true
id_listed g id e =
    let t = both (leb 3 id) (ltb id (g.ids * g.zones)) e in
    and_true (leb 1 id) (ltb id (g.ids * g.zones)) (le-leb 1 id (omega (arith, leb-true 3 id t.0))) t.1

pub judged_as_listed : (g : Geometry) (l : List Piece) (id room : ℕ) → editable g id ≡ true → judge g none l (judged.release id room) ≡ verdict_of id (listing room (object_pairs g id l))
judged_as_listed g l id room e =
    rw (e, empty_alike (pieces_of id l) (object_pairs g id l) (sym (pairs_count g id l))) (by_room id room (object_pairs g id l))

-- the verdict tells the listing's pairs, and where the listing refuses nothing is written
pub told_back : (id : ℕ) (x : Answer (List Pair)) → pairs_told (verdict_of id x) ≡ x
told_back id (refused n z) = refl
told_back id (answered qs) = refl

pub nothing_written : (m : List ℕ) (id : ℕ) (x : Answer (List Pair)) {r : Refusal} → list_answer x ≡ Err r → bytes_after m (verdict_of id x) ≡ m
nothing_written m id (refused n z) e = refl
nothing_written m id (answered qs) e = cc

-- pairs told are the object's, and there are some
pub record Found (room : ℕ) (qs : List Pair) (n : ℕ) : Type 0 where
  pub told : listing room qs ≡ answered qs
  pub count : n ≡ length qs
  pub some : qs ≡ [] → ⊥

pub found_told : (room : ℕ) (qs : List Pair) (n : ℕ) → list_answer (listing room qs) ≡ Ok n → Found room qs n
found_told room [] n e = cc
found_told room (q ∷ qs) n e =
    by_test (leb (2 * length (q ∷ qs)) room)
    (λ t. let k : Ok (length (q ∷ qs)) ≡ Ok n = rw t at e in record { told = rw t; count = cc; some = λ s. cc })
    (λ t. let k : Err _ ≡ Ok n = rw t at e in cc)

-- an object's pairs are a list in its order
pub object_fits : {g : Geometry} {l : List Piece} → AcceptedGeometry g → AcceptedPieces g l → (id : ℕ) → (object_pairs g id l ≡ [] → ⊥) → list_fits g id (numbers_of (object_pairs g id l)) ≡ true
object_fits {g} {l} ok k id n =
    let qs = object_pairs g id l in
    let s : ltb 0 (length (numbers_of qs)) ≡ true = lt-ltb 0 (length (numbers_of qs)) (omega (arith, length_numbers qs, some_length qs n)) in
    let v : eqb (length (numbers_of qs) % 2) 0 ≡ true = eq-eqb (length (numbers_of qs) % 2) 0 (omega (arith, length_numbers qs)) in
    rw (s, v, pairs_numbers qs, listed_fits g ok id l k.fit k.clusters)

-- on a map that edits work on
pub found_is : {m : List ℕ} {g : Geometry} → EditableMap m g → (id room : ℕ) → editable g id ≡ true → object_found m id room ≡ listing room (object_pairs g id (pieces_on g m))
found_is {m} e id room =
    with_record e (λ (x : Geometry). editable x id ≡ true → object_found m id room ≡ listing room (object_pairs x id (pieces_on x m)))
    (λ w k. ap (λ (r : Answer (List (List Entry))). and_then r (object_read (geometry_of m) id room)) w.editable.accepted ∙ rw (id_listed (geometry_of m) id k))
