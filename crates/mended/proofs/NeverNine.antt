-- Where no two free fragments touch, no edit is refused with 9: each line after 8 and 9 gives its own number, and none of them is 9.
use mathlib.Core.Path.{◌≡◌}
use mathlib.Core.Bool.{Bool, true, false, not}
use mathlib.Core.List.{List}
use mathlib.Core.Option.{Option, none, some}
use Prim.Native.Nat.{ℕ, ◌*◌}
use native.Mathlib.Omega.{arith}
use lib.Dec.{leb}
use lib.ListN.{length}
use Rattle.geometry.specs.declared.Geometry.{Geometry}
use Rattle.model.specs.Answer.{Answer, refused, answered, unless}
use Rattle.model.specs.Chain.{Pair}
use Rattle.model.specs.Pieces.{Piece, pieces_of, object_pairs}
use Rattle.edits.specs.Edits.{give, Edit, takes, gives}
use Rattle.edits.specs.Holes.{all_apart}
use Rattle.edits.specs.Judge.{Call, release, place, claim, is_empty, call_fits, pairs_from, list_fits, need, taken_for, lowest_id, unused, id_for, Choice, choice_of, choose_in, claim_fits, by_room, by_choice, judge_rest, judge}

abbrev NotNine : Answer Edit → Type 0
NotNine r = (z : ℕ) → r ≡ refused 9 z → ⊥

answer_not : (e : Edit) → NotNine (answered e)
answer_not e z k = let x : ◌≡◌ {A = ℕ} 0 1 = cc in omega arith

number_not : (n i : ℕ) → (n ≡ 9 → ⊥) → NotNine (refused n i)
number_not n i h z k = h cc

unless_not : (b : Bool) (n : ℕ) (r : Answer Edit) → (n ≡ 9 → ⊥) → NotNine r → NotNine (unless b n r)
unless_not true n r h k = k
unless_not false n r h k = number_not n 0 h

-- 14, 15, or 17 for what is chosen
room_not : (room : ℕ) (c : Choice) → NotNine (by_room room c)
room_not room c = unless_not (leb (2 * length c.pairs) room) 17 (answered (gives c.id c.pairs)) (λ e. omega arith) (answer_not _)

choice_not : (room : ℕ) (g : Geometry) (l : List Piece) (o : Option ℕ) (t : Option (List Pair)) → NotNine (by_choice room (choose_in g l o t))
choice_not room g l none t = number_not 14 0 (λ e. omega arith)
choice_not room g l (some any) none = number_not 15 0 (λ e. omega arith)
choice_not room g l (some any) (some qs) = room_not room (choice_of g (id_for g l any qs) qs)

rest_not : (g : Geometry) (l : List Piece) (c : Call) → NotNine (judge_rest g l c)
rest_not g l (release id room) =
    unless_not (not (is_empty (pieces_of id l))) 10 _ (λ e. omega arith)
    (unless_not (leb (2 * length (object_pairs g id l)) room) 17 _ (λ e. omega arith) (answer_not (takes id (object_pairs g id l))))
rest_not g l (place id list) =
    unless_not (is_empty (pieces_of id l)) 11 _ (λ e. omega arith)
    (unless_not (list_fits g id list) 12 _ (λ e. omega arith)
    (unless_not (all_apart g 0 g.zones (give id (pairs_from list) l)) 13 _ (λ e. omega arith) (answer_not (gives id (pairs_from list)))))
rest_not g l (claim size parent room) =
    unless_not (claim_fits g size parent) 12 _ (λ e. omega arith) (choice_not room g l (lowest_id g (unused l)) (taken_for g l (need g size) parent))

pub never_nine : (g : Geometry) (l : List Piece) (c : Call) → NotNine (judge g none l c)
never_nine g l c = unless_not (call_fits g c) 8 (judge_rest g l c) (λ e. omega arith) (rest_not g l c)
