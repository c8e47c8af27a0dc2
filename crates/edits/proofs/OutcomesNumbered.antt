-- Each refusal of a call that edits has a number of the table.
use mathlib.Core.Path.{refl}
use mathlib.Core.Bool.{not}
use mathlib.Core.List.{List}
use mathlib.Core.Option.{Option, none, some}
use Prim.Native.Nat.{ℕ, ◌*◌}
use lib.Dec.{leb}
use lib.ListN.{length}
use Rattle.geometry.specs.declared.Geometry.{Geometry}
use Rattle.geometry.specs.Record.{geometry_of}
use Rattle.model.specs.Answer.{Answer}
use Rattle.model.specs.Chain.{Pair, Entry, touching}
use Rattle.model.specs.Pieces.{Piece, pieces_of, object_pairs, pieces_of_zones}
use Rattle.model.proofs.Numbered.{Numbered, no_refusal, refused_by, unless_numbered, then_numbered, map_numbered}
use Rattle.edits.specs.Edits.{give, Edit}
use Rattle.edits.specs.Holes.{all_apart}
use Rattle.edits.specs.Judge.{is_empty, pairs_from, list_fits, Call, release, place, claim, call_fits, Choice, choose_in, chosen, claim_fits, by_room, by_touching, judge_rest, lowest_id, unused, taken_for, need}
use Rattle.edits.specs.Steps.{by_read, outcome}

room_numbered : (room : ℕ) (c : Choice) → Numbered (by_room room c)
room_numbered room c = unless_numbered (leb (2 * length c.pairs) room) 17 refl no_refusal

choice_numbered : (g : Geometry) (l : List Piece) (i : Option ℕ) (o : Option (List Pair)) → Numbered (choose_in g l i o)
choice_numbered g l none o = refused_by 14 refl
choice_numbered g l (some any) none = refused_by 15 refl
choice_numbered g l (some any) (some qs) = no_refusal

rest_numbered : (g : Geometry) (l : List Piece) (c : Call) → Numbered (judge_rest g l c)
rest_numbered g l (release id room) =
    unless_numbered (not (is_empty (pieces_of id l))) 10 refl (unless_numbered (leb (2 * length (object_pairs g id l)) room) 17 refl no_refusal)
rest_numbered g l (place id list) =
    unless_numbered (is_empty (pieces_of id l)) 11 refl
    (unless_numbered (list_fits g id list) 12 refl (unless_numbered (all_apart g 0 g.zones (give id (pairs_from list) l)) 13 refl no_refusal))
rest_numbered g l (claim size parent room) =
    unless_numbered (claim_fits g size parent) 12 refl
    (then_numbered (by_room room) (choice_numbered g l (lowest_id g (unused l)) (taken_for g l (need g size) parent)) (room_numbered room))

touching_numbered : (o : Option ℕ) {v : Answer Edit} → Numbered v → Numbered (by_touching o v)
touching_numbered (some z) k = refused_by 9 refl
touching_numbered none k = k

pub outcome_numbered : (m : List ℕ) (c : Call) → Numbered (outcome m c)
outcome_numbered m c =
    then_numbered (by_read (geometry_of m) c) (map_numbered m)
    (λ (ess : List (List Entry)). unless_numbered (call_fits (geometry_of m) c) 8 refl (touching_numbered (touching 0 ess) (rest_numbered (geometry_of m) (pieces_of_zones (geometry_of m) 0 ess) c)))
