-- The calls that edit, judged on the pieces of an accepted map (document 01, "The calls", "Numbered refusals"; a claim by document 02,
-- R-6 and R-8): refused with a number in the table's order, or an edit. Assumes nothing.
use Rattle.std.specs.Prelude.{Bool, true, false, cond, not, ◌&&◌, List, [], ◌∷◌, ℕ, zero, suc, ◌+◌, ◌-◌, ◌*◌, ◌/◌, ◌%◌, max, eqb, ltb, leb, length}
use Rattle.std.proofs.Math.Option.{Option, none, some}
use Rattle.geometry.specs.declared.Geometry.{Geometry}
use Rattle.geometry.specs.Places.{zone_of, zone_end, disc_bits, start_zone, id_from}
use Rattle.model.specs.Answer.{Answer, refused, answered, unless, and_then}
use Rattle.model.specs.Chain.{Pair}
use Rattle.model.specs.Pieces.{Piece, pieces_of, late, rotate, object_pairs}
use Rattle.split.specs.Taken.{by_size, take_from, by_start}
use Rattle.edits.specs.Order.{rank}
use Rattle.edits.specs.Edits.{own, give, Edit, takes, gives}
use Rattle.edits.specs.Near.{zones_near}
use Rattle.edits.specs.Holes.{holes_of, holes_from, all_apart}

-- a release of an id with room for so many entries; a place of a list under an id; a claim of so many bytes near a parent zone, with room
-- for so many entries
pub data Call : Type 0 where
  release : ℕ → ℕ → Call
  place : ℕ → List ℕ → Call
  claim : ℕ → ℕ → ℕ → Call

abbrev pub is_empty {ℓ} : {A : Type ℓ} → List A → Bool
is_empty [] = true
is_empty (x ∷ xs) = false

-- 8: an "id argument outside .. 3 (sweep, edits) to P*nzones-1"
abbrev pub editable : Geometry → ℕ → Bool
editable g id = id_from 3 g id

abbrev pub call_fits : Geometry → Call → Bool
call_fits g (release id room) = editable g id
call_fits g (place id list) = editable g id
call_fits g (claim size parent room) = true

-- the pairs of a list that is handed in
abbrev pub pairs_from : List ℕ → List Pair
pairs_from [] = []
pairs_from (a ∷ []) = []
pairs_from (a ∷ b ∷ l) = record { start = a; len = b } ∷ pairs_from l

-- 12: "list empty, odd, out of object order, overlapping, a piece across zones or off the disc map, start or length not a
-- multiple of k, length below m"
abbrev pub in_one_zone : Geometry → ℕ → ℕ → Bool
in_one_zone g start end = leb end (disc_bits g) && leb end (zone_end g (zone_of g start))

abbrev pub pair_fits : Geometry → Pair → Bool
pair_fits g q =
    leb g.shortest q.len
    && (eqb (q.start % g.cluster) 0 && eqb (q.len % g.cluster) 0)
    && in_one_zone g q.start (q.start + q.len)

abbrev pub pairs_fit : Geometry → ℕ → ℕ → List Pair → Bool
pairs_fit g id from [] = true
pairs_fit g id from (q ∷ qs) =
    pair_fits g q && leb from (rank (late g id) (disc_bits g) (own id q))
    && pairs_fit g id (rank (late g id) (disc_bits g) (own id q) + q.len) qs

abbrev pub list_fits : Geometry → ℕ → List ℕ → Bool
list_fits g id l = ltb 0 (length l) && eqb (length l % 2) 0 && pairs_fit g id 0 (pairs_from l)

-- "Need = the larger of m and the size rounded up to clusters, in map bits."
abbrev pub need : Geometry → ℕ → ℕ
need g size = max g.shortest ((size + g.cluster * g.unit - 1) / (g.cluster * g.unit) * g.cluster)

-- "the first hole of length at least need"
abbrev pub first_hole : ℕ → List Pair → Option Pair
first_hole n [] = none
first_hole n (h ∷ hs) = cond (leb n h.len) (some h) (first_hole n hs)

-- "tries it, then one below, one above, two below and so on"; in a zone "holes ascending"
abbrev pub holes_near : Geometry → List Piece → ℕ → List Pair
holes_near g l parent = holes_of g l (zones_near g.zones parent)

-- R-8: "When no hole is long enough, take holes largest first": the holes that a claim takes, in their order. One that is long enough is taken alone.
abbrev pub in_turn : Geometry → List Piece → Option Pair → List Pair
in_turn g l (some h) = h ∷ []
in_turn g l none = by_size (holes_from g 0 g.zones l)

-- The pairs that are taken, in that order. Of one hole: "Take need bits from its start, or the whole hole if 1 to m-1 bits would remain."
abbrev pub taken_for : Geometry → List Piece → ℕ → ℕ → Option (List Pair)
taken_for g l n parent = take_from g.shortest n (in_turn g l (first_hole n (holes_near g l parent)))

-- the lowest number that passes a test, of n from `id` on; and so of the ids "from 3"
abbrev pub lowest : (ℕ → Bool) → ℕ → ℕ → Option ℕ
lowest t zero id = none
lowest t (suc n) id = let r = lowest t n (suc id) in cond (t id) (some id) r

abbrev pub lowest_id : Geometry → (ℕ → Bool) → Option ℕ
lowest_id g t = lowest t (g.ids * g.zones - 3) 3

-- "unused", and "whose start zone is the chosen zone"
abbrev pub unused : List Piece → ℕ → Bool
unused l id = is_empty (pieces_of id l)

abbrev pub unused_of : Geometry → List Piece → ℕ → ℕ → Bool
unused_of g l z id = eqb (start_zone g id) z && unused l id

-- "The id is the lowest unused one from 3 whose start zone is the chosen zone, and only if none is left the lowest unused from 3": `any` is the
-- lowest of all, and R-8 says which zone is chosen: "that of the first hole taken"
abbrev pub or_any : ℕ → Option ℕ → ℕ
or_any any none = any
or_any any (some id) = id

abbrev pub first_zone : Geometry → List Pair → ℕ
first_zone g [] = 0
first_zone g (q ∷ qs) = zone_of g q.start

abbrev pub id_for : Geometry → List Piece → ℕ → List Pair → ℕ
id_for g l any qs = or_any any (lowest_id g (unused_of g l (first_zone g qs)))

-- what a claim chooses: an id, and the pairs that it is to be given
pub record Choice : Type 0 where
  pub id : ℕ
  pub pairs : List Pair

abbrev pub choice : ℕ → List Pair → Choice
choice id qs = record { id = id; pairs = qs }

-- "The answer becomes a list in object order for the chosen id": the pairs ascending, those from the id's start zone on first
abbrev pub in_object_order : Geometry → ℕ → List Pair → List Pair
in_object_order g id qs = rotate (λ q. late g id (own id q)) (by_start qs)

abbrev pub choice_of : Geometry → ℕ → List Pair → Choice
choice_of g id qs = choice id (in_object_order g id qs)

-- 14: "no unused id"; 15: nothing can be taken, which the contract of `runs::edit_table` shows to be "exactly if all free bits together are fewer than
-- need"
abbrev pub choose_in : Geometry → List Piece → Option ℕ → Option (List Pair) → Answer Choice
choose_in g l none o = refused 14 0
choose_in g l (some any) none = refused 15 0
choose_in g l (some any) (some qs) = answered (choice_of g (id_for g l any qs) qs)

-- what a claim of so many bytes near a parent zone chooses: the one definition that another way of choosing replaces
abbrev pub chosen : Geometry → List Piece → ℕ → ℕ → Answer Choice
chosen g l size parent = choose_in g l (lowest_id g (unused l)) (taken_for g l (need g size) parent)

-- 12: "claim of 0 bytes"; "a parent zone (refusal 12 if not below nzones)"
abbrev pub claim_fits : Geometry → ℕ → ℕ → Bool
claim_fits g size parent = ltb 0 size && ltb parent g.zones

-- 17: "too few entries for the pairs"; "Then as place": the chosen pairs are given to the chosen id
abbrev pub by_room : ℕ → Choice → Answer Edit
by_room room c = unless (leb (2 * length c.pairs) room) 17 (answered (gives c.id c.pairs))

abbrev pub by_choice : ℕ → Answer Choice → Answer Edit
by_choice room r = and_then r (by_room room)

-- 9: "edits: two free fragments of a zone touch", where such a zone is found, or what comes after it
abbrev pub by_touching : Option ℕ → Answer Edit → Answer Edit
by_touching (some z) v = refused 9 z
by_touching none v = v

-- what comes after 8 and 9
abbrev pub judge_rest : Geometry → List Piece → Call → Answer Edit
judge_rest g l (release id room) =
    unless (not (is_empty (pieces_of id l))) 10
    (unless (leb (2 * length (object_pairs g id l)) room) 17
    (answered (takes id (object_pairs g id l))))
judge_rest g l (place id list) =
    unless (is_empty (pieces_of id l)) 11
    (unless (list_fits g id list) 12
    (unless (all_apart g 0 g.zones (give id (pairs_from list) l)) 13
    (answered (gives id (pairs_from list)))))
judge_rest g l (claim size parent room) = unless (claim_fits g size parent) 12 (by_choice room (chosen g l size parent))

-- the verdict on a disc's pieces, where free fragments touch in this zone or in none: 8, 9, then that
abbrev pub judge : Geometry → Option ℕ → List Piece → Call → Answer Edit
judge g touch l c = unless (call_fits g c) 8 (by_touching touch (judge_rest g l c))
