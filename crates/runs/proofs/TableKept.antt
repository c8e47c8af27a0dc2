-- Release, place and claim by their lines: each test of the definitions is the line that it stands for, in the table's order.
use mathlib.Core.Path.{◌≡◌, refl, sym, ap, ◌∙◌, subst}
use mathlib.Core.Bool.{Bool, true, false, not, ◌&&◌, false≢true}
use mathlib.Core.List.{List, [], ◌∷◌}
use mathlib.Core.Option.{Option, none, some}
use mathlib.Core.Logic.{◌⊎◌, ◌↔◌, inl, inr}
use Prim.Native.Nat.{ℕ, ◌*◌, ◌%◌, ◌<◌, ◌≤◌}
use native.Mathlib.Omega.{arith}
use lib.Dec.{eqb, ltb, leb}
use lib.ListN.{length}
use borrow.Author.Tests.{ltb-true, ltb-false, lt-ltb, leb-true, leb-false, le-leb}
use Rattle.bits.specs.Bits.{Bytes}
use Rattle.bits.proofs.Tests.{by_test, both, and_true}
use Rattle.geometry.specs.declared.Geometry.{Geometry}
use Rattle.geometry.specs.Record.{geometry_of}
use Rattle.model.specs.Answer.{Answer, answered, unless}
use Rattle.model.specs.Chain.{Pair, Entry, touching}
use Rattle.model.specs.Check.{map_read}
use Rattle.model.specs.Pieces.{Piece, pieces_of}
use Rattle.model.specs.Refusals.{Refusing, LinesSay, TableSays, ByLines, ByTable, Exactly}
use Rattle.model.specs.Shown.{zones_in, zones_of, pieces_on, listed_on}
use Rattle.model.specs.Rules.{MapRules}
use Rattle.model.proofs.MapJudged.{rules_accepted}
use Rattle.model.proofs.LinesJudged.{OneZone, line_one, unless_says, unless_line, table_says, by_table}
use Rattle.edits.specs.Edits.{Edit, give, takes, gives}
use Rattle.edits.specs.Holes.{all_apart}
use Rattle.edits.specs.Judge.{release, place, claim, is_empty, editable, pairs_from, pairs_fit, list_fits, need, taken_for, lowest_id, unused, id_for, choice, in_object_order, choose_in, chosen, claim_fits, by_room, by_choice, judge_rest, by_touching}
use Rattle.edits.specs.Steps.{by_read, outcome}
use Rattle.edits.specs.Editable.{Editable}
use Rattle.edits.proofs.Chosen.{empty, lowest_id_law, no_lowest_id}
use Rattle.edits.proofs.MapAccepted.{map_geometry}
use Rattle.edits.proofs.PairsGiven.{none_listed}
use Rattle.edits.proofs.ReadsAfter.{same_pieces}
use Rattle.runs.specs.ListRules.{ListRules}
use Rattle.runs.specs.ListRoom.{NoRoom}
use Rattle.runs.specs.Claims.{ClaimRules}
use Rattle.runs.specs.Refusals.{nine, ten, eleven, twelve, twelve_claim, thirteen, fourteen, fifteen, seventeen, seventeen_claim, release_lines, place_lines, claim_lines, ClaimTakes}
use Rattle.runs.proofs.Touches.{map_apart, map_touches}
use Rattle.runs.proofs.Twelve.{fits_gives_rules, rules_give_fits}
use Rattle.runs.proofs.RoomForList as room
use Rattle.runs.proofs.ClaimsJudged.{too_few_bits, enough_bits, claim_rules}
use Rattle.runs.proofs.OneClaim.{same_list, one_claim}

-- 9 tells one zone
pub nine_one : (m : List ℕ) → OneZone (nine m)
nine_one m y z a b =
    by_test (ltb y z)
    (λ t. absurd (b.none_lower y (ltb-true y z t) a.touch))
    (λ t. by_test (ltb z y)
    (λ u. absurd (a.none_lower z (ltb-true z y u) b.touch))
    (λ u. omega (arith, ltb-false y z t, ltb-false z y u)))

-- 8
id_outside : (g : Geometry) (id : ℕ) → editable g id ≡ false → (3 ≤ id) × (id < g.ids * g.zones) → ⊥
id_outside g id e h = false≢true (sym e ∙ and_true (leb 3 id) (ltb id (g.ids * g.zones)) (le-leb 3 id h.0) (lt-ltb id (g.ids * g.zones) h.1))

id_inside : (g : Geometry) (id : ℕ) → editable g id ≡ true → (3 ≤ id) × (id < g.ids * g.zones)
id_inside g id e = let b = both (leb 3 id) (ltb id (g.ids * g.zones)) e in (leb-true 3 id b.0, ltb-true id (g.ids * g.zones) b.1)

not_true : (b : Bool) → not b ≡ true → b ≡ true → ⊥
not_true true e f = false≢true e
not_true false e f = false≢true f

not_false : (b : Bool) → not b ≡ false → b ≡ true
not_false true e = refl
not_false false e = absurd (false≢true (sym e))

module _ (m : List ℕ) where
  abbrev g : Geometry
  g = geometry_of m

  abbrev l : List Piece
  l = pieces_on (geometry_of m) m

  -- an object without pieces lists none, and the other way round
  absent : (id : ℕ) → is_empty (pieces_of id (pieces_on (geometry_of m) m)) ≡ true → listed_on m id ≡ []
  absent id e = same_pieces g id l [] (empty (pieces_of id l) e)

  listed : (id : ℕ) → listed_on m id ≡ [] → is_empty (pieces_of id (pieces_on (geometry_of m) m)) ≡ true
  listed id e = ap is_empty (none_listed g id l e)

  module _ (ess : List (List Entry)) (e : map_read m ≡ answered ess) where
    zones_read_law : zones_of m ≡ ess
    zones_read_law = ap zones_in e

    read_zones : map_read m ≡ answered (zones_of m)
    read_zones = e ∙ ap answered (sym zones_read_law)

  -- 9: the zone that is found is the one told
  module _ (w : MapRules m) where
    map_read_law : map_read m ≡ answered (zones_of m)
    map_read_law = let q = rules_accepted m w in read_zones q.0 q.1

    pub touching_told : (z : ℕ) → touching 0 (zones_of m) ≡ some z ↔ (nine m).given z
    touching_told z = (map_touches m (zones_of m) map_read_law z, λ k. go k (touching 0 (zones_of m)) refl)
      where
        go : (nine m).given z → (o : Option ℕ) → touching 0 (zones_of m) ≡ o → o ≡ some z
        go k none t = absurd (map_apart m (zones_of m) map_read_law t z k.touch)
        go k (some y) t = ap some (nine_one m y z (map_touches m (zones_of m) map_read_law y t) k)

    pub none_touching : touching 0 (zones_of m) ≡ none ↔ ((z : ℕ) → (nine m).given z → ⊥)
    none_touching = (λ t z k. map_apart m (zones_of m) map_read_law t z k.touch, λ k. go k (touching 0 (zones_of m)) refl)
      where
        go : ((z : ℕ) → (nine m).given z → ⊥) → (o : Option ℕ) → touching 0 (zones_of m) ≡ o → o ≡ none
        go k none t = refl
        go k (some y) t = absurd (k y (map_touches m (zones_of m) map_read_law y t))

  -- 9 and what comes after it
  touch_line : map_read m ≡ answered (zones_of m) → (ls : List Refusing) (O : Answer Edit → Type 0) (v : Answer Edit) (o : Option ℕ) → touching 0 (zones_of m) ≡ o
      → (o ≡ none → LinesSay ls O v) → LinesSay (nine m ∷ ls) O (by_touching o v)
  touch_line r ls O v none t h = inr ((λ z k. map_apart m (zones_of m) r t z k.touch), h refl)
  touch_line r ls O v (some z) t h = inl (z, map_touches m (zones_of m) r z t, refl)

  -- release
  module _ (id room : ℕ) where
    abbrev taken_off : Edit
    taken_off = takes id (listed_on m id)

    released : ByLines (ten m id ∷ seventeen m id room ∷ []) (takes id (listed_on m id)) (judge_rest (geometry_of m) (pieces_on (geometry_of m) m) (release id room))
    released =
        let n = 2 * length (listed_on m id) in
        let last = unless (leb n room) 17 (answered taken_off) in
        unless_line (not (is_empty (pieces_of id l))) 10 (listed_on m id ≡ []) (seventeen m id room ∷ []) taken_off last
        (λ u. absent id (not_false (is_empty (pieces_of id l)) u)) (λ u k. not_true (is_empty (pieces_of id l)) u (listed id k))
        (λ u. unless_line (leb n room) 17 (room < n) [] taken_off (answered taken_off) (leb-false n room) (λ v k. omega (arith, leb-true n room v)) (λ v. refl))

    release_lines_law : map_read m ≡ answered (zones_of m) → ByLines (release_lines m id room) (takes id (listed_on m id)) (by_read (geometry_of m) (release id room) (zones_of m))
    release_lines_law r =
        let rest = ten m id ∷ seventeen m id room ∷ [] in
        let v = judge_rest g l (release id room) in
        unless_line (editable g id) 8 ((3 ≤ id) × (id < g.ids * g.zones) → ⊥) (nine m ∷ rest) taken_off (by_touching (touching 0 (zones_of m)) v)
        (id_outside g id) (λ t k. k (id_inside g id t))
        (λ t. touch_line r rest (λ x. x ≡ answered taken_off) v (touching 0 (zones_of m)) refl (λ _. released))

    pub release_by_table : Exactly (ByTable m (release_lines m id room) (takes id (listed_on m id))) (outcome m (release id room))
    release_by_table =
        by_table m (release_lines m id room) taken_off (line_one 8 _, (nine_one m, (line_one 10 _, (line_one 17 _, tt)))) (by_read g (release id room))
        (λ ess e. subst (λ (x : List (List Entry)). ByLines (release_lines m id room) taken_off (by_read g (release id room) x)) (zones_read_law ess e)
        (release_lines_law (read_zones ess e)))

  module _ (bytes : Bytes m) where
    editable_map : map_read m ≡ answered (zones_of m) → touching 0 (zones_of m) ≡ none → Editable m
    editable_map r t = record { bytes = bytes; accepted = r; apart = t }

    -- place
    module _ (id : ℕ) (list : List ℕ) where
      abbrev given : Edit
      given = gives id (pairs_from list)

      placed : Editable m → ByLines (eleven m id ∷ twelve m id list ∷ thirteen m list ∷ []) (gives id (pairs_from list)) (judge_rest (geometry_of m) (pieces_on (geometry_of m) m) (place id list))
      placed ed =
          let ok = map_geometry m (zones_of m) ed.bytes ed.accepted in
          let apart = all_apart g 0 g.zones (give id (pairs_from list) l) in
          let last = unless apart 13 (answered given) in
          unless_line (is_empty (pieces_of id l)) 11 (listed_on m id ≡ [] → ⊥) (twelve m id list ∷ thirteen m list ∷ []) given (unless (list_fits g id list) 12 last)
          (λ t k. false≢true (sym t ∙ listed id k)) (λ t k. k (absent id t))
          (λ t. unless_line (list_fits g id list) 12 (ListRules g id list → ⊥) (thirteen m list ∷ []) given last
          (λ u k. false≢true (sym u ∙ rules_give_fits g ok id list k)) (λ u k. k (fits_gives_rules g ok id list u))
          (λ u. let k = (both (ltb 0 (length list) && eqb (length list % 2) 0) (pairs_fit g id 0 (pairs_from list)) u).1 in
          unless_line apart 13 (NoRoom m list) [] given (answered given) (room.no_room m ed id list k) (room.has_room m ed id list k)
          (λ v. refl)))

      place_lines_law : map_read m ≡ answered (zones_of m) → ByLines (place_lines m id list) (gives id (pairs_from list)) (by_read (geometry_of m) (place id list) (zones_of m))
      place_lines_law r =
          let rest = eleven m id ∷ twelve m id list ∷ thirteen m list ∷ [] in
          let v = judge_rest g l (place id list) in
          unless_line (editable g id) 8 ((3 ≤ id) × (id < g.ids * g.zones) → ⊥) (nine m ∷ rest) given (by_touching (touching 0 (zones_of m)) v)
          (id_outside g id) (λ t k. k (id_inside g id t))
          (λ t. touch_line r rest (λ x. x ≡ answered given) v (touching 0 (zones_of m)) refl (λ n. placed (editable_map r n)))

      pub place_by_table : Exactly (ByTable m (place_lines m id list) (gives id (pairs_from list))) (outcome m (place id list))
      place_by_table =
          by_table m (place_lines m id list) given (line_one 8 _, (nine_one m, (line_one 11 _, (line_one 12 _, (line_one 13 _, tt))))) (by_read g (place id list))
          (λ ess e. subst (λ (x : List (List Entry)). ByLines (place_lines m id list) given (by_read g (place id list) x)) (zones_read_law ess e)
          (place_lines_law (read_zones ess e)))

    -- claim
    module _ (size parent room : ℕ) where
      -- 17, for what the rules give
      room_line : (id : ℕ) (qs : List Pair) → ClaimRules m size parent id qs → LinesSay (seventeen_claim m size parent room ∷ []) (ClaimTakes m size parent) (by_room room (choice id qs))
      room_line id qs r =
          let n = 2 * length qs in
          unless_says (leb n room) 17 ((i : ℕ) × (ps : List Pair) × ClaimRules m size parent i ps × (room < 2 * length ps)) [] (ClaimTakes m size parent) (answered (gives id qs))
          (λ t. (id, qs, r, leb-false n room t))
          (λ t k. omega (arith, leb-true n room t, k.3, ap length (same_list m size parent id k.0 qs k.1 r k.2)))
          (λ t. (id, qs, refl, r))

      claimed : Editable m → 0 < size → parent < (geometry_of m).zones
          → LinesSay (fourteen m ∷ fifteen m size ∷ seventeen_claim m size parent room ∷ []) (ClaimTakes m size parent) (by_choice room (chosen (geometry_of m) (pieces_on (geometry_of m) m) size parent))
      claimed ed pos inside = go (lowest_id g (unused l)) refl (taken_for g l (need g size) parent) refl
        where
          some_unused : (id : ℕ) → lowest_id (geometry_of m) (unused (pieces_on (geometry_of m) m)) ≡ some id
              → ((i : ℕ) → 3 ≤ i → i < (geometry_of m).ids * (geometry_of m).zones → listed_on m i ≡ [] → ⊥) → ⊥
          some_unused id a k = let i = lowest_id_law g (unused l) id a in k id i.from_3 i.below (absent id i.passes)

          go : (i : Option ℕ) → lowest_id (geometry_of m) (unused (pieces_on (geometry_of m) m)) ≡ i
              → (o : Option (List Pair)) → taken_for (geometry_of m) (pieces_on (geometry_of m) m) (need (geometry_of m) size) parent ≡ o
              → LinesSay (fourteen m ∷ fifteen m size ∷ seventeen_claim m size parent room ∷ []) (ClaimTakes m size parent) (by_choice room (choose_in (geometry_of m) (pieces_on (geometry_of m) m) i o))
          go none a o b = inl (0, (refl, λ i lo hi k. false≢true (sym (no_lowest_id g (unused l) a i lo hi) ∙ listed i k)), refl)
          go (some id) a none b = inr ((λ z p. some_unused id a p.1), inl (0, (refl, too_few_bits m ed size parent inside b), refl))
          go (some id) a (some t) b =
              inr (
                (λ z p. some_unused id a p.1),
                inr (
                  (λ z p. omega (arith, p.1, enough_bits m ed size parent inside pos id t a b)),
                  room_line (id_for g l id t) (in_object_order g (id_for g l id t) t) (claim_rules m ed size parent inside pos id t a b),
                ),
              )

      unfit : claim_fits (geometry_of m) size parent ≡ false → (size ≡ 0) ⊎ ((geometry_of m).zones ≤ parent)
      unfit t =
          by_test (ltb 0 size)
          (λ u. inr (ltb-false parent g.zones (simp u at t)))
          (λ u. inl (omega (arith, ltb-false 0 size u)))

      fits : claim_fits (geometry_of m) size parent ≡ true → (0 < size) × (parent < (geometry_of m).zones)
      fits t = let b = both (ltb 0 size) (ltb parent g.zones) t in (ltb-true 0 size b.0, ltb-true parent g.zones b.1)

      not_both : (0 < size) × (parent < (geometry_of m).zones) → (size ≡ 0) ⊎ ((geometry_of m).zones ≤ parent) → ⊥
      not_both f (inl e) = omega (arith, f.0)
      not_both f (inr e) = omega (arith, f.1)

      claim_lines_law : map_read m ≡ answered (zones_of m) → LinesSay (claim_lines m size parent room) (ClaimTakes m size parent) (by_read (geometry_of m) (claim size parent room) (zones_of m))
      claim_lines_law r =
          let rest = fourteen m ∷ fifteen m size ∷ seventeen_claim m size parent room ∷ [] in
          let v = by_choice room (chosen g l size parent) in
          touch_line r (twelve_claim m size parent ∷ rest) (ClaimTakes m size parent) (unless (claim_fits g size parent) 12 v) (touching 0 (zones_of m)) refl
          (λ n. unless_says (claim_fits g size parent) 12 ((size ≡ 0) ⊎ (g.zones ≤ parent)) rest (ClaimTakes m size parent) v
          unfit (λ t. not_both (fits t)) (λ t. claimed (editable_map r n) (fits t).0 (fits t).1))

      pub claim_by_table : Exactly (TableSays m (claim_lines m size parent room) (ClaimTakes m size parent)) (outcome m (claim size parent room))
      claim_by_table =
          table_says m (claim_lines m size parent room) (ClaimTakes m size parent) (nine_one m, (line_one 12 _, (line_one 14 _, (line_one 15 _, (line_one 17 _, tt))))) (one_claim m size parent) (by_read g (claim size parent room))
          (λ ess e. subst (λ (x : List (List Entry)). LinesSay (claim_lines m size parent room) (ClaimTakes m size parent) (by_read g (claim size parent room) x)) (zones_read_law ess e)
          (claim_lines_law (read_zones ess e)))
