-- The laws of the calls' own answers: an answer is what the map shows (`ByTable`), so what holds of the shown lists holds of it. Every
-- owner of a piece passed the id rule, so `list` answers for it.
use mathlib.Core.Path.{◌≡◌, refl, sym, ap, ◌∙◌, subst}
use mathlib.Core.Bool.{true, not, ◌&&◌, ◌||◌}
use mathlib.Core.List.{List, [], ◌∷◌, ◌++◌, map, cons≢nil}
use mathlib.Core.Logic.{inr}
use Prim.Native.Nat.{ℕ, suc, ◌+◌, ◌*◌, ◌/◌, ◌<◌, ◌≤◌}
use native.Mathlib.Omega.{arith}
use lib.Dec.{eqb, leb, ltb}
use lib.ListN.{length}
use borrow.Author.Tests.{eqb-true, leb-true, ltb-true}
use Rattle.bits.proofs.Tests.{by_test, both}
use Rattle.geometry.specs.declared.Geometry.{Geometry}
use Rattle.geometry.specs.Record.{geometry_of}
use Rattle.geometry.specs.Places.{id_from, start_zone}
use Rattle.model.specs.Answer.{answered}
use Rattle.model.specs.Chain.{Pair, Holder, free, owned, Entry}
use Rattle.model.specs.Check.{zone_read, every, id_fits, holder_fits, end_fits, first_owned}
use Rattle.model.specs.Rules.{zone_block, MapRules}
use Rattle.model.specs.Pieces.{Piece, owned_if, owned_of, piece_to_disc, pieces_of_zones, pieces_of, late, rotate, InObjectOrder}
use Rattle.model.specs.Shown.{zones_in, zones_of, pieces_on, listed_on, spans_on}
use Rattle.model.specs.Refusals.{by_lines}
use Rattle.model.proofs.MapJudged.{rules_accepted}
use Rattle.model.proofs.ZoneTests.{zone_tests}
use Rattle.model.proofs.LinesJudged.{table_answered}
use Rattle.map.specs.Accepted.{AcceptedMap}
use Rattle.map.specs.Checked.{check_answer}
use Rattle.map.proofs.Accepts.{ReadInTurn, accepts, zones_in_turn}
use Rattle.listing.specs.Listed.{object_found, free_found}
use Rattle.listing.specs.Laws.{At, first, later, Place, piece, LiesIn, in_span, in_piece, AnsweredIn, by_free, by_list, AnswersCover}
use Rattle.listing.proofs.ObjectOrder.{places}
use Rattle.listing.proofs.ByTable.{list_by_table, free_by_table}
use Rattle.listing.proofs.Cover.{covers}
use Rattle.listing.proofs.InTurn.{spans_ascend, pieces_ascend}

-- a map that keeps the rules is accepted, and its zones are those that it shows
abbrev pub shown : (m : List ℕ) → MapRules m → AcceptedMap m (geometry_of m)
shown m w =
    let r = rules_accepted m w in
    record {
      geometry = refl;
      readable = (accepts m (geometry_of m) (ap (check_answer (geometry_of m)) r.1)).readable;
      zones = zones_of m;
      read = r.1 ∙ ap answered (sym (ap zones_in r.1));
    }

-- pieces whose owners passed the id rule
module _ (g : Geometry) where
  abbrev OwnersFit : List Piece → Type 0
  OwnersFit [] = Unit {0}
  OwnersFit (p ∷ ps) = (id_from 1 g p.owner ≡ true) × OwnersFit ps

  owners_append : (ps qs : List Piece) → OwnersFit ps → OwnersFit qs → OwnersFit (ps ++ qs)
  owners_append [] qs h k = k
  owners_append (p ∷ ps) qs h k = (h.0, owners_append ps qs h.1 k)

  zone_owners : (z : ℕ) (es : List Entry) → every (id_fits g) es ≡ true → OwnersFit (map (piece_to_disc g z) (owned_of es))
  zone_owners z [] t = tt
  zone_owners z (e ∷ es) t = let k = both (id_fits g e) (every (id_fits g) es) t in go e.holder k.0 (zone_owners z es k.1)
    where
      go : (h : Holder) → holder_fits g h ≡ true → OwnersFit (map (piece_to_disc g z) (owned_of es)) → OwnersFit (map (piece_to_disc g z) (owned_if h e.at (owned_of es)))
      go free u ih = ih
      go (owned id) u ih = (u, ih)

  ids_fit : (z : ℕ) (b : List ℕ) (es : List Entry) → zone_read g z b ≡ answered es → every (id_fits g) es ≡ true
  ids_fit z b es e =
      let p = both (every (id_fits g) es && every (end_fits g z) es) (not (eqb z (g.zones / 2)) || first_owned 2 es) (zone_tests g z b es e).owners in
      (both (every (id_fits g) es) (every (end_fits g z) es) p.0).0

  zones_owners : (m : List ℕ) (z : ℕ) (ess : List (List Entry)) → ReadInTurn m g z ess → OwnersFit (pieces_of_zones g z ess)
  zones_owners m z [] r = tt
  zones_owners m z (es ∷ ess) r =
      owners_append (map (piece_to_disc g z) (owned_of es)) (pieces_of_zones g (suc z) ess) (zone_owners z es (ids_fit z (zone_block g m z) es r.1))
      (zones_owners m (suc z) ess r.2)

  some_owner : (id : ℕ) (ps : List Piece) → OwnersFit ps → (pieces_of id ps ≡ [] → ⊥) → id_from 1 g id ≡ true
  some_owner id [] h n = absurd (n refl)
  some_owner id (p ∷ ps) h n =
      by_test (eqb p.owner id)
      (λ t. subst (λ (x : ℕ). id_from 1 g x ≡ true) (eqb-true p.owner id t) h.0)
      (λ t. some_owner id ps h.1 (λ e. n (rw t e)))

-- an object that is there has an id from 1 to P*nzones-1
pub owner_in_range : (m : List ℕ) → MapRules m → (id : ℕ) → (listed_on m id ≡ [] → ⊥) → (1 ≤ id) × (id < (geometry_of m).ids * (geometry_of m).zones)
owner_in_range m w id n =
    let g : Geometry = geometry_of m in
    let t = some_owner g id (pieces_on g m) (zones_owners g m 0 (zones_of m) (zones_in_turn (shown m w))) (λ e. n (ap (λ ps. places (rotate (late g id) ps)) e)) in
    let b = both (leb 1 id) (ltb id (g.ids * g.zones)) t in
    (leb-true 1 id b.0, ltb-true id (g.ids * g.zones) b.1)

-- what the calls answer is what the map shows
pub list_shows : (m : List ℕ) (id room : ℕ) (qs : List Pair) → object_found m id room ≡ answered qs → qs ≡ listed_on m id
list_shows m id room qs e = (table_answered (list_by_table m id room) e).value

pub free_shows : (m : List ℕ) (room : ℕ) (qs : List Pair) → free_found m room ≡ answered qs → qs ≡ spans_on m
free_shows m room qs e = (table_answered (free_by_table m room) e).value

some_at : {q : Pair} {i : ℕ} {qs : List Pair} → At q i qs → qs ≡ [] → ⊥
some_at first e = cons≢nil e
some_at (later v) e = cons≢nil e

-- and with enough room they answer it
module _ (m : List ℕ) (w : MapRules m) where
  free_answers : free_found m (2 * length (spans_on m)) ≡ answered (spans_on m)
  free_answers = (free_by_table m (2 * length (spans_on m))).only (answered (spans_on m)) (by_lines _ w (inr ((λ z p. omega (arith, p.1)), refl)))

  list_answers : (id : ℕ) → (listed_on m id ≡ [] → ⊥) → object_found m id (2 * length (listed_on m id)) ≡ answered (listed_on m id)
  list_answers id n =
      (list_by_table m id (2 * length (listed_on m id))).only (answered (listed_on m id))
      (by_lines _ w (inr ((λ z p. p.1 (owner_in_range m w id n)), inr ((λ z p. n p.1), inr ((λ z p. omega (arith, p.1)), refl)))))

  as_answered : (d : ℕ) (p : Place) → LiesIn (geometry_of m) (zones_of m) d p → AnsweredIn m d p
  as_answered d p (in_span q i v k) = by_free (2 * length (spans_on m)) (spans_on m) free_answers q i v k
  as_answered d p (in_piece id q i v k) = by_list id (2 * length (listed_on m id)) (listed_on m id) (list_answers id (some_at v)) q i v k

  as_shown : (d : ℕ) (p : Place) → AnsweredIn m d p → LiesIn (geometry_of m) (zones_of m) d p
  as_shown d p (by_free room qs e q i v k) = in_span q i (subst (At q i) (free_shows m room qs e) v) k
  as_shown d p (by_list id room qs e q i v k) = in_piece id q i (subst (At q i) (list_shows m id room qs e) v) k

  -- a piece's owner
  owner_of : (d id i : ℕ) (p : Place) → p ≡ piece id i → AnsweredIn m d p → (1 ≤ id) × (id < (geometry_of m).ids * (geometry_of m).zones)
  owner_of d id i _ k (by_free room qs e q j v u) = let x : ◌≡◌ {A = ℕ} 0 1 = cc in absurd (omega arith)
  owner_of d id i _ k (by_list o room qs e q j v u) =
      let same : o ≡ id = cc in
      owner_in_range m w id (λ n. some_at v (list_shows m o room qs e ∙ ap (listed_on m) same ∙ n))

  pub answers_cover : AnswersCover m
  answers_cover =
      let c = covers (shown m w) in
      record {
        somewhere = λ d h. let r = c.somewhere d h in (r.0, as_answered d r.0 r.1);
        once = λ d p q v u. c.once d p q (as_shown d p v) (as_shown d q u);
        owner = λ d id i v. owner_of d id i (piece id i) refl v;
      }

pub free_answer_ascends : (m : List ℕ) (room : ℕ) (qs : List Pair) → free_found m room ≡ answered qs → (i j : ℕ) (p q : Pair) → i < j → At p i qs → At q j qs
    → p.start + p.len ≤ q.start
free_answer_ascends m room qs e i j p q h v u =
    let w = table_answered (free_by_table m room) e in
    spans_ascend (shown m w.rules) i j p q h (subst (At p i) w.value v) (subst (At q j) w.value u)

pub list_answer_in_order : (m : List ℕ) (id room : ℕ) (qs : List Pair) → object_found m id room ≡ answered qs → (i j : ℕ) (p q : Pair) → i < j → At p i qs → At q j qs
    → InObjectOrder (geometry_of m) (start_zone (geometry_of m) id) p q
list_answer_in_order m id room qs e i j p q h v u =
    let w = table_answered (list_by_table m id room) e in
    pieces_ascend (shown m w.rules) id i j p q h (subst (At p i) w.value v) (subst (At q j) w.value u)
