-- The laws of specs/Laws: an accepted reading of a map gives all that holds of an accepted map.
use mathlib.Core.Path.{◌≡◌, refl, sym, ap, ◌∙◌, subst, subst⁻¹}
use mathlib.Core.List.{List, ◌++◌}
use Prim.Native.Nat.{ℕ, ◌-◌, ◌≤◌}
use Rattle.geometry.specs.Record.{geometry_of}
use Rattle.geometry.specs.Places.{start_zone}
use Rattle.model.specs.Chain.{Pair, Entry}
use Rattle.model.specs.Answer.{answered}
use Rattle.model.specs.Check.{map_read}
use Rattle.model.specs.Pieces.{pieces_of_zones, object_pairs, free_spans}
use Rattle.map.specs.Accepted.{AcceptedMap}
use Rattle.map.specs.Checked.{check_answer}
use Rattle.map.proofs.Accepts.{accepts}
use Rattle.walk.specs.HeldBy.{held_from}
use Rattle.listing.specs.Laws.{At, Covers, ListingLaws}
use Rattle.listing.proofs.FreeHeld.{free_spans_law}
use Rattle.listing.proofs.ObjectOrder.{in_object_order}
use Rattle.listing.proofs.ByTable.{list_by_table, free_by_table}
use Rattle.listing.proofs.Cover.{covers}
use Rattle.listing.proofs.OwnAnswers.{list_shows, free_shows, answers_cover, owner_in_range, free_answer_ascends, list_answer_in_order}
use Rattle.listing.proofs.InTurn.{spans_ascend, pieces_ascend}

module _ (m : List ℕ) (ess : List (List Entry)) (e : map_read m ≡ answered ess) where
  pub accepted : AcceptedMap m (geometry_of m)
  accepted = accepts m (geometry_of m) (ap (check_answer (geometry_of m)) e)

  pub same_zones : accepted.zones ≡ ess
  same_zones = let k : answered accepted.zones ≡ answered ess = sym accepted.read ∙ e in cc

  cover : Covers (geometry_of m) ess
  cover = subst (λ (x : List (List Entry)). Covers (geometry_of m) x) same_zones (covers accepted)

  object_order : (id : ℕ) → 1 ≤ id → start_zone (geometry_of m) id ≤ (geometry_of m).zones
      → object_pairs (geometry_of m) id (pieces_of_zones (geometry_of m) 0 ess)
      ≡ held_from (geometry_of m) id m (start_zone (geometry_of m) id) ((geometry_of m).zones - start_zone (geometry_of m) id) ++ held_from (geometry_of m) id m 0 (start_zone (geometry_of m) id)
  object_order id l h = ap (λ (x : List (List Entry)). object_pairs (geometry_of m) id (pieces_of_zones (geometry_of m) 0 x)) (sym same_zones) ∙ in_object_order accepted id l h

  free_by_zone : free_spans (geometry_of m) 0 ess ≡ held_from (geometry_of m) 0 m 0 (geometry_of m).zones
  free_by_zone = ap (free_spans (geometry_of m) 0) (sym same_zones) ∙ free_spans_law accepted

  -- a place in a list of the zones as read
  as_read : (l : List (List Entry) → List Pair) {q : Pair} {i : ℕ} → At q i (l ess) → At q i (l accepted.zones)
  as_read l {q} {i} v = subst⁻¹ (λ (x : List (List Entry)). At q i (l x)) same_zones v

pub listing_laws : ListingLaws
listing_laws = record {
  list_by_table = list_by_table;
  free_by_table = free_by_table;
  list_shows = list_shows;
  free_shows = free_shows;
  answers_cover = answers_cover;
  owner_in_range = owner_in_range;
  free_answer_ascends = free_answer_ascends;
  list_answer_in_order = list_answer_in_order;
  cover = cover;
  in_object_order = object_order;
  free_by_zone = free_by_zone;
  spans_ascend = λ m ess e i j p q h v w.
      let l : List (List Entry) → List Pair = free_spans (geometry_of m) 0 in
      spans_ascend (accepted m ess e) i j p q h (as_read m ess e l v) (as_read m ess e l w);
  pieces_ascend = λ m ess e id i j p q h v w.
      let l : List (List Entry) → List Pair = λ x. object_pairs (geometry_of m) id (pieces_of_zones (geometry_of m) 0 x) in
      pieces_ascend (accepted m ess e) id i j p q h (as_read m ess e l v) (as_read m ess e l w);
  object_690 = refl;
}
