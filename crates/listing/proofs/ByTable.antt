-- The two calls answer by the table: each test of a definition is a line, and the value is what the map shows. The tests for 8 and 10
-- are those of `address` and `sweep` too.
use mathlib.Core.Path.{◌≡◌, refl, sym, ap, ◌∙◌, subst}
use mathlib.Core.Bool.{false≢true}
use mathlib.Core.List.{List, [], ◌∷◌, cons≢nil}
use mathlib.Core.Logic.{inl, inr}
use Prim.Native.Nat.{ℕ, ◌*◌, ◌<◌, ◌≤◌}
use native.Mathlib.Omega.{arith}
use lib.Dec.{leb, ltb}
use lib.ListN.{length}
use borrow.Author.Tests.{le-leb, lt-ltb, leb-true, leb-false, ltb-true}
use Rattle.bits.proofs.Tests.{both, and_true}
use Rattle.geometry.specs.declared.Geometry.{Geometry}
use Rattle.geometry.specs.Record.{geometry_of}
use Rattle.geometry.specs.Places.{id_from}
use Rattle.model.specs.Answer.{Answer, answered, unless, and_then}
use Rattle.model.specs.Chain.{Pair, Entry}
use Rattle.model.specs.Check.{map_read}
use Rattle.model.specs.Pieces.{free_spans}
use Rattle.model.specs.Shown.{zones_in, zones_of, listed_on, spans_on}
use Rattle.model.specs.Refusals.{Refusing, line, ByLines, ByTable, Exactly}
use Rattle.model.proofs.LinesJudged.{unless_line, line_one, by_table}
use Rattle.listing.specs.Listed.{with_room, present, object_read, object_found, free_found}
use Rattle.listing.specs.Refusals.{list_lines, free_lines}

-- a call that goes on from the zones by its lines, where these are the map's
pub on_zones : {A : Type 0} (m : List ℕ) (ls : List Refusing) (a : A) (k : List (List Entry) → Answer A) → ByLines ls a (k (zones_of m))
    → (ess : List (List Entry)) → map_read m ≡ answered ess → ByLines ls a (k ess)
on_zones m ls a k h ess e = subst (λ (x : List (List Entry)). ByLines ls a (k x)) (ap zones_in e) h

module _ {A : Type 0} (ls : List Refusing) (a : A) where
  -- 8
  pub id_line : (low : ℕ) (g : Geometry) (id : ℕ) (r : Answer A) → ByLines ls a r
      → ByLines (line 8 ((low ≤ id) × (id < g.ids * g.zones) → ⊥) ∷ ls) a (unless (id_from low g id) 8 r)
  id_line low g id r h =
      unless_line (id_from low g id) 8 ((low ≤ id) × (id < g.ids * g.zones) → ⊥) ls a r
      (λ t k. false≢true (sym t ∙ and_true (leb low id) (ltb id (g.ids * g.zones)) (le-leb low id k.0) (lt-ltb id (g.ids * g.zones) k.1)))
      (λ t n. let b = both (leb low id) (ltb id (g.ids * g.zones)) t in n (leb-true low id b.0, ltb-true id (g.ids * g.zones) b.1))
      (λ t. h)

  -- 10, told of any list that is empty when these pairs are
  pub present_line : (Gone : Type 0) (qs : List Pair) (f : List Pair → Answer A) → (qs ≡ [] → Gone) → (Gone → qs ≡ []) → ByLines ls a (f qs)
      → ByLines (line 10 Gone ∷ ls) a (and_then (present qs) f)
  present_line Gone [] f to from h = inl (0, (refl, to refl), refl)
  present_line Gone (q ∷ qs) f to from h = inr ((λ z p. cons≢nil (from p.1)), h)

-- 17
room_line : (room : ℕ) (qs : List Pair) → ByLines (line 17 (room < 2 * length qs) ∷ []) qs (with_room room qs)
room_line room qs =
    unless_line (leb (2 * length qs) room) 17 (room < 2 * length qs) [] qs (answered qs)
    (λ t. leb-false (2 * length qs) room t)
    (λ t k. omega (arith, leb-true (2 * length qs) room t))
    (λ t. refl)

pub list_by_table : (m : List ℕ) (id room : ℕ) → Exactly (ByTable m (list_lines m id room) (listed_on m id)) (object_found m id room)
list_by_table m id room =
    let qs : List Pair = listed_on m id in
    let room17 : List Refusing = line 17 (room < 2 * length qs) ∷ [] in
    by_table m (list_lines m id room) qs (line_one 8 _, (line_one 10 _, (line_one 17 _, tt))) (object_read (geometry_of m) id room)
    (on_zones m (list_lines m id room) qs (object_read (geometry_of m) id room)
    (id_line (line 10 (qs ≡ []) ∷ room17) qs 1 (geometry_of m) id (and_then (present qs) (with_room room))
    (present_line room17 qs (qs ≡ []) qs (with_room room) (λ e. e) (λ e. e) (room_line room qs))))

pub free_by_table : (m : List ℕ) (room : ℕ) → Exactly (ByTable m (free_lines m room) (spans_on m)) (free_found m room)
free_by_table m room =
    let k : List (List Entry) → Answer (List Pair) = λ ess. with_room room (free_spans (geometry_of m) 0 ess) in
    by_table m (free_lines m room) (spans_on m) (line_one 17 _, tt) k (on_zones m (free_lines m room) (spans_on m) k (room_line room (spans_on m)))
