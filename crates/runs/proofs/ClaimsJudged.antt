-- What a claim's verdict says of its id and its pairs. The zones tried are ranked, so those before the nearest hole's have none that is long enough;
-- holes ascend, so in its zone those before it are too short. Where there is none, the holes are in the order of their size. The id found is the lowest
-- unused one of the zone, or of all; and the list is one that a place takes.
use mathlib.Core.Path.{◌≡◌, refl, sym, ap, ap₂, ◌∙◌, subst, subst⁻¹}
use mathlib.Core.Bool.{true, false≢true}
use mathlib.Core.List.{List, [], ◌∷◌}
use mathlib.Core.Option.{Option, none, some}
use mathlib.Core.Logic.{◌⊎◌, inl, inr}
use Prim.Native.Nat.{ℕ, suc, ◌+◌, ◌*◌, ◌<◌, ◌≤◌, max}
use native.Mathlib.Omega.{arith}
use lib.Dec.{eqb, leb}
use lib.ListN.{length}
use borrow.Author.Tests.{eqb-true, eq-eqb, lt-ltb, le-ltb, le-leb, leb-false}
use Rattle.bits.proofs.Tests.{by_test, both, and_true}
use Rattle.geometry.specs.declared.Geometry.{Geometry}
use Rattle.geometry.specs.Record.{geometry_of}
use Rattle.geometry.specs.Accepted.{AcceptedGeometry}
use Rattle.geometry.specs.Places.{zone_of, zone_from, start_zone}
use Rattle.model.specs.Answer.{answered}
use Rattle.model.specs.Chain.{Pair, numbers_of}
use Rattle.model.specs.Pieces.{Piece, pieces_of, InObjectOrder}
use Rattle.model.specs.Shown.{zones_of, pieces_on, listed_on, spans_on}
use Rattle.model.proofs.Options.{none_some, some_some}
use Rattle.split.specs.Taken.{total, leads, by_size, cut_bits}
use Rattle.split.specs.Laws.{Ascends, FrontTaken}
use Rattle.split.proofs.Sorted.{total_append, total_sorted}
use Rattle.split.proofs.Front.{refused_too_few, front_taken}
use Rattle.edits.specs.Edits.{gives}
use Rattle.edits.specs.Near.{zones_near}
use Rattle.edits.specs.Holes.{holes_in, holes_from, holes_of}
use Rattle.edits.specs.Judge.{claim, is_empty, need, first_hole, holes_near, in_turn, taken_for, lowest_id, unused, unused_of, id_for, in_object_order, choose_in, by_choice, judge}
use Rattle.edits.specs.Room.{In, Earlier}
use Rattle.edits.specs.Editable.{Editable}
use Rattle.edits.proofs.Entries.{earlier_in, total_in}
use Rattle.edits.proofs.Found.{or_else, first_append}
use Rattle.edits.proofs.ZonesNear.{near_exists}
use Rattle.edits.proofs.HolesAscend.{ascends_in, earlier_below, all_holes_ascend, zone_ascends, ascends_apart}
use Rattle.edits.proofs.ClaimFits.{first_in, holes_of_in, in_holes, holes_in_law, hole_zone}
use Rattle.edits.proofs.Invariant.{FitPieces, some_bits}
use Rattle.edits.proofs.ListInOrder.{in_order_in, in_in_order}
use Rattle.edits.proofs.Chosen.{empty, IdFor, there, elsewhere, id_found, id_ordinary, first_taken_law, need_long}
use Rattle.edits.proofs.RunsKept.{place_tests}
use Rattle.edits.proofs.MapAccepted.{map_geometry, map_disc}
use Rattle.edits.proofs.FreeBits.{spans_holes}
use Rattle.edits.proofs.Returned.{pairs_numbers}
use Rattle.edits.proofs.PairsGiven.{none_listed, given_placed}
use Rattle.edits.proofs.ReadsAfter.{same_pieces}
use Rattle.runs.specs.ZonesTried.{Nearer}
use Rattle.runs.specs.ListRules.{ListRules}
use Rattle.runs.specs.Claims.{NearestHole, LargestFirst, InTurn, one, several, FromFront, ClaimRules}
use Rattle.runs.proofs.ZonesTried.{nearer_asym, Ranked, ranked_near, near_named}
use Rattle.runs.proofs.Twelve.{fits_gives_rules}
use Rattle.runs.proofs.SortedOnce.{largest_first}

-- the first hole that is long enough: those before it are too short, and where there is none all are
first_short : (n a : ℕ) (hs : List Pair) (h : Pair) → Ascends a hs → first_hole n hs ≡ some h → (q : Pair) → In q hs → q.start < h.start → q.len < n
first_short n a [] h s e q i k = absurd i
first_short n a (x ∷ xs) h s e q i k =
    by_test (leb n x.len)
    (λ t. let w : x ≡ h = some_some (simp t at e) in absurd (here (ap (λ (r : Pair). r.start) w) i))
    (λ t. further (leb-false n x.len t) i (λ j. first_short n (suc x.start) xs h s.1 (simp t at e) q j k))
  where
    here : x.start ≡ h.start → (q ≡ x) ⊎ In q xs → ⊥
    here w (inl j) = let u : q.start ≡ x.start = ap (λ (r : Pair). r.start) j in omega arith
    here w (inr j) = omega (arith, ascends_in (suc x.start) xs q s.1 j)

    further : x.len < n → (q ≡ x) ⊎ In q xs → (In q xs → q.len < n) → q.len < n
    further lt (inl j) ih = let u : q.len ≡ x.len = ap (λ (r : Pair). r.len) j in omega arith
    further lt (inr j) ih = ih j

pub none_long : (n : ℕ) (hs : List Pair) → first_hole n hs ≡ none → (h : Pair) → In h hs → h.len < n
none_long n [] e h i = absurd i
none_long n (x ∷ xs) e h i =
    by_test (leb n x.len)
    (λ t. absurd (none_some (sym (simp t at e))))
    (λ t. go i (leb-false n x.len t) (none_long n xs (simp t at e) h))
  where
    go : (h ≡ x) ⊎ In h xs → x.len < n → (In h xs → h.len < n) → h.len < n
    go (inl j) lt ih = let u : h.len ≡ x.len = ap (λ (r : Pair). r.len) j in omega arith
    go (inr j) lt ih = ih j

-- of ranked zones: the hole found is the first of its zone, and no zone before that has one; where none is found no zone has one
module _ (g : Geometry) (l : List Piece) (n p : ℕ) where
  pub record InNearest (zs : List ℕ) (h : Pair) : Type 0 where
    pub zone : ℕ
    pub tried : In zone zs
    pub found : first_hole n (holes_in g l zone) ≡ some h
    pub none_nearer : (y : ℕ) → In y zs → Nearer p y zone → first_hole n (holes_in g l y) ≡ none

  nearest_first : (zs : List ℕ) → Ranked p zs → (h : Pair) → first_hole n (holes_of g l zs) ≡ some h → InNearest zs h
  nearest_first [] r h e = absurd (none_some e)
  nearest_first (x ∷ xs) r h e = go (first_hole n (holes_in g l x)) refl (nearest_first xs r.1 h)
    where
      split : (o : Option Pair) → first_hole n (holes_in g l x) ≡ o → or_else o (first_hole n (holes_of g l xs)) ≡ some h
      split o k = ap (λ (u : Option Pair). or_else u (first_hole n (holes_of g l xs))) (sym k) ∙ sym (first_append n (holes_in g l x) (holes_of g l xs)) ∙ e

      before : (z : ℕ) → first_hole n (holes_in g l x) ≡ none → ((y : ℕ) → In y xs → Nearer p y z → first_hole n (holes_in g l y) ≡ none) → (y : ℕ) → In y (x ∷ xs) → Nearer p y z
          → first_hole n (holes_in g l y) ≡ none
      before z k f y (inl j) m = ap (λ (u : ℕ). first_hole n (holes_in g l u)) j ∙ k
      before z k f y (inr j) m = f y j m

      behind : (y : ℕ) → In y (x ∷ xs) → Nearer p y x → ⊥
      behind y (inl j) m = let u : Nearer p x x = subst (λ (v : ℕ). Nearer p v x) j m in nearer_asym p x x u u
      behind y (inr j) m = nearer_asym p x y (r.0 y j) m

      go : (o : Option Pair) → first_hole n (holes_in g l x) ≡ o → (first_hole n (holes_of g l xs) ≡ some h → InNearest xs h) → InNearest (x ∷ xs) h
      go none k ih =
          let f = ih (split none k) in
          record { zone = f.zone; tried = inr f.tried; found = f.found; none_nearer = before f.zone k f.none_nearer }
      go (some q) k ih = record { zone = x; tried = inl refl; found = k ∙ split (some q) k; none_nearer = λ y i m. absurd (behind y i m) }

  none_found : (zs : List ℕ) → first_hole n (holes_of g l zs) ≡ none → (z : ℕ) → In z zs → (h : Pair) → In h (holes_in g l z) → h.len < n
  none_found zs e z i h j = none_long n (holes_of g l zs) e h (holes_of_in g l zs z i h j)

-- the id that is found for a zone, in terms of what the map lists
module _ (m : List ℕ) (z id : ℕ) where
  pub record IdRules : Type 0 where
    pub lowest_there : (j : ℕ) → 3 ≤ j → j < id → start_zone (geometry_of m) j ≡ z → listed_on m j ≡ [] → ⊥
    pub none_there : (start_zone (geometry_of m) id ≡ z → ⊥) → (j : ℕ) → 3 ≤ j → j < (geometry_of m).ids * (geometry_of m).zones → start_zone (geometry_of m) j ≡ z → listed_on m j ≡ [] → ⊥
    pub lowest_of_all : (start_zone (geometry_of m) id ≡ z → ⊥) → (j : ℕ) → 3 ≤ j → j < id → listed_on m j ≡ [] → ⊥

  listed_unused : (j : ℕ) → listed_on m j ≡ [] → unused (pieces_on (geometry_of m) m) j ≡ true
  listed_unused j e = ap is_empty (none_listed (geometry_of m) j (pieces_on (geometry_of m) m) e)

  listed_there : (j : ℕ) → start_zone (geometry_of m) j ≡ z → listed_on m j ≡ [] → unused_of (geometry_of m) (pieces_on (geometry_of m) m) z j ≡ true
  listed_there j s e = and_true (eqb (start_zone (geometry_of m) j) z) (unused (pieces_on (geometry_of m) m) j) (eq-eqb (start_zone (geometry_of m) j) z s) (listed_unused j e)

  id_rules : IdFor (geometry_of m) (pieces_on (geometry_of m) m) z id → IdRules
  id_rules (there a) =
      let g = geometry_of m in
      let s : start_zone g id ≡ z = eqb-true (start_zone g id) z (both (eqb (start_zone g id) z) (unused (pieces_on g m) id) a.passes).0 in
      record {
        lowest_there = λ j lo hi k e. false≢true (sym (a.first j lo hi) ∙ listed_there j k e);
        none_there = λ n. absurd (n s);
        lowest_of_all = λ n. absurd (n s);
      }
  id_rules (elsewhere a f) = record {
    lowest_there = λ j lo hi k e. false≢true (sym (f j lo (omega (arith, a.below))) ∙ listed_there j k e);
    none_there = λ n j lo hi k e. false≢true (sym (f j lo hi) ∙ listed_there j k e);
    lowest_of_all = λ n j lo hi e. false≢true (sym (a.first j lo hi) ∙ listed_unused j e);
  }

module _ (m : List ℕ) (ed : Editable m) (size parent : ℕ) (inside : parent < (geometry_of m).zones) where
  abbrev g : Geometry
  g = geometry_of m

  abbrev l : List Piece
  l = pieces_on (geometry_of m) m

  ok : AcceptedGeometry (geometry_of m)
  ok = map_geometry m (zones_of m) ed.bytes ed.accepted

  fit : FitPieces (geometry_of m) (pieces_on (geometry_of m) m)
  fit = (map_disc m (zones_of m) ed.bytes ed.accepted).pieces.fit

  -- a span is a hole of its zone
  span_hole : (h : Pair) → In h (spans_on m) → (zone_of (geometry_of m) h.start < (geometry_of m).zones) × In h (holes_in (geometry_of m) (pieces_on (geometry_of m) m) (zone_of (geometry_of m) h.start))
  span_hole h i =
      let z = in_holes g 0 g.zones l h (subst (In h) (spans_holes m ed) i) in
      let k : z.0 < g.zones = omega (arith, z.2) in
      let e = hole_zone g l ok fit z.0 k h z.3 in
      subst⁻¹ (λ (x : ℕ). (x < g.zones) × In h (holes_in g l x)) e (k, z.3)

  pub none_near : first_hole (need (geometry_of m) size) (holes_near (geometry_of m) (pieces_on (geometry_of m) m) parent) ≡ none → (h : Pair) → In h (spans_on m) → h.len < need (geometry_of m) size
  none_near e h i =
      let s = span_hole h i in
      none_found g l (need g size) parent (zones_near g.zones parent) e (zone_of g h.start) (near_named g.zones parent inside (zone_of g h.start) s.0) h s.1

  -- the nearest hole that is long enough
  module _ (h : Pair) (eh : first_hole (need (geometry_of m) size) (holes_near (geometry_of m) (pieces_on (geometry_of m) m) parent) ≡ some h) where
    near : InNearest (geometry_of m) (pieces_on (geometry_of m) m) (need (geometry_of m) size) parent (zones_near (geometry_of m).zones parent) h
    near = nearest_first g l (need g size) parent (zones_near g.zones parent) (ranked_near g.zones parent inside) h eh

    there_zone : near.zone < (geometry_of m).zones
    there_zone = near_exists g.zones parent inside near.zone near.tried

    in_it : In h (holes_in (geometry_of m) (pieces_on (geometry_of m) m) near.zone) × (need (geometry_of m) size ≤ h.len)
    in_it = first_in (need g size) (holes_in g l near.zone) h near.found

    zone_is : zone_of (geometry_of m) h.start ≡ near.zone
    zone_is = hole_zone g l ok fit near.zone there_zone h in_it.0

    nearest : (q : Pair) → In q (spans_on m) → Nearer parent (zone_of (geometry_of m) q.start) (zone_of (geometry_of m) h.start) → q.len < need (geometry_of m) size
    nearest q i n =
        let s = span_hole q i in
        let y = zone_of g q.start in
        none_long (need g size) (holes_in g l y) (near.none_nearer y (near_named g.zones parent inside y s.0) (subst (Nearer parent y) zone_is n)) q s.1

    first_there : (q : Pair) → Earlier q h (spans_on m) → zone_of (geometry_of m) q.start ≡ zone_of (geometry_of m) h.start → q.len < need (geometry_of m) size
    first_there q k e =
        let hs = holes_from g 0 g.zones l in
        let up : Ascends (zone_from g 0) hs = all_holes_ascend g l ok fit 0 g.zones (omega arith) in
        let s = span_hole q (earlier_in q h (spans_on m) k).0 in
        first_short (need g size) (zone_from g near.zone) (holes_in g l near.zone) h (zone_ascends g l ok fit near.zone there_zone) near.found q
        (subst (λ (x : ℕ). In q (holes_in g l x)) (e ∙ zone_is) s.1)
        (earlier_below (zone_from g 0) hs up q h (subst (Earlier q h) (spans_holes m ed) k))

    nearest_hole : NearestHole m size parent h
    nearest_hole = record {
      free = subst⁻¹ (In h) (spans_holes m ed) (holes_in_law g 0 g.zones l near.zone (omega arith) (omega (arith, there_zone)) h in_it.0);
      enough = in_it.1;
      nearest = nearest;
      first = first_there;
    }

  -- the holes in the order in which they are taken
  abbrev order : List Pair
  order = in_turn (geometry_of m) (pieces_on (geometry_of m) m) (first_hole (need (geometry_of m) size) (holes_near (geometry_of m) (pieces_on (geometry_of m) m) parent))

  holes_in_turn : (o : Option Pair) → first_hole (need (geometry_of m) size) (holes_near (geometry_of m) (pieces_on (geometry_of m) m) parent) ≡ o
      → InTurn m size parent (in_turn (geometry_of m) (pieces_on (geometry_of m) m) o)
  holes_in_turn (some h) e = one h (nearest_hole h e)
  holes_in_turn none e =
      let hs = holes_from g 0 g.zones l in
      several (by_size hs) (none_near e)
      (subst⁻¹ (λ (x : List Pair). LargestFirst x (by_size hs)) (spans_holes m ed) (largest_first hs (ascends_apart (zone_from g 0) hs (all_holes_ascend g l ok fit 0 g.zones (omega arith)))))

  some_need : 0 < need (geometry_of m) size
  some_need = omega (arith, some_bits g ok, need_long g size)

  -- 15: they have no more bits than all free spans together, and as many where no single one is enough
  order_total : (o : Option Pair) → first_hole (need (geometry_of m) size) (holes_near (geometry_of m) (pieces_on (geometry_of m) m) parent) ≡ o
      → total (in_turn (geometry_of m) (pieces_on (geometry_of m) m) o) ≤ total (spans_on m)
  order_total (some h) e = omega (arith, total_in h (spans_on m) (nearest_hole h e).free)
  order_total none e = omega (arith, total_sorted leads (holes_from g 0 g.zones l), ap total (spans_holes m ed))

  pub too_few_bits : taken_for (geometry_of m) (pieces_on (geometry_of m) m) (need (geometry_of m) size) parent ≡ none → total (spans_on m) < need (geometry_of m) size
  too_few_bits e = go (first_hole (need g size) (holes_near g l parent)) refl (refused_too_few g.shortest (need g size) order e)
    where
      go : (o : Option Pair) → first_hole (need (geometry_of m) size) (holes_near (geometry_of m) (pieces_on (geometry_of m) m) parent) ≡ o
          → total (in_turn (geometry_of m) (pieces_on (geometry_of m) m) o) < need (geometry_of m) size → total (spans_on m) < need (geometry_of m) size
      go (some h) k f = absurd (omega (arith, f, (nearest_hole h k).enough))
      go none k f = omega (arith, f, total_sorted leads (holes_from g 0 g.zones l), ap total (spans_holes m ed))

  -- the id and the pairs found keep the rules
  module _ (pos : 0 < size) (any : ℕ) (t : List Pair) (ei : lowest_id (geometry_of m) (unused (pieces_on (geometry_of m) m)) ≡ some any)
      (et : taken_for (geometry_of m) (pieces_on (geometry_of m) m) (need (geometry_of m) size) parent ≡ some t) where
    abbrev id : ℕ
    id = id_for (geometry_of m) (pieces_on (geometry_of m) m) any t

    abbrev qs : List Pair
    qs = in_object_order (geometry_of m) (id_for (geometry_of m) (pieces_on (geometry_of m) m) any t) t

    front : FrontTaken (geometry_of m).shortest (need (geometry_of m) size) order t
    front = front_taken g.shortest (need g size) order t some_need et

    pub enough_bits : need (geometry_of m) size ≤ total (spans_on m)
    enough_bits =
        let f = front in
        omega (arith, ap total f.holes_are, total_append f.whole (f.hole ∷ f.behind), f.remains, f.enough, order_total (first_hole (need g size) (holes_near g l parent)) refl)

    from_front : FromFront m size order t
    from_front =
        let f = front in
        let s = g.shortest in
        let n : f.last.len ≡ cut_bits s f.rest f.hole.len = ap (λ (q : Pair). q.len) f.last_is in
        record {
          whole = f.whole;
          hole = f.hole;
          behind = f.behind;
          last = f.last;
          holes_are = f.holes_are;
          taken_are = f.taken_are;
          rest = f.rest;
          remains = f.remains;
          some_remain = f.some_remain;
          enough = f.enough;
          start = ap (λ (q : Pair). q.start) f.last_is;
          part = λ k. n ∙ simp (le-ltb f.hole.len (max f.rest s + s) k);
          all_of_it = λ k. n ∙ simp (lt-ltb f.hole.len (max f.rest s + s) k);
        }

    -- with room for them, a claim of these pairs is accepted; so they are a list that a place takes
    claim_judged : judge (geometry_of m) none (pieces_on (geometry_of m) m) (claim size parent (2 * length qs)) ≡ answered (gives id qs)
    claim_judged =
        simp (lt-ltb 0 size pos, lt-ltb parent g.zones inside)
        (ap (by_choice (2 * length qs)) (ap₂ (λ (x : Option ℕ) (y : Option (List Pair)). choose_in g l x y) ei et)
        ∙ simp (le-leb (2 * length qs) (2 * length qs) (omega arith)))

    list_rules : ListRules (geometry_of m) id (numbers_of qs)
    list_rules =
        let k = given_placed g ok (record { pieces = l; cross = [] }) (map_disc m (zones_of m) ed.bytes ed.accepted).pieces (claim size parent (2 * length qs)) id qs claim_judged in
        fits_gives_rules g ok id (numbers_of qs) (place_tests g l id (numbers_of qs) (gives id qs) k).2

    pub claim_rules : ClaimRules m size parent id qs
    claim_rules =
        let first = first_taken_law g front in
        let found = subst (λ (z : ℕ). IdFor g l z id) first.3 (id_found g l any t ei) in
        let o = id_ordinary g l (zone_of g first.0.start) id found in
        let r = id_rules m (zone_of g first.0.start) id found in
        let list = list_rules in
        record {
          order = order;
          in_turn_law = holes_in_turn (first_hole (need g size) (holes_near g l parent)) refl;
          taken = t;
          front = from_front;
          first = first.0;
          others = first.1;
          first_is = first.2;
          from_3 = o.0;
          below = o.1;
          unused = same_pieces g id l [] (empty (pieces_of id l) o.2);
          lowest_there = r.lowest_there;
          none_there = r.none_there;
          lowest_of_all = r.lowest_of_all;
          same_pairs = λ q. (in_order_in g id t q, in_in_order g id t q);
          some_bits = λ q i. omega (arith, some_bits g ok, (list.pairs q (subst⁻¹ (In q) (pairs_numbers qs) i)).long);
          in_order = subst (λ (x : List Pair). (q p : Pair) → Earlier q p x → InObjectOrder g (start_zone g id) q p) (pairs_numbers qs) list.in_order;
        }
