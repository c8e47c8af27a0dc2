-- What a claim chooses: an ordinary id that has no piece, and pairs that it can be given. All that is shown of an accepted claim rests on this
-- and on `ClustersKept.chosen_whole`, so that another choice changes these alone.
use mathlib.Core.Path.{◌≡◌, refl, sym, ap, ◌∙◌, subst}
use mathlib.Core.Bool.{Bool, true, false, false≢true}
use mathlib.Core.List.{List, [], ◌∷◌, ◌++◌, map}
use mathlib.Core.Option.{Option, none, some}
use mathlib.Core.Logic.{◌⊎◌, inl, inr}
use Prim.Native.Nat.{ℕ, zero, suc, ◌+◌, ◌-◌, ◌*◌, ◌<◌, ◌≤◌}
use native.Mathlib.Omega.{arith}
use lib.Dec.{eqb, ltb, leb}
use borrow.Author.Tests.{eqb-true, eqb-false, lt-ltb, le-leb}
use Rattle.bits.proofs.Tests.{by_test, both, and_true}
use Rattle.geometry.specs.declared.Geometry.{Geometry}
use Rattle.geometry.specs.Accepted.{AcceptedGeometry}
use Rattle.geometry.specs.Places.{zone_of, zone_from, disc_bits, start_zone}
use Rattle.model.specs.Answer.{answered}
use Rattle.model.specs.Chain.{Pair}
use Rattle.model.specs.Pieces.{Piece, pieces_of, late}
use Rattle.model.proofs.Options.{none_some, some_some}
use Rattle.edits.specs.Edits.{own, give}
use Rattle.edits.specs.Near.{zones_near}
use Rattle.edits.specs.Holes.{holes_in, holes_from}
use Rattle.edits.specs.Room.{In}
use Rattle.edits.specs.Judge.{is_empty, editable, need, first_hole, holes_near, in_turn, taken_for, lowest, lowest_id, unused, unused_of, or_any, first_zone, id_for, Choice, choice, in_object_order, choice_of, choose_in, chosen}
use Rattle.split.specs.Taken.{leads, by_size, lower, cut, by_start}
use Rattle.split.specs.Laws.{FrontTaken}
use Rattle.split.proofs.Front.{cut_fits, front_taken}
use Rattle.edits.proofs.Kept.{All}
use Rattle.edits.proofs.Entries.{in_append, in_left, in_right, sorted_in}
use Rattle.edits.proofs.ZonesNear.{near_exists}
use Rattle.edits.proofs.ObjectOrder.{InOrder}
use Rattle.edits.proofs.Gaps.{Gap, is_long}
use Rattle.edits.proofs.Invariant.{FitPieces, some_bits, zoned_on_disc}
use Rattle.edits.proofs.HolesAscend.{all_holes_ascend, StartsApart, ascends_apart, apart_sorted, apart_taken, by_start_ascends}
use Rattle.edits.proofs.ListInOrder.{in_in_order, list_in_order, list_gives, all_in_order}
use Rattle.edits.proofs.ClaimFits.{first_in, in_holes_of, in_holes, hole_size, TakenOf, taken_zone, fit_claim}

pub empty : {A : Type 0} (l : List A) → is_empty l ≡ true → l ≡ []
empty [] h = refl
empty (x ∷ xs) h = absurd (false≢true h)

-- the lowest number that passes a test: it passes it and lies in range, and none before it does
module _ (t : ℕ → Bool) where
  pub lowest_passes : (n id i : ℕ) → lowest t n id ≡ some i → t i ≡ true
  lowest_passes zero id i h = absurd (none_some h)
  lowest_passes (suc n) id i h =
      by_test (t id)
      (λ k. let e : id ≡ i = some_some (simp k at h) in subst (λ (j : ℕ). t j ≡ true) e k)
      (λ k. lowest_passes n (suc id) i (simp k at h))

  pub lowest_lt : (n id i : ℕ) → lowest t n id ≡ some i → (i < id + n) × (0 < n)
  lowest_lt zero id i h = absurd (none_some h)
  lowest_lt (suc n) id i h =
      by_test (t id)
      (λ k. let e : id ≡ i = some_some (simp k at h) in (omega arith, omega arith))
      (λ k. let r = lowest_lt n (suc id) i (simp k at h) in (omega arith, omega arith))

  pub lowest_least : (n id i : ℕ) → lowest t n id ≡ some i → id ≤ i
  lowest_least zero id i h = absurd (none_some h)
  lowest_least (suc n) id i h =
      by_test (t id)
      (λ k. let e : id ≡ i = some_some (simp k at h) in omega arith)
      (λ k. omega (arith, lowest_least n (suc id) i (simp k at h)))

  pub lowest_first : (n id i : ℕ) → lowest t n id ≡ some i → (j : ℕ) → id ≤ j → j < i → t j ≡ false
  lowest_first zero id i h j lo hi = absurd (none_some h)
  lowest_first (suc n) id i h j lo hi =
      by_test (t id)
      (λ k. let e : id ≡ i = some_some (simp k at h) in absurd (omega arith))
      (λ k. by_test (eqb j id)
      (λ e. ap t (eqb-true j id e) ∙ k)
      (λ e. lowest_first n (suc id) i (simp k at h) j (omega (arith, eqb-false j id e)) hi))

  pub lowest_none : (n id : ℕ) → lowest t n id ≡ none → (j : ℕ) → id ≤ j → j < id + n → t j ≡ false
  lowest_none zero id h j lo hi = absurd (omega arith)
  lowest_none (suc n) id h j lo hi =
      by_test (t id)
      (λ k. absurd (none_some (sym (simp k at h))))
      (λ k. by_test (eqb j id)
      (λ e. ap t (eqb-true j id e) ∙ k)
      (λ e. lowest_none n (suc id) (simp k at h) j (omega (arith, eqb-false j id e)) (omega arith)))

-- the same of the ids of a disc
pub record LowestId (g : Geometry) (t : ℕ → Bool) (id : ℕ) : Type 0 where
  pub from_3 : 3 ≤ id
  pub below : id < g.ids * g.zones
  pub passes : t id ≡ true
  pub first : (j : ℕ) → 3 ≤ j → j < id → t j ≡ false

pub lowest_id_law : (g : Geometry) (t : ℕ → Bool) (id : ℕ) → lowest_id g t ≡ some id → LowestId g t id
lowest_id_law g t id e =
    let n = g.ids * g.zones - 3 in
    record { from_3 = lowest_least t n 3 id e; below = omega (arith, lowest_lt t n 3 id e); passes = lowest_passes t n 3 id e; first = lowest_first t n 3 id e }

pub no_lowest_id : (g : Geometry) (t : ℕ → Bool) → lowest_id g t ≡ none → (j : ℕ) → 3 ≤ j → j < g.ids * g.zones → t j ≡ false
no_lowest_id g t e j lo hi = lowest_none t (g.ids * g.zones - 3) 3 e j lo (omega arith)

-- the id for a zone: the lowest unused one of it, or there is none and it is the lowest of all
pub data IdFor (g : Geometry) (l : List Piece) (z id : ℕ) : Type 0 where
  there : LowestId g (unused_of g l z) id → IdFor g l z id
  elsewhere : LowestId g (unused l) id → ((j : ℕ) → 3 ≤ j → j < g.ids * g.zones → unused_of g l z j ≡ false) → IdFor g l z id

pub id_found : (g : Geometry) (l : List Piece) (any : ℕ) (qs : List Pair) → lowest_id g (unused l) ≡ some any → IdFor g l (first_zone g qs) (id_for g l any qs)
id_found g l any qs e = go (lowest_id g t) refl
  where
    t : ℕ → Bool
    t = unused_of g l (first_zone g qs)

    go : (o : Option ℕ) → lowest_id g (unused_of g l (first_zone g qs)) ≡ o → IdFor g l (first_zone g qs) (or_any any o)
    go none k = elsewhere (lowest_id_law g (unused l) any e) (no_lowest_id g t k)
    go (some id) k = there (lowest_id_law g t id k)

-- so an ordinary one that has no piece
pub id_ordinary : (g : Geometry) (l : List Piece) (z id : ℕ) → IdFor g l z id → (3 ≤ id) × (id < g.ids * g.zones) × (unused l id ≡ true)
id_ordinary g l z id (there a) = (a.from_3, a.below, (both (eqb (start_zone g id) z) (unused l id) a.passes).1)
id_ordinary g l z id (elsewhere a n) = (a.from_3, a.below, a.passes)

-- the choice taken apart
pub record ChoiceParts (g : Geometry) (l : List Piece) (size parent id : ℕ) (qs : List Pair) : Type 0 where
  pub any : ℕ
  pub any_lowest : lowest_id g (unused l) ≡ some any
  pub taken : List Pair
  pub taken_is : taken_for g l (need g size) parent ≡ some taken
  pub id_is : id_for g l any taken ≡ id
  pub pairs_are : in_object_order g id taken ≡ qs

pub record ChosenId (g : Geometry) (l : List Piece) (id : ℕ) (qs : List Pair) : Type 0 where
  pub ordinary : editable g id ≡ true
  pub absent : pieces_of id l ≡ []
  pub some_pairs : qs ≡ [] → ⊥

pub record ChosenPairs (g : Geometry) (l : List Piece) (id : ℕ) (qs : List Pair) : Type 0 where
  pub long : All (is_long g.shortest) (map (own id) qs)
  pub in_order : InOrder (late g id) (disc_bits g) 0 (map (own id) qs)
  pub fit : FitPieces g (give id qs l)

-- the holes that a claim takes in their order: each is one of a zone's, and no two start at the same bit
pub record InTurn (g : Geometry) (l : List Piece) (hs : List Pair) : Type 0 where
  pub free : (h : Pair) → In h hs → (z : ℕ) × (z < g.zones) × In h (holes_in g l z)
  pub apart : StartsApart hs

pub in_turn_law : (g : Geometry) (l : List Piece) (n parent : ℕ) → AcceptedGeometry g → FitPieces g l → parent < g.zones → InTurn g l (in_turn g l (first_hole n (holes_near g l parent)))
in_turn_law g l n parent f k b = go (first_hole n (holes_near g l parent)) refl
  where
    one : (h : Pair) → first_hole n (holes_near g l parent) ≡ some h → (z : ℕ) × (z < g.zones) × In h (holes_in g l z)
    one h e =
        let z = in_holes_of g l (zones_near g.zones parent) h (first_in n (holes_near g l parent) h e).0 in
        (z.0, near_exists g.zones parent b z.0 z.1, z.2)

    alone : (h : Pair) → first_hole n (holes_near g l parent) ≡ some h → (x : Pair) → In x (h ∷ []) → (z : ℕ) × (z < g.zones) × In x (holes_in g l z)
    alone h e x (inl j) = subst (λ (y : Pair). (z : ℕ) × (z < g.zones) × In y (holes_in g l z)) (sym j) (one h e)
    alone h e x (inr j) = absurd j

    some_zone : (x : Pair) → In x (by_size (holes_from g 0 g.zones l)) → (z : ℕ) × (z < g.zones) × In x (holes_in g l z)
    some_zone x i = let z = in_holes g 0 g.zones l x (sorted_in leads x (holes_from g 0 g.zones l) i) in (z.0, omega (arith, z.2), z.3)

    go : (o : Option Pair) → first_hole n (holes_near g l parent) ≡ o → InTurn g l (in_turn g l o)
    go (some h) e = record { free = alone h e; apart = (tt, tt) }
    go none e = record {
      free = some_zone;
      apart = apart_sorted leads (holes_from g 0 g.zones l) (ascends_apart (zone_from g 0) (holes_from g 0 g.zones l) (all_holes_ascend g l f k 0 g.zones (omega arith)));
    }

-- the first pair that is taken of holes starts where the first of them does
pub first_taken_law : (g : Geometry) {m n : ℕ} {hs qs : List Pair} → FrontTaken m n hs qs → (h : Pair) × (others : List Pair) × (hs ≡ h ∷ others) × (first_zone g qs ≡ zone_of g h.start)
first_taken_law g {hs = hs} {qs} f = go f.whole f.hole f.behind f.last f.holes_are f.taken_are (ap (λ (q : Pair). q.start) f.last_is)
  where
    go : (whole : List Pair) (hole : Pair) (behind : List Pair) (last : Pair) → hs ≡ whole ++ (hole ∷ behind) → qs ≡ whole ++ (last ∷ []) → last.start ≡ hole.start
        → (h : Pair) × (others : List Pair) × (hs ≡ h ∷ others) × (first_zone g qs ≡ zone_of g h.start)
    go [] hole behind last a b s = (hole, behind, a, ap (first_zone g) b ∙ ap (zone_of g) s)
    go (x ∷ xs) hole behind last a b s = (x, xs ++ (hole ∷ behind), a, ap (first_zone g) b)

-- need is at least m
pub need_long : (g : Geometry) (size : ℕ) → g.shortest ≤ need g size
need_long g size = omega arith

module _ (g : Geometry) (l : List Piece) (size parent id : ℕ) (qs : List Pair) (e : chosen g l size parent ≡ answered (choice id qs)) where
  pub choice_parts : ChoiceParts g l size parent id qs
  choice_parts = go (lowest_id g (unused l)) refl (taken_for g l (need g size) parent) refl e
    where
      go : (o : Option ℕ) → lowest_id g (unused l) ≡ o → (p : Option (List Pair)) → taken_for g l (need g size) parent ≡ p → choose_in g l o p ≡ answered (choice id qs)
          → ChoiceParts g l size parent id qs
      go none a p b c = let z : ◌≡◌ {A = ℕ} 0 1 = cc in absurd (omega arith)
      go (some any) a none b c = let z : ◌≡◌ {A = ℕ} 0 1 = cc in absurd (omega arith)
      go (some any) a (some t) b c =
          let d : choice_of g (id_for g l any t) t ≡ choice id qs = cc in
          let i : id_for g l any t ≡ id = ap (λ (x : Choice). x.id) d in
          record { any = any; any_lowest = a; taken = t; taken_is = b; id_is = i; pairs_are = ap (λ (x : ℕ). in_object_order g x t) (sym i) ∙ ap (λ (x : Choice). x.pairs) d }

  module _ (f : AcceptedGeometry g) where
    pub front : FrontTaken g.shortest (need g size) (in_turn g l (first_hole (need g size) (holes_near g l parent))) choice_parts.taken
    front =
        let p = choice_parts in
        front_taken g.shortest (need g size) (in_turn g l (first_hole (need g size) (holes_near g l parent))) p.taken (omega (arith, some_bits g f, need_long g size)) p.taken_is

  pub chosen_id : AcceptedGeometry g → ChosenId g l id qs
  chosen_id f =
      let p = choice_parts in
      let z = first_zone g p.taken in
      let i = id_ordinary g l z id (subst (IdFor g l z) p.id_is (id_found g l p.any p.taken p.any_lowest)) in
      let t = front f in
      record {
        ordinary = and_true (leb 3 id) (ltb id (g.ids * g.zones)) (le-leb 3 id i.0) (lt-ltb id (g.ids * g.zones) i.1);
        absent = empty (pieces_of id l) i.2;
        some_pairs = λ k.
            let j : In t.last p.taken = subst (In t.last) (sym t.taken_are) (in_right t.last t.whole (t.last ∷ []) (inl refl)) in
            subst (In t.last) (p.pairs_are ∙ k) (in_in_order g id p.taken t.last j);
      }

  module _ (f : AcceptedGeometry g) (k : FitPieces g l) (b : parent < g.zones) where
    -- each pair is taken of a hole
    pub taken_of : (q : Pair) → In q choice_parts.taken → TakenOf g l q
    taken_of q i = go (in_append q t.whole (t.last ∷ []) (subst (In q) t.taken_are i))
      where
        t : FrontTaken g.shortest (need g size) (in_turn g l (first_hole (need g size) (holes_near g l parent))) choice_parts.taken
        t = front f

        hs : InTurn g l (in_turn g l (first_hole (need g size) (holes_near g l parent)))
        hs = in_turn_law g l (need g size) parent f k b

        of_hole : (h : Pair) → In h (in_turn g l (first_hole (need g size) (holes_near g l parent))) → (x : Pair) → x.start ≡ h.start
            → (g.shortest ≤ h.len → Gap g.shortest x.len h.len × (g.shortest ≤ x.len)) → TakenOf g l x
        of_hole h j x s r =
            let z = hs.free h j in
            let w = r (hole_size g l f k z.0 z.1 h z.2) in
            record { zone = z.0; there = z.1; hole = h; free = z.2; start = s; left = w.0; long = w.1 }

        go : In q t.whole ⊎ In q (t.last ∷ []) → TakenOf g l q
        go (inl j) = of_hole q (subst (In q) (sym t.holes_are) (in_left q t.whole (t.hole ∷ t.behind) j)) q refl (λ w. (inl refl, w))
        go (inr (inl j)) =
            subst (TakenOf g l) (sym (j ∙ t.last_is))
            (of_hole t.hole (subst (In t.hole) (sym t.holes_are) (in_right t.hole t.whole (t.hole ∷ t.behind) (inl refl))) (cut g.shortest t.rest t.hole) refl
            (λ w. let c = cut_fits g.shortest t.rest t.hole.len w t.enough in (c.left, c.long)))
        go (inr (inr j)) = absurd j

    pub taken_apart : StartsApart choice_parts.taken
    taken_apart = apart_taken (front f) (in_turn_law g l (need g size) parent f k b).apart

    on_map : (q : Pair) → In q choice_parts.taken → ltb q.start (disc_bits g) ≡ true
    on_map q i =
        let t = taken_of q i in
        lt-ltb q.start (disc_bits g) (zoned_on_disc g q.start f (omega (arith, taken_zone g f l k q t, t.there)))

    pub chosen_pairs : ChosenPairs g l id qs
    chosen_pairs =
        let p = choice_parts in
        let a = taken_apart in
        let up = by_start p.taken in
        let named : ltb id (g.ids * g.zones) ≡ true = (both (leb 3 id) (ltb id (g.ids * g.zones)) (chosen_id f).ordinary).1 in
        subst (ChosenPairs g l id) p.pairs_are
        (record {
          long = all_in_order (is_long g.shortest) g id p.taken (λ q i. le-leb g.shortest q.len (taken_of q i).long);
          in_order = list_in_order g id p.taken a on_map;
          fit = subst (FitPieces g) (sym (list_gives g id p.taken a l))
              (fit_claim g f l k id named up (ascends_apart 0 up (by_start_ascends p.taken a)) (λ q i. taken_of q (sorted_in lower q p.taken i)));
        })
