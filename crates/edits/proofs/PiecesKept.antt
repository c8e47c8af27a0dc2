-- Pieces that an accepted map can hold: they fit, in whole clusters, the rules on objects 1 and 2 hold of them, and no owner
-- is 0. Each accepted edit keeps that.
use mathlib.Core.Path.{◌≡◌, refl, subst}
use mathlib.Core.Bool.{true, false, not, ◌&&◌}
use mathlib.Core.List.{List, [], ◌∷◌, map}
use mathlib.Core.Option.{none}
use mathlib.Core.Logic.{inl}
use Prim.Native.Nat.{ℕ, ◌*◌, ◌/◌, ◌%◌, ◌<◌, ◌≤◌}
use native.Mathlib.Omega.{arith}
use lib.Dec.{eqb, ltb, leb}
use lib.ListN.{length}
use borrow.Author.Tests.{eqb-true, ne_eqb, not-false, leb-true, le-leb}
use Rattle.bits.proofs.Tests.{by_test, both}
use Rattle.geometry.specs.declared.Geometry.{Geometry}
use Rattle.geometry.specs.Accepted.{AcceptedGeometry}
use Rattle.geometry.specs.Places.{zone_of, zone_from, zone_end}
use Rattle.model.specs.Chain.{Pair}
use Rattle.model.specs.Pieces.{Piece, pieces_of, object_pairs}
use Rattle.edits.specs.Order.{Ascending}
use Rattle.edits.specs.Edits.{Disc, not_of, without, insert, put, own, give, in_zone, Edit, takes, gives, edit}
use Rattle.edits.specs.Holes.{apart, all_apart}
use Rattle.model.specs.Answer.{Answer, refused, answered, unless}
use Rattle.edits.specs.Judge.{Call, release, place, claim, is_empty, editable, pairs_from, pairs_fit, list_fits, judge}
use Rattle.edits.proofs.PieceRuns.{obey, after}
use Rattle.edits.proofs.Kept.{All, all_keep, all_put, keep_comm}
use Rattle.edits.proofs.ByPlace.{keep_insert_no}
use Rattle.edits.proofs.PutIn.{asc_insert, keep_insert}
use Rattle.edits.proofs.Gaps.{is_long}
use Rattle.edits.proofs.Invariant.{FitPieces, some_bits, fit_asc, fit_without, list_long}
use Rattle.edits.proofs.Chosen.{chosen_id, chosen_pairs}
use Rattle.edits.proofs.RunsKept.{unless_inv, same_edit, claim_tests, allowed}
use Rattle.edits.proofs.Returned.{is_whole}
use Rattle.edits.proofs.ClustersKept.{list_whole, chosen_whole}
use Rattle.edits.proofs.ObjectRules.{ObjectRules, one_keep, one_insert, two_keep, two_insert, apart_without}

pub record AcceptedPieces (g : Geometry) (l : List Piece) : Type 0 where
  pub fit : FitPieces g l
  pub objects : ObjectRules g l
  pub clusters : All (is_whole g.cluster) l
  pub numbered : All (λ p. leb 1 p.owner) l

-- taken out
not_one : (id : ℕ) → 2 < id → (p : Piece) → not_of id p ≡ false → eqb p.owner 1 ≡ false
not_one id h p e = ne_eqb p.owner 1 (λ k. omega (arith, eqb-true p.owner id (not-false (eqb p.owner id) e)))

objects_without : (g : Geometry) (id : ℕ) (l : List Piece) → 2 < id → ObjectRules g l → ObjectRules g (without id l)
objects_without g id l h r = record {
  one = λ z k.
      rw (keep_comm (λ p. eqb (zone_of g p.at.start) z) (not_of id) l)
      (one_keep g.end.0 (zone_from g z) (zone_from g z) (zone_end g z) (not_of id) (in_zone g z l) (not_one id h) (inl refl) (r.one z k));
  two =
      rw (keep_comm (λ p. eqb (zone_of g p.at.start) (g.zones / 2)) (not_of id) l)
      (two_keep (zone_from g (g.zones / 2)) id (in_zone g (g.zones / 2) l) h r.two);
}

pub accepted_without : (g : Geometry) (id : ℕ) (l : List Piece) → 2 < id → AcceptedPieces g l → AcceptedPieces g (without id l)
accepted_without g id l h k = record {
  fit = fit_without g id l k.fit;
  objects = objects_without g id l h k.objects;
  clusters = all_keep _ (not_of id) l k.clusters;
  numbered = all_keep _ (not_of id) l k.numbered;
}

-- put in
abbrev EachApart : Geometry → List Piece → Type 0
EachApart g l = (z : ℕ) → z < g.zones → apart g.shortest (zone_from g z) (zone_end g z) (in_zone g z l) ≡ true

objects_insert : (g : Geometry) (q : Piece) (l : List Piece) → 0 < g.zones → 0 < q.at.len → Ascending 0 l → EachApart g (insert q l) → ObjectRules g l → ObjectRules g (insert q l)
objects_insert g q l n z a h r = record {
  one = λ i k. by_test (eqb (zone_of g q.at.start) i)
      (λ t. let e = keep_insert (λ p. eqb (zone_of g p.at.start) i) 0 q l a t in
      rw e (one_insert g.shortest g.end.0 (zone_from g i) (zone_end g i) q (in_zone g i l) z (rw e at (h i k)) (r.one i k)))
      (λ t. rw (keep_insert_no (λ p. eqb (zone_of g p.at.start) i) q l t) (r.one i k));
  two = let i = g.zones / 2 in by_test (eqb (zone_of g q.at.start) i)
      (λ t. let e = keep_insert (λ p. eqb (zone_of g p.at.start) i) 0 q l a t in
      rw e (two_insert g.shortest (zone_from g i) (zone_end g i) q (in_zone g i l) (rw e at (h i (omega arith))) r.two))
      (λ t. rw (keep_insert_no (λ p. eqb (zone_of g p.at.start) i) q l t) r.two);
}

apart_less : (g : Geometry) (q : Piece) (l : List Piece) → g.shortest ≤ q.at.len → Ascending 0 l → EachApart g (insert q l) → EachApart g l
apart_less g q l m a h i k =
    by_test (eqb (zone_of g q.at.start) i)
    (λ t. apart_without g.shortest (zone_from g i) (zone_end g i) q (in_zone g i l) m (rw (keep_insert (λ p. eqb (zone_of g p.at.start) i) 0 q l a t) at (h i k)))
    (λ t. rw (keep_insert_no (λ p. eqb (zone_of g p.at.start) i) q l t) at (h i k))

objects_put : (g : Geometry) (ps l : List Piece) → AcceptedGeometry g → All (is_long g.shortest) ps → Ascending 0 (put ps l) → EachApart g (put ps l) → ObjectRules g l → ObjectRules g (put ps l)
objects_put g [] l ok w a h r = r
objects_put g (p ∷ ps) l ok w a h r =
    let b = asc_insert 0 p (put ps l) a in
    let k = leb-true g.shortest p.at.len w.0 in
    objects_insert g p (put ps l) ok.zones_low (omega (arith, some_bits g ok)) b h (objects_put g ps l ok w.1 b (apart_less g p (put ps l) k b h) r)

all_numbered : (id : ℕ) (qs : List Pair) → 1 ≤ id → All (λ p. leb 1 p.owner) (map (own id) qs)
all_numbered id [] h = tt
all_numbered id (q ∷ qs) h = (le-leb 1 id h, all_numbered id qs h)

pub accepted_give : (g : Geometry) (id : ℕ) (qs : List Pair) (l : List Piece) → AcceptedGeometry g → 1 ≤ id → AcceptedPieces g l → FitPieces g (give id qs l)
    → All (is_long g.shortest) (map (own id) qs) → All (is_whole g.cluster) (map (own id) qs) → AcceptedPieces g (give id qs l)
accepted_give g id qs l ok i k fit w a = record {
  fit = fit;
  objects = objects_put g (map (own id) qs) l ok w (fit_asc g (give id qs l) ok fit) fit.parts k.objects;
  clusters = all_put _ (map (own id) qs) l a k.clusters;
  numbered = all_put _ (map (own id) qs) l (all_numbered id qs i) k.numbered;
}

-- a call's id
pub editable_from : (g : Geometry) (id : ℕ) → editable g id ≡ true → 2 < id
editable_from g id h = leb-true 3 id (both (leb 3 id) (ltb id (g.ids * g.zones)) h).0

-- each accepted edit
module _ (g : Geometry) (ok : AcceptedGeometry g) (s : Disc) (k : AcceptedPieces g s.pieces) where
  abbrev l : List Piece
  l = s.pieces

  -- it is enough to show it of the edit that the tests lead to
  by_edit : {a e : Edit} → answered a ≡ answered e → FitPieces g (edit g e s).pieces → (FitPieces g (edit g a s).pieces → AcceptedPieces g (edit g a s).pieces) → AcceptedPieces g (edit g e s).pieces
  by_edit h fit f = subst (λ (x : Edit). FitPieces g (edit g x s).pieces → AcceptedPieces g (edit g x s).pieces) (same_edit h) f fit

  pub accepted_edit : (c : Call) (e : Edit) → judge g none s.pieces c ≡ answered e → AcceptedPieces g (edit g e s).pieces
  accepted_edit (release id room) e h =
      let qs = object_pairs g id l in
      let a = unless_inv (editable g id) 8 (unless (not (is_empty (pieces_of id l))) 10 (unless (leb (2 * length qs) room) 17 (answered (takes id qs)))) e h in
      let b = unless_inv (not (is_empty (pieces_of id l))) 10 (unless (leb (2 * length qs) room) 17 (answered (takes id qs))) e a.1 in
      let c = unless_inv (leb (2 * length qs) room) 17 (answered (takes id qs)) e b.1 in
      by_edit {a = takes id qs} c.1 ((allowed g l (release id room) e ok k.fit h).1 s.cross)
      (λ fit. accepted_without g id l (editable_from g id a.0) k)
  accepted_edit (place id list) e h =
      let qs = pairs_from list in
      let a = unless_inv (editable g id) 8 _ e h in
      let b = unless_inv (is_empty (pieces_of id l)) 11 _ e a.1 in
      let c = unless_inv (list_fits g id list) 12 _ e b.1 in
      let d = unless_inv (all_apart g 0 g.zones (give id qs l)) 13 (answered (gives id qs)) e c.1 in
      let fits : pairs_fit g id 0 qs ≡ true = (both (ltb 0 (length list) && eqb (length list % 2) 0) (pairs_fit g id 0 qs) c.0).1 in
      by_edit {a = gives id qs} d.1 ((allowed g l (place id list) e ok k.fit h).1 s.cross)
      (λ fit. accepted_give g id qs l ok (omega (arith, editable_from g id a.0)) k fit (list_long g id 0 qs fits) (list_whole g id 0 qs fits))
  accepted_edit (claim size parent room) e h =
      let t = claim_tests g l size parent room e h in
      let i = chosen_id g l size parent t.0 t.1 t.2 ok in
      let c = chosen_pairs g l size parent t.0 t.1 t.2 ok k.fit t.4 in
      subst (λ (x : Edit). AcceptedPieces g (edit g x s).pieces) t.3
      (accepted_give g t.0 t.1 l ok (omega (arith, editable_from g t.0 i.ordinary)) k c.fit c.long (chosen_whole g l size parent t.0 t.1 ok k.fit k.clusters t.4 t.2))

  pub accepted_after : (c : Call) → AcceptedPieces g (after g s c).pieces
  accepted_after c = go (judge g none s.pieces c) refl
    where
      go : (v : Answer Edit) → judge g none s.pieces c ≡ v → AcceptedPieces g (obey g v s).pieces
      go (refused i zone) h = k
      go (answered e) h = accepted_edit c e h
