-- Which bits are free after an edit. The free bits are those that no piece has, so an edit frees the bits of the pieces that it takes away, of
-- which no other piece has any, and those of the pairs that it gives are free no longer.
use mathlib.Core.Path.{◌≡◌, refl, sym, ap, ◌∙◌, subst, subst⁻¹}
use mathlib.Core.Bool.{Bool, not, false≢true}
use mathlib.Core.List.{List, [], ◌∷◌, map}
use mathlib.Core.Logic.{◌⊎◌, ◌↔◌, inl, inr}
use Prim.Native.Nat.{ℕ, ◌+◌, ◌<◌}
use native.Mathlib.Omega.{arith}
use lib.Dec.{ltb, leb}
use borrow.Author.Tests.{eqb-true, eq-eqb, ltb-true, ltb-false, leb-true, leb-false}
use Rattle.bits.proofs.Tests.{by_test}
use Rattle.geometry.specs.declared.Geometry.{Geometry}
use Rattle.geometry.specs.Record.{geometry_of}
use Rattle.geometry.specs.Accepted.{AcceptedGeometry}
use Rattle.geometry.specs.Places.{zone_of, zone_from, zone_end, disc_bits}
use Rattle.model.specs.Chain.{Pair, Within}
use Rattle.model.specs.Pieces.{Piece, keep, is_of, pieces_of, late, rotate, object_pairs}
use Rattle.model.specs.Shown.{zones_of, pieces_on, spans_on}
use Rattle.model.proofs.ChainDrawn.{Lies}
use Rattle.edits.specs.Edits.{Disc, not_of, without, put, own, give, in_zone, Edit, takes, gives, edit}
use Rattle.edits.specs.Room.{In, InSome}
use Rattle.edits.specs.Steps.{disc_of}
use Rattle.edits.specs.Editable.{Editable, released_in, given_in}
use Rattle.edits.proofs.Entries.{in_append, in_left, in_right, in_keep, in_kept, in_map, map_in, insert_own, in_insert, in_put, put_in}
use Rattle.edits.proofs.Invariant.{FitPieces, zoned_on_disc}
use Rattle.edits.proofs.MapAccepted.{map_geometry, map_disc}
use Rattle.edits.proofs.HolesAscend.{zone_lies}
use Rattle.edits.proofs.FreeBits.{NoneHas, lies_from, piece_bit, in_its_zone, map_free}
use Rattle.edits.proofs.Undo.{Allowed}

module _ (g : Geometry) (l : List Piece) (ok : AcceptedGeometry g) (fit : FitPieces g l) where
  -- two pieces that share a bit are one
  one_piece : (p x : Piece) → In p l → In x l → (d : ℕ) → Within p.at d → Within x.at d → p ≡ x
  one_piece p x i j d v w =
      let z = zone_of g d in
      lies_one (zone_from g z) (zone_end g z) (in_zone g z l) (zone_lies g l ok fit z (piece_bit g l ok fit p i d v).1) (in_its_zone g l ok fit p i d v) (in_its_zone g l ok fit x j d w)
    where
      lies_one : (at end : ℕ) (ps : List Piece) → Lies at end ps → In p ps → In x ps → p ≡ x
      lies_one at end [] y a b = absurd a
      lies_one at end (q ∷ qs) y (inl a) (inl b) = a ∙ sym b
      lies_one at end (q ∷ qs) y (inl a) (inr b) =
          let u : Within q.at d = subst (λ (r : Piece). Within r.at d) a v in
          absurd (omega (arith, lies_from (q.at.start + q.at.len) end qs x y.2 b))
      lies_one at end (q ∷ qs) y (inr a) (inl b) =
          let u : Within q.at d = subst (λ (r : Piece). Within r.at d) b w in
          absurd (omega (arith, lies_from (q.at.start + q.at.len) end qs p y.2 a))
      lies_one at end (q ∷ qs) y (inr a) (inr b) = lies_one (q.at.start + q.at.len) end qs y.2 a b

-- whether a piece has a bit
pub has_or_none : (l : List Piece) (d : ℕ) → ((p : Piece) × In p l × Within p.at d) ⊎ NoneHas l d
has_or_none [] d = inr (λ p i v. i)
has_or_none (x ∷ xs) d =
    by_test (leb x.at.start d)
    (λ t. by_test (ltb d (x.at.start + x.at.len))
    (λ u. inl (x, inl refl, (leb-true x.at.start d t, ltb-true d (x.at.start + x.at.len) u)))
    (λ u. go (λ v. omega (arith, ltb-false d (x.at.start + x.at.len) u)) (has_or_none xs d)))
    (λ t. go (λ v. omega (arith, leb-false x.at.start d t)) (has_or_none xs d))
  where
    both_not : (Within x.at d → ⊥) → NoneHas xs d → NoneHas (x ∷ xs) d
    both_not n k p (inl i) v = n (subst (λ (r : Piece). Within r.at d) i v)
    both_not n k p (inr i) v = k p i v

    go : (Within x.at d → ⊥) → ((p : Piece) × In p xs × Within p.at d) ⊎ NoneHas xs d → ((p : Piece) × In p (x ∷ xs) × Within p.at d) ⊎ NoneHas (x ∷ xs) d
    go n (inl k) = inl (k.0, inr k.1, k.2)
    go n (inr k) = inr (both_not n k)

-- an object's pairs are its pieces'
pub listed_in : (g : Geometry) (id : ℕ) (l : List Piece) (p : Piece) → In p l → p.owner ≡ id → In p.at (object_pairs g id l)
listed_in g id l p i e =
    map_in (λ (x : Piece). x.at) p (rotate t X)
    (by_test (t p)
    (λ k. in_left p (keep t X) (keep (λ x. not (t x)) X) (in_keep t p X j k))
    (λ k. in_right p (keep t X) (keep (λ x. not (t x)) X) (in_keep (λ x. not (t x)) p X j (ap not k))))
  where
    X : List Piece
    X = pieces_of id l

    t : Piece → Bool
    t = late g id

    j : In p (pieces_of id l)
    j = in_keep (is_of id) p l i (eq-eqb p.owner id e)

pub in_listed : (g : Geometry) (id : ℕ) (l : List Piece) (q : Pair) → In q (object_pairs g id l) → (p : Piece) × In p l × (p.owner ≡ id) × (q ≡ p.at)
in_listed g id l q i =
    let r = in_map (λ (x : Piece). x.at) q (rotate (late g id) (pieces_of id l)) i in
    let k = in_kept (is_of id) r.0 l (go r.0 (in_append r.0 (keep (late g id) (pieces_of id l)) (keep (λ x. not (late g id x)) (pieces_of id l)) r.1)) in
    (r.0, k.0, eqb-true r.0.owner id k.1, r.2)
  where
    go : (p : Piece) → In p (keep (late g id) (pieces_of id l)) ⊎ In p (keep (λ x. not (late g id x)) (pieces_of id l)) → In p (pieces_of id l)
    go p (inl j) = (in_kept (late g id) p (pieces_of id l) j).0
    go p (inr j) = (in_kept (λ x. not (late g id x)) p (pieces_of id l) j).0

pub put_own : (h : Piece) (ps l : List Piece) → In h ps → In h (put ps l)
put_own h [] l i = absurd i
put_own h (p ∷ ps) l (inl e) = subst (λ (x : Piece). In x (put (p ∷ ps) l)) (sym e) (insert_own p (put ps l))
put_own h (p ∷ ps) l (inr i) = in_insert h p (put ps l) (put_own h ps l i)

-- the bits that no piece has after an edit
abbrev FreeOf : Geometry → List Piece → ℕ → Type 0
FreeOf g l d = (d < disc_bits g) × NoneHas l d

module _ (g : Geometry) (s : Disc) (ok : AcceptedGeometry g) (fit : FitPieces g s.pieces) (d : ℕ) where
  pub edit_frees : (e : Edit) → Allowed g s.pieces e → FreeOf g (edit g e s).pieces d ↔ (InSome (released_in e) d ⊎ (FreeOf g s.pieces d × (InSome (given_in e) d → ⊥)))
  edit_frees (takes id qs) a = (there, back)
    where
      l : List Piece
      l = s.pieces

      there : FreeOf g (without id s.pieces) d → InSome qs d ⊎ (FreeOf g s.pieces d × (InSome [] d → ⊥))
      there k = go (has_or_none s.pieces d)
        where
          go : ((p : Piece) × In p s.pieces × Within p.at d) ⊎ NoneHas s.pieces d → InSome qs d ⊎ (FreeOf g s.pieces d × (InSome [] d → ⊥))
          go (inl h) =
              by_test (is_of id h.0)
              (λ t. inl (h.0.at, subst⁻¹ (In h.0.at) a (listed_in g id s.pieces h.0 h.1 (eqb-true h.0.owner id t)), h.2))
              (λ t. absurd (k.1 h.0 (in_keep (not_of id) h.0 s.pieces h.1 (ap not t)) h.2))
          go (inr n) = inr ((k.0, n), λ w. w.1)

      back : InSome qs d ⊎ (FreeOf g s.pieces d × (InSome [] d → ⊥)) → FreeOf g (without id s.pieces) d
      back (inl w) =
          let r = in_listed g id s.pieces w.0 (subst (In w.0) a w.1) in
          let v : Within r.0.at d = subst (λ (x : Pair). Within x d) r.3 w.2 in (
            zoned_on_disc g d ok (piece_bit g s.pieces ok fit r.0 r.1 d v).1,
            λ p i u. let j = in_kept (not_of id) p s.pieces i in
                let e = one_piece g s.pieces ok fit p r.0 j.0 r.1 d u v in
                let o : p.owner ≡ id = ap (λ (x : Piece). x.owner) e ∙ r.2 in
                false≢true (sym (ap not (eq-eqb p.owner id o)) ∙ j.1),
          )
      back (inr k) = (k.0.0, λ p i. k.0.1 p (in_kept (not_of id) p s.pieces i).0)
  edit_frees (gives id qs) a = (there, back)
    where
      there : FreeOf g (give id qs s.pieces) d → InSome [] d ⊎ (FreeOf g s.pieces d × (InSome qs d → ⊥))
      there k = inr ((k.0, λ p i. k.1 p (in_put p (map (own id) qs) s.pieces i)), λ w. k.1 (own id w.0) (put_own (own id w.0) (map (own id) qs) s.pieces (map_in (own id) w.0 qs w.1)) w.2)

      none_given : NoneHas s.pieces d → (InSome qs d → ⊥) → (p : Piece) → Within p.at d → In p (map (own id) qs) ⊎ In p s.pieces → ⊥
      none_given n k p v (inl i) = let r = in_map (own id) p qs i in k (r.0, r.1, subst (λ (x : Piece). Within x.at d) r.2 v)
      none_given n k p v (inr i) = n p i v

      back : InSome [] d ⊎ (FreeOf g s.pieces d × (InSome qs d → ⊥)) → FreeOf g (give id qs s.pieces) d
      back (inl w) = absurd w.1
      back (inr k) = (k.0.0, λ p i v. none_given k.0.1 k.1 p v (put_in p (map (own id) qs) s.pieces i))

-- a map's free bits after an edit
pub free_after : (m after : List ℕ) → Editable m → Editable after → geometry_of after ≡ geometry_of m → (e : Edit) → Allowed (geometry_of m) (pieces_on (geometry_of m) m) e
    → pieces_on (geometry_of after) after ≡ (edit (geometry_of m) e (disc_of m (zones_of m))).pieces
    → (d : ℕ) → InSome (spans_on after) d ↔ (InSome (released_in e) d ⊎ (InSome (spans_on m) d × (InSome (given_in e) d → ⊥)))
free_after m after ed again disc e a pieces d =
    let g = geometry_of m in
    let ok = map_geometry m (zones_of m) ed.bytes ed.accepted in
    let fit = (map_disc m (zones_of m) ed.bytes ed.accepted).pieces.fit in
    let new = subst (λ (l : List Piece). InSome (spans_on after) d ↔ FreeOf g l d) pieces
    (subst (λ (x : Geometry). InSome (spans_on after) d ↔ FreeOf x (pieces_on (geometry_of after) after) d) disc (map_free after again d)) in
    let moved = edit_frees g (disc_of m (zones_of m)) ok fit d e a in
    (λ w. there (moved.0 (new.0 w)), λ w. new.1 (moved.1 (back w)))
  where
    there : InSome (released_in e) d ⊎ (FreeOf (geometry_of m) (pieces_on (geometry_of m) m) d × (InSome (given_in e) d → ⊥))
        → InSome (released_in e) d ⊎ (InSome (spans_on m) d × (InSome (given_in e) d → ⊥))
    there (inl w) = inl w
    there (inr w) = inr ((map_free m ed d).1 w.0, w.1)

    back : InSome (released_in e) d ⊎ (InSome (spans_on m) d × (InSome (given_in e) d → ⊥))
        → InSome (released_in e) d ⊎ (FreeOf (geometry_of m) (pieces_on (geometry_of m) m) d × (InSome (given_in e) d → ⊥))
    back (inl w) = inl w
    back (inr w) = inr ((map_free m ed d).0 w.0, w.1)
