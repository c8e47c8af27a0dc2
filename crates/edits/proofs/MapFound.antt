-- What is found in all zones of an accepted map. Each zone's part of the map's pieces is what was found in it, so the map's pieces are
-- accepted ones; and where no two free fragments touch, each block is as it would be written.
use mathlib.Core.Path.{◌≡◌, refl, ap, ◌∙◌, subst, subst⁻¹}
use mathlib.Core.Bool.{Bool, true}
use mathlib.Core.List.{List, [], ◌∷◌, ◌++◌, map}
use Prim.Native.Nat.{ℕ, zero, suc, ◌+◌, ◌*◌, ◌/◌, ◌<◌, ◌≤◌}
use native.Mathlib.Omega.{arith}
use lib.Dec.{eqb, ltb, leb}
use lib.ListN.{length, get_or}
use borrow.Author.Tests.{eqb-true, eq-eqb, lt-ltb, le-leb}
use Rattle.bits.proofs.Tests.{both}
use Rattle.checks.specs.Cross.{cross_of}
use Rattle.geometry.specs.declared.Geometry.{Geometry}
use Rattle.geometry.specs.Accepted.{AcceptedGeometry}
use Rattle.geometry.specs.Places.{first_bit, end_bit, disc_bit, zone_from, zone_end, id_from}
use Rattle.model.specs.Chain.{Entry}
use Rattle.model.specs.Pieces.{Piece, owned_of, piece_to_disc, pieces_of_zones}
use Rattle.model.proofs.ChainDrawn.{Lies}
use Rattle.edits.specs.Edits.{in_zone}
use Rattle.edits.specs.Holes.{apart}
use Rattle.edits.proofs.Kept.{All, all_append}
use Rattle.edits.proofs.ByPlace.{Weak, weak_weaken}
use Rattle.edits.proofs.Gaps.{is_long}
use Rattle.edits.proofs.Invariant.{FitPieces}
use Rattle.edits.proofs.Returned.{is_whole}
use Rattle.edits.specs.Written.{written, to_block, written_from}
use Rattle.edits.proofs.BlockWritten.{as_written}
use Rattle.edits.proofs.ZonePlaces.{zone_of_piece, zone_from_law, zone_end_law, zone_low, block_back}
use Rattle.edits.proofs.Gathered.{all_map, FromZone, in_zone_part, later_part}
use Rattle.edits.proofs.ObjectRules.{one_from_end, two_first}
use Rattle.edits.proofs.PiecesKept.{AcceptedPieces}
use Rattle.edits.proofs.ZoneFound.{ZonePieces, ZoneFound}

-- the zones one by one, from z on: their pieces
abbrev pub ZonesPieces : Geometry → ℕ → List (List Entry) → Type 0
ZonesPieces g z [] = Unit {0}
ZonesPieces g z (es ∷ ess) = ZonePieces g z es × ZonesPieces g (suc z) ess

-- and, where none touch, their blocks
abbrev pub ZonesFound : Geometry → ℕ → List (List ℕ) → List (List Entry) → Type 0
ZonesFound g z [] [] = Unit {0}
ZonesFound g z [] (es ∷ ess) = ⊥
ZonesFound g z (b ∷ bs) [] = ⊥
ZonesFound g z (b ∷ bs) (es ∷ ess) = ZoneFound g z b es × ZonesFound g (suc z) bs ess

-- one of them by its place
pub found_at : (g : Geometry) (z : ℕ) (bs : List (List ℕ)) (ess : List (List Entry)) → ZonesFound g z bs ess → (i : ℕ) → i < length bs → ZoneFound g (z + i) (get_or bs i []) (get_or ess i [])
found_at g z [] ess f i h = absurd (omega arith)
found_at g z (b ∷ bs) [] f i h = absurd f
found_at g z (b ∷ bs) (es ∷ ess) f zero h = let e : z ≡ z + 0 = omega arith in subst (λ (j : ℕ). ZoneFound g j b es) e f.0
found_at g z (b ∷ bs) (es ∷ ess) f (suc i) h =
    let e : suc z + i ≡ z + suc i = omega arith in
    subst (λ (j : ℕ). ZoneFound g j (get_or bs i []) (get_or ess i [])) e (found_at g (suc z) bs ess f.1 i (omega arith))

pub pieces_at : (g : Geometry) (z : ℕ) (ess : List (List Entry)) → ZonesPieces g z ess → (i : ℕ) → i < length ess → ZonePieces g (z + i) (get_or ess i [])
pieces_at g z [] f i h = absurd (omega arith)
pieces_at g z (es ∷ ess) f zero h = let e : z ≡ z + 0 = omega arith in subst (λ (j : ℕ). ZonePieces g j es) e f.0
pieces_at g z (es ∷ ess) f (suc i) h =
    let e : suc z + i ≡ z + suc i = omega arith in
    subst (λ (j : ℕ). ZonePieces g j (get_or ess i [])) e (pieces_at g (suc z) ess f.1 i (omega arith))

-- a test that the pieces of every zone pass
pub all_found : (g : Geometry) (t : Piece → Bool) (z : ℕ) (ess : List (List Entry)) → ZonesPieces g z ess
    → ((i : ℕ) (es : List Entry) → z ≤ i → i < z + length ess → ZonePieces g i es → All t (map (piece_to_disc g i) (owned_of es))) → All t (pieces_of_zones g z ess)
all_found g t z [] f k = tt
all_found g t z (es ∷ ess) f k =
    all_append t (map (piece_to_disc g z) (owned_of es)) (pieces_of_zones g (suc z) ess) (k z es (omega arith) (omega arith) f.0)
    (all_found g t (suc z) ess f.1 (λ i ds lo hi x. k i ds (omega arith) (omega arith) x))

pub pieces_from : (g : Geometry) (z : ℕ) (ess : List (List Entry)) → ZonesPieces g z ess → FromZone g z (pieces_of_zones g z ess)
pieces_from g z ess f =
    all_found g (λ p. leb z (zone_of_piece g p)) z ess f
    (λ i es lo hi x. all_map _ _ (map (piece_to_disc g i) (owned_of es)) (λ p e. le-leb z (zone_of_piece g p) (omega (arith, eqb-true (zone_of_piece g p) i e))) x.zoned)

-- each zone's part of the map's pieces is what was found in it
pub zone_pieces_law : (g : Geometry) (z : ℕ) (ess : List (List Entry)) → ZonesPieces g z ess → (i : ℕ) → i < length ess
    → in_zone g (z + i) (pieces_of_zones g z ess) ≡ map (piece_to_disc g (z + i)) (owned_of (get_or ess i []))
zone_pieces_law g z [] f i h = absurd (omega arith)
zone_pieces_law g z (es ∷ ess) f zero h =
    let e : z ≡ z + 0 = omega arith in
    subst (λ (j : ℕ). in_zone g j (pieces_of_zones g z (es ∷ ess)) ≡ map (piece_to_disc g j) (owned_of es)) e
    (in_zone_part g z (map (piece_to_disc g z) (owned_of es)) (pieces_of_zones g (suc z) ess) f.0.zoned (pieces_from g (suc z) ess f.1))
zone_pieces_law g z (es ∷ ess) f (suc i) h =
    let e : suc z + i ≡ z + suc i = omega arith in
    later_part g z (z + suc i) (map (piece_to_disc g z) (owned_of es)) (pieces_of_zones g (suc z) ess) (omega arith) f.0.zoned
    ∙ subst (λ (j : ℕ). in_zone g j (pieces_of_zones g (suc z) ess) ≡ map (piece_to_disc g j) (owned_of (get_or ess i []))) e (zone_pieces_law g (suc z) ess f.1 i (omega arith))

-- so what holds of every zone found holds of every zone's part
pub zone_rule : (g : Geometry) (P : ℕ → List Piece → Type 0) (ess : List (List Entry)) → ZonesPieces g 0 ess
    → ((i : ℕ) (es : List Entry) → ZonePieces g i es → P i (map (piece_to_disc g i) (owned_of es))) → (i : ℕ) → i < length ess → P i (in_zone g i (pieces_of_zones g 0 ess))
zone_rule g P ess f t i h =
    let e : 0 + i ≡ i = omega arith in
    let x : ZonePieces g i (get_or ess i []) = subst (λ (j : ℕ). ZonePieces g j (get_or ess i [])) e (pieces_at g 0 ess f i h) in
    let q : in_zone g i (pieces_of_zones g 0 ess) ≡ map (piece_to_disc g i) (owned_of (get_or ess i [])) =
    subst (λ (j : ℕ). in_zone g j (pieces_of_zones g 0 ess) ≡ map (piece_to_disc g j) (owned_of (get_or ess i []))) e (zone_pieces_law g 0 ess f i h) in
    subst⁻¹ (P i) q (t i (get_or ess i []) x)

module _ (g : Geometry) (ok : AcceptedGeometry g) where
  -- the pieces ascend
  weak_disc : (z a e a2 : ℕ) (l rest : List Piece) → 512 ≤ z * g.bits + a → a2 + 512 ≡ z * g.bits + a → Lies a e l → Weak (disc_bit g z e) rest → Weak a2 (map (piece_to_disc g z) l ++ rest)
  weak_disc z a e a2 [] rest h p y w = weak_weaken rest (omega arith) w
  weak_disc z a e a2 (x ∷ xs) rest h p y w =
      let s = disc_bit g z x.at.start in
      (omega arith, weak_weaken (map (piece_to_disc g z) xs ++ rest) (omega arith) (weak_disc z (x.at.start + x.at.len) e (s + x.at.len) xs rest (omega arith) (omega arith) y.2 w))

  weak_found : (z : ℕ) (ess : List (List Entry)) → ZonesPieces g z ess → Weak (zone_from g z) (pieces_of_zones g z ess)
  weak_found z [] f = tt
  weak_found z (es ∷ ess) f =
      weak_disc z (first_bit z) (end_bit g) (zone_from g z) (owned_of es) (pieces_of_zones g (suc z) ess) (zone_low g ok z) (zone_from_law g ok z) f.0.lie
      (weak_weaken (pieces_of_zones g (suc z) ess) (omega (arith, zone_from_law g ok (suc z), zone_end_law g ok z)) (weak_found (suc z) ess f.1))

  -- owners and lengths are the same by disc bits
  all_disc : (z : ℕ) (t : Piece → Bool) (l : List Piece) → ((p : Piece) → t p ≡ true → t (piece_to_disc g z p) ≡ true) → All t l → All t (map (piece_to_disc g z) l)
  all_disc z t [] f h = tt
  all_disc z t (x ∷ xs) f h = (f x h.0, all_disc z t xs f h.1)

  disc_ids : (z : ℕ) (l : List Piece) → All (λ p. id_from 1 g p.owner) l → All (λ p. id_from 1 g p.owner) (map (piece_to_disc g z) l)
  disc_ids z l a = all_disc z (λ p. id_from 1 g p.owner) l (λ p h. h) a

  pub fit_found : (ess : List (List Entry)) → length ess ≡ g.zones → ZonesPieces g 0 ess → FitPieces g (pieces_of_zones g 0 ess)
  fit_found ess e f = record {
    weak = weak_weaken (pieces_of_zones g 0 ess) (omega arith) (weak_found 0 ess f);
    long = all_found g (is_long g.shortest) 0 ess f (λ i es lo hi x. all_disc i (is_long g.shortest) (owned_of es) (λ p h. h) x.long);
    zoned = all_found g (λ p. ltb (zone_of_piece g p) g.zones) 0 ess f
        (λ i es lo hi x. all_map _ _ (map (piece_to_disc g i) (owned_of es)) (λ p h. lt-ltb (zone_of_piece g p) g.zones (omega (arith, eqb-true (zone_of_piece g p) i h))) x.zoned);
    named = all_found g (λ p. ltb p.owner (g.ids * g.zones)) 0 ess f
        (λ i es lo hi x. all_map _ _ (map (piece_to_disc g i) (owned_of es)) (λ p h. (both (leb 1 p.owner) (ltb p.owner (g.ids * g.zones)) h).1) (disc_ids i (owned_of es) x.ids));
    parts = λ z h. zone_rule g (λ i l. apart g.shortest (zone_from g i) (zone_end g i) l ≡ true) ess f (λ i es x. x.apart_in) z (omega arith);
  }

  pub pieces_found : (ess : List (List Entry)) → length ess ≡ g.zones → ZonesPieces g 0 ess → AcceptedPieces g (pieces_of_zones g 0 ess)
  pieces_found ess e f = record {
    fit = fit_found ess e f;
    objects = record {
      one = λ z h. zone_rule g (λ i l. one_from_end g.end.0 (zone_from g i) (zone_end g i) l ≡ true) ess f (λ i es x. x.one) z (omega arith);
      two = zone_rule g (λ i l. eqb i (g.zones / 2) ≡ true → two_first (zone_from g i) l ≡ true) ess f (λ i es x. x.two) (g.zones / 2) (omega (arith, ok.zones_low)) (eq-eqb (g.zones / 2) (g.zones / 2) refl);
    };
    clusters = all_found g (is_whole g.cluster) 0 ess f (λ i es lo hi x. x.clusters);
    numbered = all_found g (λ p. leb 1 p.owner) 0 ess f
        (λ i es lo hi x. all_map _ _ (map (piece_to_disc g i) (owned_of es)) (λ p h. (both (leb 1 p.owner) (ltb p.owner (g.ids * g.zones)) h).0) (disc_ids i (owned_of es) x.ids));
  }

  -- what was read is as it would be written
  pub zone_as_written : (z : ℕ) (b : List ℕ) (es : List Entry) (l : List Piece) → ZoneFound g z b es → in_zone g z l ≡ map (piece_to_disc g z) (owned_of es)
      → written g.idlen (first_bit z) (end_bit g) (map (to_block g z) (in_zone g z l)) (cross_of b) b ≡ b
  zone_as_written z b es l x e =
      ap (λ (r : List Piece). written g.idlen (first_bit z) (end_bit g) r (cross_of b) b) (ap (map (to_block g z)) e ∙ block_back g ok z (first_bit z) (owned_of es) (omega arith) x.lie)
      ∙ as_written g.idlen (first_bit z) (end_bit g) b es x.block

  pub as_read : (l : List Piece) (z : ℕ) (bs : List (List ℕ)) (ess : List (List Entry)) → ZonesFound g z bs ess
      → ((i : ℕ) → i < length bs → in_zone g (z + i) l ≡ map (piece_to_disc g (z + i)) (owned_of (get_or ess i []))) → written_from g l z (map cross_of bs) bs ≡ bs
  as_read l z [] ess f h = refl
  as_read l z (b ∷ bs) [] f h = absurd f
  as_read l z (b ∷ bs) (es ∷ ess) f h =
      let e : z + 0 ≡ z = omega arith in
      let mine : in_zone g z l ≡ map (piece_to_disc g z) (owned_of es) = subst (λ (j : ℕ). in_zone g j l ≡ map (piece_to_disc g j) (owned_of es)) e (h 0 (omega arith)) in
      let next : (i : ℕ) → z + suc i ≡ suc z + i = λ i. omega arith in
      λ k. zone_as_written z b es l f.0 mine k
      ∷ as_read l (suc z) bs ess f.1 (λ i lt. subst (λ (j : ℕ). in_zone g j l ≡ map (piece_to_disc g j) (owned_of (get_or ess i []))) (next i) (h (suc i) (omega arith))) k
