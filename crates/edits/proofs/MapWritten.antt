-- The blocks of a map written from its pieces and cross checks: zone by zone each is a writing over the old block, so what
-- holds of a block written holds of all, and writing over a writing leaves the second.
use mathlib.Core.Path.{◌≡◌, refl, ap, ap₂, ◌∙◌, subst}
use mathlib.Core.Bool.{true, false}
use mathlib.Core.List.{List, [], ◌∷◌, ◌++◌, map}
use mathlib.Core.Option.{none}
use Prim.Native.Nat.{ℕ, zero, suc, ◌+◌, ◌<◌, ◌≤◌}
use native.Mathlib.Omega.{arith}
use lib.Dec.{eqb, ltb}
use lib.ListN.{length, get_or}
use borrow.Author.Tests.{eq-eqb}
use Rattle.bits.proofs.Tests.{by_test}
use Rattle.checks.specs.Cross.{cross_of}
use Rattle.geometry.specs.declared.Geometry.{Geometry}
use Rattle.geometry.specs.Accepted.{AcceptedGeometry}
use Rattle.geometry.specs.Places.{first_bit, end_bit}
use Rattle.model.specs.Chain.{Entry, none_touch, touching}
use Rattle.model.specs.Pieces.{Piece, piece_to_disc, pieces_of_zones}
use Rattle.model.specs.Drawing.{drawn_entries}
use Rattle.model.specs.Answer.{answered}
use Rattle.model.specs.Check.{join_zone, zones_read, differing}
use Rattle.model.proofs.ZoneDrawn.{owned_drawn}
use Rattle.edits.specs.Edits.{in_zone}
use Rattle.edits.proofs.Kept.{all_kept}
use Rattle.edits.proofs.Invariant.{FitPieces}
use Rattle.edits.specs.Written.{written, to_block, written_from}
use Rattle.edits.proofs.BlockWritten.{check_written, length_written, written_twice}
use Rattle.edits.proofs.Slices.{Sized}
use Rattle.edits.proofs.ZonePlaces.{zone_of_piece, there_and_back, zone_bits}
use Rattle.edits.proofs.Gathered.{gather, gathered}
use Rattle.edits.proofs.ZoneDrawable.{zone_drawable}
use Rattle.edits.proofs.PiecesKept.{AcceptedPieces}
use Rattle.edits.proofs.ZoneWritten.{zone_written}

-- a drawing has no two free fragments that touch
pub drawn_none_touch : (at end : ℕ) (ps : List Piece) → none_touch false (drawn_entries at end ps) ≡ true
drawn_none_touch at end [] = by_test (ltb at end) (λ t. simp t) (λ t. simp t)
drawn_none_touch at end (p ∷ ps) =
    by_test (ltb at p.at.start)
    (λ t. simp (t, drawn_none_touch (p.at.start + p.at.len) end ps))
    (λ t. simp (t, drawn_none_touch (p.at.start + p.at.len) end ps))

-- the entries of n zones from z on, drawn
abbrev pub drawn_zones : Geometry → ℕ → ℕ → List Piece → List (List Entry)
drawn_zones g z zero l = []
drawn_zones g z (suc n) l = drawn_entries (first_bit z) (end_bit g) (map (to_block g z) (in_zone g z l)) ∷ drawn_zones g (suc z) n l

pub none_touching : (g : Geometry) (z n : ℕ) (l : List Piece) (i : ℕ) → touching i (drawn_zones g z n l) ≡ none
none_touching g z zero l i = refl
none_touching g z (suc n) l i = simp (drawn_none_touch, none_touching g (suc z) n l (suc i))

pub pieces_drawn : (g : Geometry) (z n : ℕ) (l : List Piece) → pieces_of_zones g z (drawn_zones g z n l) ≡ gather g z n l
pieces_drawn g z zero l = refl
pieces_drawn g z (suc n) l =
    ap₂ {C = List Piece} (λ (a b : List Piece). a ++ b)
    (ap (map (piece_to_disc g z)) (owned_drawn (first_bit z) (end_bit g) (map (to_block g z) (in_zone g z l))) ∙ there_and_back g z (in_zone g z l) (all_kept (λ p. eqb (zone_of_piece g p) z) l))
    (pieces_drawn g (suc z) n l)

pub all_pieces_drawn : (g : Geometry) (l : List Piece) → AcceptedGeometry g → FitPieces g l → pieces_of_zones g 0 (drawn_zones g 0 g.zones l) ≡ l
all_pieces_drawn g l ok fit = pieces_drawn g 0 g.zones l ∙ gathered g 0 l ok fit.weak fit.zoned

-- zone by zone: sizes, cross checks, zone checks
pub sized_written : (g : Geometry) (l : List Piece) (z : ℕ) (cs : List ℕ) (bs : List (List ℕ)) → AcceptedGeometry g → Sized g.sector bs → Sized g.sector (written_from g l z cs bs)
sized_written g l z cs [] ok y = tt
sized_written g l z [] (b ∷ bs) ok y = y
sized_written g l z (c ∷ cs) (b ∷ bs) ok y = (
  length_written g.idlen (first_bit z) (end_bit g) (map (to_block g z) (in_zone g z l)) c b (omega (arith, ok.sector_low)) ∙ y.0,
  sized_written g l (suc z) cs bs ok y.1,
)

pub count_written : (g : Geometry) (l : List Piece) (z : ℕ) (cs : List ℕ) (bs : List (List ℕ)) → length (written_from g l z cs bs) ≡ length bs
count_written g l z cs [] = refl
count_written g l z [] (b ∷ bs) = refl
count_written g l z (c ∷ cs) (b ∷ bs) = ap suc (count_written g l (suc z) cs bs)

pub cross_written : (g : Geometry) (l : List Piece) (z : ℕ) (cs : List ℕ) (bs : List (List ℕ)) → length cs ≡ length bs → map cross_of (written_from g l z cs bs) ≡ cs
cross_written g l z [] [] e = refl
cross_written g l z [] (b ∷ bs) e = absurd (omega arith)
cross_written g l z (c ∷ cs) [] e = absurd (omega arith)
cross_written g l z (c ∷ cs) (b ∷ bs) e = ap (λ (r : List ℕ). c ∷ r) (cross_written g l (suc z) cs bs (omega arith))

pub checks_written : (g : Geometry) (l : List Piece) (z i : ℕ) (cs : List ℕ) (bs : List (List ℕ)) → length cs ≡ length bs → differing i (written_from g l z cs bs) ≡ none
checks_written g l z i cs [] e = refl
checks_written g l z i [] (b ∷ bs) e = absurd (omega arith)
checks_written g l z i (c ∷ cs) (b ∷ bs) e =
    simp (eq-eqb _ _ (check_written g.idlen (first_bit z) (end_bit g) (map (to_block g z) (in_zone g z l)) c b), checks_written g l (suc z) (suc i) cs bs (omega arith))

-- a block of a map written, by its place
pub written_at : (g : Geometry) (l : List Piece) (z : ℕ) (cs : List ℕ) (bs : List (List ℕ)) (i : ℕ) → length cs ≡ length bs → i < length bs
    → get_or (written_from g l z cs bs) i [] ≡ written g.idlen (first_bit (z + i)) (end_bit g) (map (to_block g (z + i)) (in_zone g (z + i) l)) (get_or cs i 0) (get_or bs i [])
written_at g l z cs [] i e h = absurd (omega arith)
written_at g l z [] (b ∷ bs) i e h = absurd (omega arith)
written_at g l z (c ∷ cs) (b ∷ bs) zero e h =
    let k : z ≡ z + 0 = omega arith in
    ap (λ (j : ℕ). written g.idlen (first_bit j) (end_bit g) (map (to_block g j) (in_zone g j l)) c b) k
written_at g l z (c ∷ cs) (b ∷ bs) (suc i) e h =
    let k : suc z + i ≡ z + suc i = omega arith in
    subst (λ (j : ℕ). get_or (written_from g l (suc z) cs bs) i [] ≡ written g.idlen (first_bit j) (end_bit g) (map (to_block g j) (in_zone g j l)) (get_or cs i 0) (get_or bs i [])) k
    (written_at g l (suc z) cs bs i (omega arith) (omega arith))

module _ (g : Geometry) (ok : AcceptedGeometry g) where
  -- what was written may be written over
  pub written_over : (l r : List Piece) (z : ℕ) (cs ds : List ℕ) (bs : List (List ℕ)) → FitPieces g l → Sized g.sector bs → length cs ≡ length bs → length ds ≡ length bs → z + length bs ≤ g.zones
      → written_from g r z ds (written_from g l z cs bs) ≡ written_from g r z ds bs
  written_over l r z cs ds [] k y e f h = refl
  written_over l r z [] ds (b ∷ bs) k y e f h = absurd (omega arith)
  written_over l r z (c ∷ cs) [] (b ∷ bs) k y e f h = absurd (omega arith)
  written_over l r z (c ∷ cs) (d ∷ ds) (b ∷ bs) k y e f h =
      let w = zone_drawable g l z ok k (omega arith) in
      λ i. written_twice g.idlen (first_bit z) (end_bit g) b (zone_bits g ok z b y.0) (map (to_block g z) (in_zone g z l)) w c (map (to_block g z) (in_zone g z r)) d i
      ∷ written_over l r (suc z) cs ds bs k y.1 (omega arith) (omega arith) (omega arith) i

  -- what was written is read as drawn
  pub zones_written : (l : List Piece) (z : ℕ) (cs : List ℕ) (bs : List (List ℕ)) → AcceptedPieces g l → Sized g.sector bs → length cs ≡ length bs → z + length bs ≤ g.zones
      → zones_read g z (written_from g l z cs bs) ≡ answered (drawn_zones g z (length bs) l)
  zones_written l z cs [] k y e h = refl
  zones_written l z [] (b ∷ bs) k y e h = absurd (omega arith)
  zones_written l z (c ∷ cs) (b ∷ bs) k y e h =
      ap₂ join_zone (zone_written g ok l k z (omega arith) c b y.0) (zones_written l (suc z) cs bs k y.1 (omega arith) (omega arith))
