-- Pieces that lie apart in a zone, with no hole of 1 to m - 1 bits: a gap is none or at least m, two gaps join to one, and
-- so pieces may be left out; and such pieces ascend.
use mathlib.Core.Path.{◌≡◌, refl, ◌∙◌}
use mathlib.Core.Bool.{Bool, true}
use mathlib.Core.List.{List, [], ◌∷◌}
use mathlib.Core.Logic.{◌⊎◌, inl, inr}
use Prim.Native.Nat.{ℕ, zero, suc, ◌+◌, ◌<◌, ◌≤◌}
use native.Mathlib.Omega.{arith}
use lib.Dec.{eqb, leb}
use borrow.Author.Tests.{eqb-true, eqb-false, eq-eqb, leb-true, le-leb}
use Rattle.bits.proofs.Tests.{by_test, both, and_true}
use Rattle.geometry.specs.declared.Geometry.{Geometry}
use Rattle.geometry.specs.Places.{zone_from, zone_end}
use Rattle.model.specs.Pieces.{Piece, keep}
use Rattle.edits.specs.Order.{Ascending}
use Rattle.edits.specs.Edits.{in_zone}
use Rattle.edits.specs.Holes.{gap_fits, apart, all_apart}
use Rattle.edits.proofs.Kept.{All}
use Rattle.edits.proofs.PutIn.{asc_weaken}

-- no hole, or one that is long enough
abbrev pub Gap : ℕ → ℕ → ℕ → Type 0
Gap m a b = (a ≡ b) ⊎ (a + m ≤ b)

pub gap_of_test : (m a b : ℕ) → gap_fits m a b ≡ true → Gap m a b
gap_of_test m a b h =
    by_test (eqb a b)
    (λ t. inl (eqb-true a b t))
    (λ t. inr (leb-true (a + m) b (simp t at h)))

pub test_of_gap : (m a b : ℕ) → Gap m a b → gap_fits m a b ≡ true
test_of_gap m a b (inl e) = simp (eq-eqb a b e)
test_of_gap m a b (inr e) = by_test (eqb a b) (λ t. simp t) (λ t. simp (t, le-leb (a + m) b e))

pub gap_le : (m a b : ℕ) → Gap m a b → a ≤ b
gap_le m a b (inl e) = omega arith
gap_le m a b (inr e) = omega arith

pub gap_join : (m a b c : ℕ) → Gap m a b → Gap m b c → Gap m a c
gap_join m a b c (inl e) (inl k) = inl (e ∙ k)
gap_join m a b c (inl e) (inr k) = inr (omega arith)
gap_join m a b c (inr e) (inl k) = inr (omega arith)
gap_join m a b c (inr e) (inr k) = inr (omega arith)

-- a long piece removed leaves a hole that is long enough
pub gap_over : (m a b c : ℕ) → a ≤ b → m ≤ c → Gap m a (b + c)
gap_over m a b c h k = inr (omega arith)

-- the rest of a gap
pub gap_shift : (m at a b end : ℕ) → Gap m a b → at + b ≡ end → Gap m (at + a) end
gap_shift m at a b end (inl e) k = inl (omega arith)
gap_shift m at a b end (inr e) k = inr (omega arith)

-- a piece of at least m bits
abbrev pub is_long : ℕ → Piece → Bool
is_long m p = leb m p.at.len

-- pieces left out
pub apart_keep : (m a at end : ℕ) (t : Piece → Bool) (l : List Piece) → All (is_long m) l → Gap m a at → apart m at end l ≡ true → apart m a end (keep t l) ≡ true
apart_keep m a at end t [] w g h = test_of_gap m a end (gap_join m a at end g (gap_of_test m at end h))
apart_keep m a at end t (p ∷ ps) w g h =
    let b = both (gap_fits m at p.at.start) (apart m (p.at.start + p.at.len) end ps) h in
    let g2 = gap_join m a at p.at.start g (gap_of_test m at p.at.start b.0) in
    by_test (t p)
    (λ k. simp k (and_true (gap_fits m a p.at.start) _ (test_of_gap m a p.at.start g2) (apart_keep m (p.at.start + p.at.len) (p.at.start + p.at.len) end t ps w.1 (inl refl) b.1)))
    (λ k. simp k (apart_keep m a (p.at.start + p.at.len) end t ps w.1 (gap_over m a p.at.start p.at.len (gap_le m a p.at.start g2) (leb-true m p.at.len w.0)) b.1))

-- pieces that lie apart ascend
pub apart_asc : (m at end : ℕ) (l : List Piece) → 0 < m → All (is_long m) l → apart m at end l ≡ true → Ascending at l
apart_asc m at end [] z w h = tt
apart_asc m at end (p ∷ ps) z w h =
    let b = both (gap_fits m at p.at.start) (apart m (p.at.start + p.at.len) end ps) h in (
      gap_le m at p.at.start (gap_of_test m at p.at.start b.0),
      asc_weaken ps (omega (arith, leb-true m p.at.len w.0)) (apart_asc m (p.at.start + p.at.len) end ps z w.1 b.1),
    )

pub apart_le : (m at end : ℕ) (l : List Piece) → apart m at end l ≡ true → at ≤ end
apart_le m at end [] a = gap_le m at end (gap_of_test m at end a)
apart_le m at end (p ∷ ps) a =
    let b = both (gap_fits m at p.at.start) (apart m (p.at.start + p.at.len) end ps) a in
    omega (arith, gap_le m at p.at.start (gap_of_test m at p.at.start b.0), apart_le m (p.at.start + p.at.len) end ps b.1)

-- the test of all zones, at one of them
pub all_apart_at : (g : Geometry) (z n : ℕ) (l : List Piece) → all_apart g z n l ≡ true → (i : ℕ) → z ≤ i → i < z + n → apart g.shortest (zone_from g i) (zone_end g i) (in_zone g i l) ≡ true
all_apart_at g z zero l h i lo hi = absurd (omega arith)
all_apart_at g z (suc n) l h i lo hi =
    let b = both (apart g.shortest (zone_from g z) (zone_end g z) (in_zone g z l)) (all_apart g (suc z) n l) h in
    by_test (eqb i z)
    (λ t. rw (eqb-true i z t) b.0)
    (λ t. all_apart_at g (suc z) n l b.1 i (omega (arith, eqb-false i z t)) (omega arith))
