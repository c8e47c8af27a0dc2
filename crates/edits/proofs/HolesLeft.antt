-- Pieces lie apart exactly when they come one after another and every hole has at least m bits: a gap of a zone is a hole of
-- it, or none.
use mathlib.Core.Path.{◌≡◌, refl, ap}
use mathlib.Core.Bool.{true}
use mathlib.Core.List.{List, [], ◌∷◌}
use mathlib.Core.Logic.{inl, inr}
use Prim.Native.Nat.{ℕ, zero, suc, ◌+◌, ◌-◌, ◌<◌, ◌≤◌}
use native.Mathlib.Omega.{arith}
use lib.Dec.{ltb}
use borrow.Author.Tests.{ltb-true, ltb-false, leb-true}
use Rattle.bits.proofs.Tests.{by_test, both, and_true}
use Rattle.geometry.specs.declared.Geometry.{Geometry}
use Rattle.geometry.specs.Places.{zone_from, zone_end}
use Rattle.model.specs.Chain.{Pair}
use Rattle.model.specs.Pieces.{Piece}
use Rattle.model.proofs.ChainDrawn.{Lies}
use Rattle.edits.specs.Edits.{in_zone}
use Rattle.edits.specs.Holes.{hole, holes, gap_fits, apart, all_apart}
use Rattle.edits.proofs.Kept.{All}
use Rattle.edits.specs.Room.{In}
use Rattle.edits.proofs.Gaps.{Gap, gap_of_test, test_of_gap, gap_le, is_long}

-- apart, so one after another
pub apart_lies : (m at end : ℕ) (l : List Piece) → 0 < m → All (is_long m) l → apart m at end l ≡ true → Lies at end l
apart_lies m at end [] k w a = gap_le m at end (gap_of_test m at end a)
apart_lies m at end (p ∷ ps) k w a =
    let b = both (gap_fits m at p.at.start) (apart m (p.at.start + p.at.len) end ps) a in (
      gap_le m at p.at.start (gap_of_test m at p.at.start b.0),
      omega (arith, leb-true m p.at.len w.0),
      apart_lies m (p.at.start + p.at.len) end ps k w.1 b.1,
    )

-- a hole and the gap that it fills
pub hole_long : (m at end : ℕ) (rest : List Pair) → Gap m at end → ((h : Pair) → In h rest → m ≤ h.len) → (h : Pair) → In h (hole at end rest) → m ≤ h.len
hole_long m at end rest c r h i =
    by_test (ltb at end)
    (λ t. go c (ltb-true at end t) (simp t at i))
    (λ t. r h (simp t at i))
  where
    go : Gap m at end → at < end → In h (record { start = at; len = end - at } ∷ rest) → m ≤ h.len
    go (inl e) k (inl j) = absurd (omega arith)
    go (inr c) k (inl j) = let e : h.len ≡ end - at = ap (λ (q : Pair). q.len) j in omega arith
    go c k (inr j) = r h j

pub hole_gap : (m at end : ℕ) (rest : List Pair) → at ≤ end → ((h : Pair) → In h (hole at end rest) → m ≤ h.len) → Gap m at end
hole_gap m at end rest k r =
    by_test (ltb at end)
    (λ t. let j : m ≤ end - at = r (record { start = at; len = end - at }) (simp t (inl refl)) in inr (omega (arith, ltb-true at end t)))
    (λ t. inl (omega (arith, ltb-false at end t)))

pub hole_rest : (at end : ℕ) (rest : List Pair) (h : Pair) → In h rest → In h (hole at end rest)
hole_rest at end rest h i = by_test (ltb at end) (λ t. simp t (inr i)) (λ t. simp t i)

-- apart, so with no short hole, and back
pub apart_holes : (m at end : ℕ) (l : List Piece) → apart m at end l ≡ true → (h : Pair) → In h (holes at end l) → m ≤ h.len
apart_holes m at end [] a = hole_long m at end [] (gap_of_test m at end a) (λ h i. absurd i)
apart_holes m at end (p ∷ ps) a =
    let b = both (gap_fits m at p.at.start) (apart m (p.at.start + p.at.len) end ps) a in
    hole_long m at p.at.start (holes (p.at.start + p.at.len) end ps) (gap_of_test m at p.at.start b.0) (apart_holes m (p.at.start + p.at.len) end ps b.1)

pub lies_apart : (m at end : ℕ) (l : List Piece) → Lies at end l → ((h : Pair) → In h (holes at end l) → m ≤ h.len) → apart m at end l ≡ true
lies_apart m at end [] w r = test_of_gap m at end (hole_gap m at end [] w r)
lies_apart m at end (p ∷ ps) w r =
    let rest = holes (p.at.start + p.at.len) end ps in
    and_true (gap_fits m at p.at.start) (apart m (p.at.start + p.at.len) end ps)
    (test_of_gap m at p.at.start (hole_gap m at p.at.start rest w.0 r))
    (lies_apart m (p.at.start + p.at.len) end ps w.2 (λ h i. r h (hole_rest at p.at.start rest h i)))

-- the test of all zones, from each of them
pub apart_all : (g : Geometry) (z n : ℕ) (l : List Piece) → ((i : ℕ) → z ≤ i → i < z + n → apart g.shortest (zone_from g i) (zone_end g i) (in_zone g i l) ≡ true) → all_apart g z n l ≡ true
apart_all g z zero l h = refl
apart_all g z (suc n) l h =
    and_true (apart g.shortest (zone_from g z) (zone_end g z) (in_zone g z l)) (all_apart g (suc z) n l)
    (h z (omega arith) (omega arith))
    (apart_all g (suc z) n l (λ i lo hi. h i (omega arith) (omega arith)))
