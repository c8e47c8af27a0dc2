-- The rules on objects 1 and 2, as tests on the pieces of a zone by disc bits, and that they hold on when pieces of other
-- objects are taken out or put in. What is put in lies in a gap, and no gap reaches past the disc's end or starts the zone.
use mathlib.Core.Path.{◌≡◌, refl, ◌∙◌}
use mathlib.Core.Bool.{Bool, true, false, ◌&&◌, ◌||◌, false≢true}
use mathlib.Core.List.{List, [], ◌∷◌}
use mathlib.Core.Logic.{◌⊎◌, inl, inr}
use Prim.Native.Nat.{ℕ, ◌+◌, ◌/◌, ◌<◌, ◌≤◌}
use native.Mathlib.Omega.{arith}
use lib.Dec.{eqb, ltb, leb}
use borrow.Author.Tests.{eqb-true, eq-eqb, ne_eqb, ltb-true, leb-true, le-leb}
use Rattle.bits.proofs.Tests.{by_test, both, and_true, either, or_left, or_right}
use Rattle.geometry.specs.declared.Geometry.{Geometry}
use Rattle.geometry.specs.Places.{zone_from, zone_end}
use Rattle.model.specs.Pieces.{Piece, keep}
use Rattle.edits.specs.Edits.{not_of, insert, in_zone}
use Rattle.edits.specs.Holes.{gap_fits, apart}
use Rattle.edits.proofs.Gaps.{gap_of_test, test_of_gap, gap_le, gap_join, gap_over}

-- a gap has no bits or ends by bit d
abbrev pub gap_ends_by : ℕ → ℕ → ℕ → Bool
gap_ends_by d at end = eqb at end || leb end d

-- what ends past bit d is a piece of object 1: "Every disc bit from disc_size div B onward is owned by 1"
abbrev pub one_from_end : ℕ → ℕ → ℕ → List Piece → Bool
one_from_end d at end [] = gap_ends_by d at end
one_from_end d at end (p ∷ ps) = gap_ends_by d at p.at.start && (eqb p.owner 1 || leb (p.at.start + p.at.len) d) && one_from_end d (p.at.start + p.at.len) end ps

pub ends_join : (d a at end : ℕ) → (a ≡ at) ⊎ (at ≤ d) → gap_ends_by d at end ≡ true → gap_ends_by d a end ≡ true
ends_join d a at end c h = go c (either (eqb at end) (leb end d) h)
  where
    go : (a ≡ at) ⊎ (at ≤ d) → (eqb at end ≡ true) ⊎ (leb end d ≡ true) → gap_ends_by d a end ≡ true
    go (inl e) (inl k) = or_left (eqb a end) (leb end d) (eq-eqb a end (e ∙ eqb-true at end k))
    go (inr e) (inl k) = or_right (eqb a end) (leb end d) (le-leb end d (omega (arith, eqb-true at end k)))
    go (inl e) (inr k) = or_right (eqb a end) (leb end d) k
    go (inr e) (inr k) = or_right (eqb a end) (leb end d) k

pub one_keep : (d a at end : ℕ) (t : Piece → Bool) (l : List Piece) → ((p : Piece) → t p ≡ false → eqb p.owner 1 ≡ false) → (a ≡ at) ⊎ (at ≤ d)
    → one_from_end d at end l ≡ true → one_from_end d a end (keep t l) ≡ true
one_keep d a at end t [] f c h = ends_join d a at end c h
one_keep d a at end t (p ∷ ps) f c h =
    let b = both (gap_ends_by d at p.at.start && (eqb p.owner 1 || leb (p.at.start + p.at.len) d)) (one_from_end d (p.at.start + p.at.len) end ps) h in
    let e = both (gap_ends_by d at p.at.start) (eqb p.owner 1 || leb (p.at.start + p.at.len) d) b.0 in
    by_test (t p)
    (λ k. simp k
    (and_true (gap_ends_by d a p.at.start && (eqb p.owner 1 || leb (p.at.start + p.at.len) d)) _
    (and_true (gap_ends_by d a p.at.start) _ (ends_join d a at p.at.start c e.0) e.1)
    (one_keep d (p.at.start + p.at.len) (p.at.start + p.at.len) end t ps f (inl refl) b.1)))
    (λ k. simp k (one_keep d a (p.at.start + p.at.len) end t ps f (inr (leb-true (p.at.start + p.at.len) d (simp (f p k) at e.1))) b.1))

pub ends_before : (d at end : ℕ) → at < end → gap_ends_by d at end ≡ true → end ≤ d
ends_before d at end h u = go (either (eqb at end) (leb end d) u)
  where
    go : (eqb at end ≡ true) ⊎ (leb end d ≡ true) → end ≤ d
    go (inl k) = absurd (omega (arith, eqb-true at end k))
    go (inr k) = leb-true end d k

pub ends_by : (d at end : ℕ) → end ≤ d → gap_ends_by d at end ≡ true
ends_by d at end h = or_right (eqb at end) (leb end d) (le-leb end d h)

pub one_insert : (m d at end : ℕ) (q : Piece) (l : List Piece) → 0 < q.at.len → apart m at end (insert q l) ≡ true → one_from_end d at end l ≡ true → one_from_end d at end (insert q l) ≡ true
one_insert m d at end q [] z a h =
    let b = both (gap_fits m at q.at.start) (gap_fits m (q.at.start + q.at.len) end) a in
    let lo = gap_le m at q.at.start (gap_of_test m at q.at.start b.0) in
    let hi = gap_le m (q.at.start + q.at.len) end (gap_of_test m (q.at.start + q.at.len) end b.1) in
    let k = ends_before d at end (omega arith) h in
    and_true (gap_ends_by d at q.at.start && (eqb q.owner 1 || leb (q.at.start + q.at.len) d)) _
    (and_true (gap_ends_by d at q.at.start) _ (ends_by d at q.at.start (omega arith)) (or_right (eqb q.owner 1) _ (le-leb (q.at.start + q.at.len) d (omega arith))))
    (ends_by d (q.at.start + q.at.len) end k)
one_insert m d at end q (p ∷ ps) z a h =
    let b = both (gap_ends_by d at p.at.start && (eqb p.owner 1 || leb (p.at.start + p.at.len) d)) (one_from_end d (p.at.start + p.at.len) end ps) h in
    let e = both (gap_ends_by d at p.at.start) (eqb p.owner 1 || leb (p.at.start + p.at.len) d) b.0 in
    by_test (ltb q.at.start p.at.start)
    (λ t. let a2 : apart m at end (q ∷ p ∷ ps) ≡ true = simp t at a in
    let x = both (gap_fits m at q.at.start) (apart m (q.at.start + q.at.len) end (p ∷ ps)) a2 in
    let y = both (gap_fits m (q.at.start + q.at.len) p.at.start) (apart m (p.at.start + p.at.len) end ps) x.1 in
    let lo = gap_le m at q.at.start (gap_of_test m at q.at.start x.0) in
    let hi = gap_le m (q.at.start + q.at.len) p.at.start (gap_of_test m (q.at.start + q.at.len) p.at.start y.0) in
    let k = ends_before d at p.at.start (omega arith) e.0 in
    simp t
    (and_true (gap_ends_by d at q.at.start && (eqb q.owner 1 || leb (q.at.start + q.at.len) d)) _
    (and_true (gap_ends_by d at q.at.start) _ (ends_by d at q.at.start (omega arith)) (or_right (eqb q.owner 1) _ (le-leb (q.at.start + q.at.len) d (omega arith))))
    (and_true (gap_ends_by d (q.at.start + q.at.len) p.at.start && (eqb p.owner 1 || leb (p.at.start + p.at.len) d)) _
    (and_true (gap_ends_by d (q.at.start + q.at.len) p.at.start) _ (ends_by d (q.at.start + q.at.len) p.at.start k) e.1) b.1)))
    (λ t. let a2 : apart m at end (p ∷ insert q ps) ≡ true = simp t at a in
    let x = both (gap_fits m at p.at.start) (apart m (p.at.start + p.at.len) end (insert q ps)) a2 in
    simp t (and_true (gap_ends_by d at p.at.start && (eqb p.owner 1 || leb (p.at.start + p.at.len) d)) _ b.0 (one_insert m d (p.at.start + p.at.len) end q ps z x.1 b.1)))

-- the zone's first fragment is a piece of object 2
abbrev pub two_first : ℕ → List Piece → Bool
two_first at [] = false
two_first at (p ∷ ps) = eqb p.at.start at && eqb p.owner 2

pub two_keep : (at id : ℕ) (l : List Piece) → 2 < id → two_first at l ≡ true → two_first at (keep (not_of id) l) ≡ true
two_keep at id [] h k = k
two_keep at id (p ∷ ps) h k =
    let b = both (eqb p.at.start at) (eqb p.owner 2) k in
    simp (ne_eqb p.owner id (λ e. omega (arith, eqb-true p.owner 2 b.1))) k

pub two_insert : (m at end : ℕ) (q : Piece) (l : List Piece) → apart m at end (insert q l) ≡ true → two_first at l ≡ true → two_first at (insert q l) ≡ true
two_insert m at end q [] a k = absurd (false≢true k)
two_insert m at end q (p ∷ ps) a k =
    let b = both (eqb p.at.start at) (eqb p.owner 2) k in
    by_test (ltb q.at.start p.at.start)
    (λ t. let a2 : apart m at end (q ∷ p ∷ ps) ≡ true = simp t at a in
    let x = both (gap_fits m at q.at.start) (apart m (q.at.start + q.at.len) end (p ∷ ps)) a2 in
    absurd (omega (arith, gap_le m at q.at.start (gap_of_test m at q.at.start x.0), ltb-true q.at.start p.at.start t, eqb-true p.at.start at b.0)))
    (λ t. simp t k)

-- the rules on objects 1 and 2, of a map's pieces
pub record ObjectRules (g : Geometry) (l : List Piece) : Type 0 where
  pub one : (z : ℕ) → z < g.zones → one_from_end g.end.0 (zone_from g z) (zone_end g z) (in_zone g z l) ≡ true
  pub two : two_first (zone_from g (g.zones / 2)) (in_zone g (g.zones / 2) l) ≡ true

-- pieces that lie apart with one more lie apart without it
pub apart_without : (m at end : ℕ) (q : Piece) (l : List Piece) → m ≤ q.at.len → apart m at end (insert q l) ≡ true → apart m at end l ≡ true
apart_without m at end q [] z a =
    let b = both (gap_fits m at q.at.start) (gap_fits m (q.at.start + q.at.len) end) a in
    let lo = gap_le m at q.at.start (gap_of_test m at q.at.start b.0) in
    test_of_gap m at end (gap_join m at (q.at.start + q.at.len) end (gap_over m at q.at.start q.at.len lo z) (gap_of_test m (q.at.start + q.at.len) end b.1))
apart_without m at end q (p ∷ ps) z a =
    by_test (ltb q.at.start p.at.start)
    (λ t. let a2 : apart m at end (q ∷ p ∷ ps) ≡ true = simp t at a in
    let x = both (gap_fits m at q.at.start) (apart m (q.at.start + q.at.len) end (p ∷ ps)) a2 in
    let y = both (gap_fits m (q.at.start + q.at.len) p.at.start) (apart m (p.at.start + p.at.len) end ps) x.1 in
    let lo = gap_le m at q.at.start (gap_of_test m at q.at.start x.0) in
    and_true (gap_fits m at p.at.start) _
    (test_of_gap m at p.at.start (gap_join m at (q.at.start + q.at.len) p.at.start (gap_over m at q.at.start q.at.len lo z) (gap_of_test m (q.at.start + q.at.len) p.at.start y.0)))
    y.1)
    (λ t. let a2 : apart m at end (p ∷ insert q ps) ≡ true = simp t at a in
    let x = both (gap_fits m at p.at.start) (apart m (p.at.start + p.at.len) end (insert q ps)) a2 in
    and_true (gap_fits m at p.at.start) _ x.0 (apart_without m (p.at.start + p.at.len) end q ps z x.1))
