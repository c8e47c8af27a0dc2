-- Holes ascend, in a zone and from zone to zone; so no two start at the same bit, in whichever order they are taken.
use mathlib.Core.Path.{◌≡◌, sym, ap, ◌∙◌, subst}
use mathlib.Core.Bool.{Bool}
use mathlib.Core.List.{List, [], ◌∷◌, ◌++◌, append-nil}
use mathlib.Core.Logic.{inl, inr}
use Prim.Native.Nat.{ℕ, zero, suc, ◌+◌, ◌<◌, ◌≤◌}
use native.Mathlib.Omega.{arith}
use lib.Dec.{ltb}
use borrow.Author.Tests.{ltb-true, ltb-false}
use Rattle.bits.proofs.Tests.{by_test}
use Rattle.geometry.specs.declared.Geometry.{Geometry}
use Rattle.geometry.specs.Accepted.{AcceptedGeometry}
use Rattle.geometry.specs.Places.{zone_from, zone_end}
use Rattle.model.specs.Chain.{Pair}
use Rattle.model.specs.Pieces.{Piece}
use Rattle.model.proofs.ChainDrawn.{Lies}
use Rattle.split.specs.Taken.{put_by, sort_by, lower, by_start}
use Rattle.split.specs.Laws.{Ascends, FrontTaken}
use Rattle.split.proofs.Picked.{ascends_weaken}
use Rattle.edits.specs.Edits.{in_zone}
use Rattle.edits.specs.Holes.{hole, holes, holes_in, holes_from}
use Rattle.edits.specs.Room.{In, Earlier}
use Rattle.edits.proofs.Kept.{all_keep}
use Rattle.edits.proofs.HolesLeft.{apart_lies}
use Rattle.edits.proofs.Invariant.{FitPieces, some_bits}

pub ascends_in : (a : ℕ) (hs : List Pair) (h : Pair) → Ascends a hs → In h hs → a ≤ h.start
ascends_in a [] h s i = absurd i
ascends_in a (x ∷ xs) h s (inl e) = let k : h.start ≡ x.start = ap (λ (q : Pair). q.start) e in omega arith
ascends_in a (x ∷ xs) h s (inr i) = omega (arith, ascends_in (suc x.start) xs h s.1 i)

pub earlier_below : (a : ℕ) (hs : List Pair) → Ascends a hs → (q h : Pair) → Earlier q h hs → q.start < h.start
earlier_below a [] s q h k = absurd k
earlier_below a (x ∷ xs) s q h (inl k) = let e : q.start ≡ x.start = ap (λ (r : Pair). r.start) k.0 in omega (arith, ascends_in (suc x.start) xs h s.1 k.1)
earlier_below a (x ∷ xs) s q h (inr k) = earlier_below (suc x.start) xs s.1 q h k

-- holes
hole_ascends : (at end : ℕ) (qs rest : List Pair) → at ≤ end → Ascends end (qs ++ rest) → Ascends at (hole at end qs ++ rest)
hole_ascends at end qs rest k s =
    by_test (ltb at end)
    (λ t. simp t (omega arith, ascends_weaken end (suc at) (qs ++ rest) (ltb-true at end t) s))
    (λ t. simp t (ascends_weaken end at (qs ++ rest) k s))

holes_ascend : (at end : ℕ) (ps : List Piece) (rest : List Pair) → Lies at end ps → Ascends end rest → Ascends at (holes at end ps ++ rest)
holes_ascend at end [] rest y s = hole_ascends at end [] rest y s
holes_ascend at end (p ∷ ps) rest y s =
    let e = p.at.start + p.at.len in
    hole_ascends at p.at.start (holes e end ps) rest y.0 (ascends_weaken e p.at.start (holes e end ps ++ rest) (omega arith) (holes_ascend e end ps rest y.2 s))

pub hole_from : (at end : ℕ) (ps : List Piece) (h : Pair) → Lies at end ps → In h (holes at end ps) → at ≤ h.start
hole_from at end ps h y i = ascends_in at (holes at end ps) h (subst (Ascends at) (append-nil (holes at end ps)) (holes_ascend at end ps [] y tt)) i

module _ (g : Geometry) (l : List Piece) (ok : AcceptedGeometry g) (fit : FitPieces g l) where
  pub zone_lies : (z : ℕ) → z < g.zones → Lies (zone_from g z) (zone_end g z) (in_zone g z l)
  zone_lies z h = apart_lies g.shortest (zone_from g z) (zone_end g z) (in_zone g z l) (some_bits g ok) (all_keep _ _ l fit.long) (fit.parts z h)

  pub all_holes_ascend : (z n : ℕ) → z + n ≤ g.zones → Ascends (zone_from g z) (holes_from g z n l)
  all_holes_ascend z zero h = tt
  all_holes_ascend z (suc n) h =
      holes_ascend (zone_from g z) (zone_end g z) (in_zone g z l) (holes_from g (suc z) n l) (zone_lies z (omega arith)) (all_holes_ascend (suc z) n (omega arith))

  pub zone_ascends : (z : ℕ) → z < g.zones → Ascends (zone_from g z) (holes_in g l z)
  zone_ascends z h = subst (Ascends (zone_from g z)) (append-nil (holes_in g l z)) (all_holes_ascend z 1 (omega arith))

-- stretches none of which starts at bit s, and stretches no two of which start at the same bit
abbrev pub NotAt : ℕ → List Pair → Type 0
NotAt s [] = Unit {0}
NotAt s (q ∷ qs) = (q.start ≡ s → ⊥) × NotAt s qs

abbrev pub StartsApart : List Pair → Type 0
StartsApart [] = Unit {0}
StartsApart (q ∷ qs) = NotAt q.start qs × StartsApart qs

ascends_not : (s f : ℕ) (l : List Pair) → s < f → Ascends f l → NotAt s l
ascends_not s f [] k a = tt
ascends_not s f (x ∷ xs) k a = ((λ e. omega arith), ascends_not s (suc x.start) xs (omega arith) a.1)

pub ascends_apart : (f : ℕ) (l : List Pair) → Ascends f l → StartsApart l
ascends_apart f [] a = tt
ascends_apart f (x ∷ xs) a = (ascends_not x.start (suc x.start) xs (omega arith) a.1, ascends_apart (suc x.start) xs a.1)

-- sorted by whatever test
module _ (t : Pair → Pair → Bool) where
  not_put : (s : ℕ) (h : Pair) (l : List Pair) → (h.start ≡ s → ⊥) → NotAt s l → NotAt s (put_by t h l)
  not_put s h [] k n = (k, tt)
  not_put s h (x ∷ xs) k n = by_test (t h x) (λ e. simp e (k, n)) (λ e. simp e (n.0, not_put s h xs k n.1))

  pub not_sorted : (s : ℕ) (l : List Pair) → NotAt s l → NotAt s (sort_by t l)
  not_sorted s [] n = tt
  not_sorted s (x ∷ xs) n = not_put s x (sort_by t xs) n.0 (not_sorted s xs n.1)

  apart_put : (h : Pair) (l : List Pair) → NotAt h.start l → StartsApart l → StartsApart (put_by t h l)
  apart_put h [] n a = (n, a)
  apart_put h (x ∷ xs) n a =
      by_test (t h x)
      (λ e. simp e (n, a))
      (λ e. simp e (not_put x.start h xs (λ k. n.0 (sym k)) a.0, apart_put h xs n.1 a.1))

  pub apart_sorted : (l : List Pair) → StartsApart l → StartsApart (sort_by t l)
  apart_sorted [] a = tt
  apart_sorted (x ∷ xs) a = apart_put x (sort_by t xs) (not_sorted x.start xs a.0) (apart_sorted xs a.1)

-- what is taken from the front
module _ (h q : Pair) (e : q.start ≡ h.start) (behind : List Pair) where
  not_front : (s : ℕ) (whole : List Pair) → NotAt s (whole ++ (h ∷ behind)) → NotAt s (whole ++ (q ∷ []))
  not_front s [] n = ((λ k. n.0 (sym e ∙ k)), tt)
  not_front s (x ∷ xs) n = (n.0, not_front s xs n.1)

  apart_front : (whole : List Pair) → StartsApart (whole ++ (h ∷ behind)) → StartsApart (whole ++ (q ∷ []))
  apart_front [] a = (tt, tt)
  apart_front (x ∷ xs) a = (not_front x.start xs a.0, apart_front xs a.1)

pub apart_taken : {m n : ℕ} {hs qs : List Pair} → FrontTaken m n hs qs → StartsApart hs → StartsApart qs
apart_taken f a =
    subst StartsApart (sym f.taken_are)
    (apart_front f.hole f.last (ap (λ (q : Pair). q.start) f.last_is) f.behind f.whole (subst StartsApart f.holes_are a))

-- ascending again
ascends_insert : (f : ℕ) (q : Pair) (l : List Pair) → f ≤ q.start → NotAt q.start l → Ascends f l → Ascends f (put_by lower q l)
ascends_insert f q [] k n a = (k, tt)
ascends_insert f q (x ∷ xs) k n a =
    by_test (ltb q.start x.start)
    (λ t. simp t (k, (ltb-true q.start x.start t, a.1)))
    (λ t. simp t (a.0, ascends_insert (suc x.start) q xs (omega (arith, ltb-false q.start x.start t, n.0)) n.1 a.1))

pub by_start_ascends : (l : List Pair) → StartsApart l → Ascends 0 (by_start l)
by_start_ascends [] a = tt
by_start_ascends (x ∷ xs) a = ascends_insert 0 x (by_start xs) (omega arith) (not_sorted lower x.start xs a.0) (by_start_ascends xs a.1)
