-- The first hole that is long enough. In a zone, one line at a time: the line's pair, if it is free and long enough, or else that of the lines
-- that remain. In the zones by their distance, one distance at a time: that of the zones at this distance, or else of those further away. If there
-- is none, the longest of all is the first that is taken.
use mathlib.Core.Path.{◌≡◌, refl, sym, ap, ap₂, ◌∙◌}
use mathlib.Core.Bool.{◌&&◌}
use mathlib.Core.List.{List, ◌∷◌}
use mathlib.Core.Option.{Option, none, some}
use mathlib.Core.Logic.{◌⊎◌, inl, inr}
use Prim.Native.Nat.{ℕ, suc, ◌+◌, ◌-◌, ◌<◌, ◌≤◌}
use native.Mathlib.Omega.{arith}
use lib.Dec.{eqb, ltb, leb}
use borrow.Author.Tests.{eq-eqb, ne_eqb, le-leb, lt-leb, lt-ltb, le-ltb}
use Rattle.bits.proofs.Tests.{by_test}
use Rattle.geometry.specs.declared.Geometry.{Geometry}
use Rattle.model.specs.Chain.{Pair, pair}
use Rattle.model.specs.Pieces.{Piece}
use Rattle.edits.specs.Near.{zone_if, zones_at, zones_from}
use Rattle.edits.specs.Holes.{holes_in, holes_of}
use Rattle.edits.specs.Judge.{first_hole, holes_near}
use Rattle.edits.specs.EditableMap.{EditableMap}
use Rattle.model.specs.Shown.{pieces_on}
use Rattle.walk.specs.declared.Line.{Line}
use Rattle.walk.specs.Remaining.{lines_from}
use Rattle.walk.specs.HeldBy.{held_lines}
use Rattle.walk.proofs.HeldLines.{held_line, held_zone}
use Rattle.split.specs.Taken.{total}
use Rattle.holes.specs.declared.AllHoles.{AllHoles}
use Rattle.holes.specs.Passes.{holes_on, Surveyed}
use Rattle.claim.specs.Hole.{span_of, hole_of}
use Rattle.claim.specs.Chosen.{largest_or, first_taken}
use Rattle.std.specs.Prelude.{Some, None}
use Rattle.std.specs.Prelude as std
use Rattle.chain.specs.declared.iter.Span.{Span}
use Rattle.edits.proofs.Found.{or_else, first_of, first_one}
use Rattle.claim.proofs.HolesFree.{holes_are_free}

-- from the answer to what it tells
pub no_hole : (o : Option Pair) → hole_of o ≡ None → o ≡ none
no_hole none e = refl
no_hole (some q) e = cc

pub hole_at : (o : Option Pair) (h : Span) → hole_of o ≡ Some h → o ≡ some (pair h.start.0 h.len)
hole_at none h e = cc
hole_at (some q) h e = let x : span_of q ≡ h = cc in ap (λ (s : Span). some (pair s.start.0 s.len)) x

-- at a line: it is free and long enough, or not
module _ (need : ℕ) {xs ys : List Line} {l : Line} (e : xs ≡ l ∷ ys) where
  pub hole_taken : l.holder ≡ 0 → need ≤ l.len → first_hole need (held_lines 0 xs) ≡ some (record { start = l.start.0; len = l.len })
  hole_taken h k = rw (held_line 0 e, eq-eqb l.holder 0 h, le-leb need l.len k)

  pub held_passed : (l.holder ≡ 0 → ⊥) → first_hole need (held_lines 0 xs) ≡ first_hole need (held_lines 0 ys)
  held_passed h = rw (held_line 0 e, ne_eqb l.holder 0 h)

  pub short_passed : l.len < need → first_hole need (held_lines 0 xs) ≡ first_hole need (held_lines 0 ys)
  short_passed k = rw (held_line 0 e) (by_test (eqb l.holder 0) (λ t. rw (t, lt-leb need l.len k)) (λ t. rw t))

-- a zone's lines
pub zone_starts : {m : List ℕ} {g : Geometry} {z : ℕ} {xs : List Line} (need : ℕ) → EditableMap m g → z < g.zones → xs ≡ lines_from g m z (z + 1 - z)
    → first_hole need (held_lines 0 xs) ≡ first_hole need (holes_in g (pieces_on g m) z)
zone_starts {m} {g} {z} need ed k e = ap (first_hole need) (held_zone 0 g m z e ∙ sym (holes_are_free ed z k))

-- of the zones at distance d, the one below first, where these are zones of the disc
module _ (g : Geometry) (l : List Piece) (need p d : ℕ) where
  abbrev pub below : Option Pair
  below = first_hole need (holes_of g l (zone_if (leb d p) (p - d)))

  abbrev above : Option Pair
  above = first_hole need (holes_of g l (zone_if (ltb 0 d && ltb (p + d) g.zones) (p + d)))

  beside : first_hole need (holes_of g l (zones_at g.zones p d)) ≡ or_else below above
  beside = first_of g l need (zone_if (leb d p) (p - d)) (zone_if (ltb 0 d && ltb (p + d) g.zones) (p + d))

  pub below_there : d ≤ p → below ≡ first_hole need (holes_in g l (p - d))
  below_there k = rw (le-leb d p k) (first_one g l need (p - d))

  pub not_below : p < d → below ≡ none
  not_below k = rw (lt-leb d p k)

  pub above_there : 0 < d → p + d < g.zones → above ≡ first_hole need (holes_in g l (p + d))
  above_there s k = rw (lt-ltb 0 d s, lt-ltb (p + d) g.zones k) (first_one g l need (p + d))

  pub not_above : (0 < d × g.zones ≤ p + d) ⊎ (d ≤ 0) → above ≡ none
  not_above (inl k) = rw (lt-ltb 0 d k.0, le-ltb (p + d) g.zones k.1)
  not_above (inr k) = rw (le-ltb 0 d k)

  pub beside_below : {h : Pair} → below ≡ some h → first_hole need (holes_of g l (zones_at g.zones p d)) ≡ some h
  beside_below e = beside ∙ ap (λ (o : Option Pair). or_else o above) e

  pub beside_above : below ≡ none → first_hole need (holes_of g l (zones_at g.zones p d)) ≡ above
  beside_above e = beside ∙ ap (λ (o : Option Pair). or_else o above) e

-- of the zones at distance d and further away
module _ (g : Geometry) (l : List Piece) (need p d : ℕ) (k : d < g.zones) (o : Option Pair) (e : first_hole need (holes_of g l (zones_at g.zones p d)) ≡ o) where
  pub distance_turn : first_hole need (holes_of g l (zones_from g.zones p d (g.zones - d))) ≡ or_else o (first_hole need (holes_of g l (zones_from g.zones p (d + 1) (g.zones - (d + 1)))))
  distance_turn =
      let n : g.zones - d ≡ suc (g.zones - (d + 1)) = omega arith in
      let f : suc d ≡ d + 1 = omega arith in
      ap (λ (x : ℕ). first_hole need (holes_of g l (zones_from g.zones p d x))) n
      ∙ first_of g l need (zones_at g.zones p d) (zones_from g.zones p (suc d) (g.zones - (d + 1)))
      ∙ ap₂ (λ (x : Option Pair) (i : ℕ). or_else x (first_hole need (holes_of g l (zones_from g.zones p i (g.zones - (d + 1)))))) e f

pub none_further : (g : Geometry) (l : List Piece) (need p d : ℕ) → g.zones ≤ d → first_hole need (holes_of g l (zones_from g.zones p d (g.zones - d))) ≡ none
none_further g l need p d k = let n : g.zones - d ≡ 0 = omega arith in ap (λ (x : ℕ). first_hole need (holes_of g l (zones_from g.zones p d x))) n

-- the first hole taken: that one, or the survey's where there is none
module _ (g : Geometry) (m : List ℕ) (need parent : ℕ) {hole : std.Option Span} (e : hole ≡ hole_of (first_hole need (holes_near g (pieces_on g m) parent))) where
  pub nearest_taken : (h : Span) → hole ≡ Some h → Some h ≡ hole_of (first_taken g m need parent)
  nearest_taken h k = sym (ap (λ (o : Option Pair). hole_of (largest_or need (holes_on g m) o)) (hole_at (first_hole need (holes_near g (pieces_on g m) parent)) h (sym e ∙ k)))

  module _ (k : hole ≡ None) {r : AllHoles} (s : Surveyed (holes_on g m) r) where
    none_near : hole_of (first_taken g m need parent) ≡ hole_of (largest_or need (holes_on g m) none)
    none_near = ap (λ (o : Option Pair). hole_of (largest_or need (holes_on g m) o)) (no_hole (first_hole need (holes_near g (pieces_on g m) parent)) (sym e ∙ k))

    pub too_few_taken : r.bits < need → None ≡ hole_of (first_taken g m need parent)
    too_few_taken j = sym (none_near ∙ rw (lt-leb need (total (holes_on g m)) (omega (arith, s.bits))))

    pub longest_taken : need ≤ r.bits → Some (record { start = r.start; len = r.len }) ≡ hole_of (first_taken g m need parent)
    longest_taken j =
        ap (λ (q : Pair). hole_of (some q)) s.longest ∙ sym (none_near ∙ rw (le-leb need (total (holes_on g m)) (omega (arith, s.bits))))
