-- A list in the object order of some object: it has pairs, and is in the order from its first pair's zone on. So the pass over the zones
-- needs no more than the list.
use mathlib.Core.Path.{◌≡◌, refl, ap, ◌∙◌, subst, subst⁻¹}
use mathlib.Core.Bool.{Bool, true, ◌&&◌}
use mathlib.Core.List.{List, [], ◌∷◌}
use Prim.Native.Nat.{ℕ, ◌+◌, ◌*◌, ◌%◌, ◌<◌, ◌≤◌}
use native.Mathlib.Omega.{arith}
use lib.Dec.{eqb, ltb, leb}
use lib.ListN.{length, get_or, drop}
use borrow.Author.Tests.{ltb-true, eqb-true}
use Rattle.bits.proofs.Tests.{both}
use Rattle.geometry.specs.declared.Geometry.{Geometry}
use Rattle.geometry.specs.Accepted.{AcceptedGeometry}
use Rattle.geometry.specs.Places.{zone_of, zone_from, disc_bits, start_zone}
use Rattle.model.specs.Chain.{Pair, pair}
use Rattle.model.specs.Pieces.{late}
use Rattle.edits.specs.Order.{rank}
use Rattle.edits.specs.Edits.{own}
use Rattle.edits.specs.Judge.{pairs_from, pair_fits, pairs_fit, list_fits}
use Rattle.edits.proofs.Invariant.{PairTested, pair_tested, some_bits, on_disc}
use Rattle.writer.specs.Parts.{order_place, fits_from, leading, Ordered, zone_part, IsPart, PassAt}
use Rattle.writer.proofs.ListCut.{Cut, cut_there}
use Rattle.writer.proofs.ZonePass.{pass_found, cut_rises}

-- the whole test by a start zone, as the code makes it
abbrev pub fits_all : Geometry → ℕ → List ℕ → Bool
fits_all g start list = ltb 0 (length list) && eqb (length list % 2) 0 && fits_from g start 0 (pairs_from list)

pairs_fit_law : (g : Geometry) (id from : ℕ) (qs : List Pair) → fits_from g (start_zone g id) from qs ≡ pairs_fit g id from qs
pairs_fit_law g id from [] = refl
pairs_fit_law g id from (q ∷ qs) =
    let r = rank (late g id) (disc_bits g) (own id q) in
    ap (λ (b : Bool). pair_fits g q && leb from r && b) (pairs_fit_law g id (r + q.len) qs)

pub list_fits_is : (g : Geometry) (id start : ℕ) (list : List ℕ) → start ≡ start_zone g id → fits_all g start list ≡ list_fits g id list
list_fits_is g id start list e =
    ap (λ (s : ℕ). fits_all g s list) e ∙ ap (λ (b : Bool). ltb 0 (length list) && eqb (length list % 2) 0 && b) (pairs_fit_law g id 0 (pairs_from list))

first_pair : (list : List ℕ) → 2 ≤ length list → pairs_from list ≡ pair (get_or list 0 0) (get_or list 1 0) ∷ pairs_from (drop 2 list)
first_pair [] h = absurd (omega arith)
first_pair (a ∷ []) h = absurd (omega arith)
first_pair (a ∷ b ∷ l) h = refl

module _ {g : Geometry} {list : List ℕ} (ok : AcceptedGeometry g) (o : Ordered g list) where
  sized : (ltb 0 (length list) && eqb (length list % 2) 0 ≡ true) × (pairs_fit g o.object 0 (pairs_from list) ≡ true)
  sized = both (ltb 0 (length list) && eqb (length list % 2) 0) (pairs_fit g o.object 0 (pairs_from list)) o.fits

  pub even : length list % 2 ≡ 0
  even = eqb-true (length list % 2) 0 (both (ltb 0 (length list)) (eqb (length list % 2) 0) sized.0).1

  pub some_pair : 2 ≤ length list
  some_pair = omega (arith, even, ltb-true 0 (length list) (both (ltb 0 (length list)) (eqb (length list % 2) 0) sized.0).0)

  abbrev first : Pair
  first = pair (get_or list 0 0) (get_or list 1 0)

  pairs_are : pairs_from list ≡ pair (get_or list 0 0) (get_or list 1 0) ∷ pairs_from (drop 2 list)
  pairs_are = first_pair list some_pair

  fits : fits_from g (start_zone g o.object) 0 (pair (get_or list 0 0) (get_or list 1 0) ∷ pairs_from (drop 2 list)) ≡ true
  fits = subst (λ (qs : List Pair). fits_from g (start_zone g o.object) 0 qs ≡ true) pairs_are (pairs_fit_law g o.object 0 (pairs_from list) ∙ sized.1)

  first_fits : PairTested g (pair (get_or list 0 0) (get_or list 1 0))
  first_fits = let at = order_place g (start_zone g o.object) first.start in pair_tested g first (both (pair_fits g first) (leb 0 at) (both (pair_fits g first && leb 0 at) _ fits).0).0

  pub first_on_disc : get_or list 0 0 < disc_bits g
  first_on_disc = omega (arith, first_fits.below, first_fits.size, some_bits g ok)

  pub first_zone_law : zone_of g (get_or list 0 0) < g.zones
  first_zone_law = on_disc g (get_or list 0 0) ok first_on_disc

  cut : let start = zone_of g (get_or list 0 0) in Cut g start (zone_from g start) (pairs_from list)
  cut = subst⁻¹ (λ (qs : List Pair). Cut g (zone_of g first.start) (zone_from g (zone_of g first.start)) qs) pairs_are (cut_there g ok (start_zone g o.object) first (pairs_from (drop 2 list)) fits)

  -- the pass begins
  pub pass_starts : {start low high : ℕ} → start ≡ zone_of g (get_or list 0 0) → low ≡ zone_from g start → high ≡ disc_bits g
      → (n : ℕ) → n ≡ 2 * length (leading low high (pairs_from list)) → PassAt g list start 0 (drop n list)
  pass_starts {start} es el eh n e =
      pass_found g ok list start even (subst⁻¹ (λ (s : ℕ). Cut g s (zone_from g s) (pairs_from list)) es cut) el eh n e

  -- the pairs of a zone ascend
  pub part_is : {z : ℕ} {part : List ℕ} → part ≡ zone_part g list z → IsPart g list z part
  part_is {z} e = record { is = e; rising = cut_rises g ok z cut }
