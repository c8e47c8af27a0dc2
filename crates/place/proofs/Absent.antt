-- Refusal 11: the fragments that the count finds are the object's pieces, in object order, so none is counted exactly where the
-- object has no piece.
use mathlib.Core.Path.{◌≡◌, refl, sym, ap, ◌∙◌}
use mathlib.Core.List.{List, [], ◌∷◌}
use Prim.Native.Nat.{ℕ, suc, ◌+◌, ◌-◌, ◌≤◌}
use native.Mathlib.Omega.{arith}
use lib.Dec.{eqb}
use lib.ListN.{length, length-append}
use borrow.Author.Tests.{ne_eqb}
use Rattle.geometry.specs.declared.Geometry.{Geometry}
use Rattle.geometry.specs.Places.{start_zone}
use Rattle.model.specs.Pieces.{Piece, pieces_of, object_pairs, pieces_of_zones}
use Rattle.map.specs.Accepted.{AcceptedMap}
use Rattle.walk.specs.HeldBy.{held_from}
use Rattle.walk.proofs.HeldZones.{held_all}
use Rattle.listing.proofs.ObjectOrder.{in_object_order}
use Rattle.edits.specs.Judge.{is_empty}
use Rattle.walk.proofs.ZonesTouching.{zones_are}
use Rattle.edits.proofs.PairsCounted.{pairs_count}
use Rattle.model.specs.Shown.{pieces_on}

empty_is : (l : List Piece) → is_empty l ≡ eqb (length l) 0
empty_is [] = refl
empty_is (p ∷ ps) = sym (ne_eqb (suc (length ps)) 0 (λ e. omega arith))

module _ {m : List ℕ} {g : Geometry} (a : AcceptedMap m g) (id : ℕ) (some : 1 ≤ id) (inside : start_zone g id ≤ g.zones) {n : ℕ} (count : n ≡ length (held_from g id m 0 g.zones)) where
  pieces_counted : length (pieces_of id (pieces_on g m)) ≡ n
  pieces_counted =
      let s = start_zone g id in
      let ps = pieces_of id (pieces_of_zones g 0 a.zones) in
      let lates = held_from g id m s (g.zones - s) in
      let early = held_from g id m 0 s in
      let held : length (held_from g id m 0 g.zones) ≡ length early + length lates = ap length (held_all g id m s g.zones inside) ∙ length-append early lates in
      let order : length (object_pairs g id (pieces_of_zones g 0 a.zones)) ≡ length lates + length early = ap length (in_object_order a id some inside) ∙ length-append lates early in
      let e : length ps ≡ length (pieces_of id (pieces_on g m)) = ap (λ x. length (pieces_of id (pieces_of_zones g 0 x))) (sym (zones_are a)) in
      omega (arith, count, held, order, pairs_count g id (pieces_of_zones g 0 a.zones), e)

  pub absent_is : is_empty (pieces_of id (pieces_on g m)) ≡ eqb n 0
  absent_is = empty_is (pieces_of id (pieces_on g m)) ∙ ap (λ (k : ℕ). eqb k 0) pieces_counted
