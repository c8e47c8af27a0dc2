-- The ids from 3 whose start zone is z stand together: from z*P, or from 3 where that is higher, up to the next zone's. So the lowest unused one of
-- them is that of a window, and what this lacks is looked for from 3 on, one window after the other.
use mathlib.Core.Path.{◌≡◌, refl, sym, ap, ◌∙◌}
use mathlib.Core.Bool.{Bool, true, false}
use mathlib.Core.List.{List}
use mathlib.Core.Option.{Option, none, some}
use Prim.Native.Nat.{ℕ, ◌+◌, ◌-◌, ◌*◌, ◌/◌, ◌<◌, ◌≤◌, max, min}
use native.Mathlib.Nat.{div-mul-le_self, div-lt_iff_lt-mul, mul-le-mul_right, mul_comm}
use native.Mathlib.Omega.{arith}
use lib.Dec.{eqb, leb}
use lib.Arith.{digits_div}
use borrow.Author.Tests.{eq-eqb, ne_eqb, leb-true, leb-false}
use Rattle.bits.proofs.Tests.{by_test}
use Rattle.geometry.specs.declared.Geometry.{Geometry}
use Rattle.geometry.specs.Accepted.{AcceptedGeometry}
use Rattle.geometry.specs.Places.{start_zone}
use Rattle.model.specs.Pieces.{Piece}
use Rattle.model.specs.Shown.{pieces_on}
use Rattle.edits.specs.Judge.{lowest, lowest_id, unused, unused_of, or_any}
use Rattle.edits.specs.EditableMap.{EditableMap}
use Rattle.edits.proofs.EditableMap.{map_pieces}
use Rattle.edits.proofs.Fourteen.{no_fourteen}
use Rattle.std.specs.Prelude.{MatchOption, Some, None}
use Rattle.claim.specs.Unused.{found, Window, IdChosen}
use Rattle.edits.proofs.Found.{or_else, or_none, lowest_parts, lowest_same, none_passes}

-- from the answer to what it tells
pub none_found : {o : Option ℕ} → found o ≡ None → o ≡ none
none_found {o = none} e = refl
none_found {o = some x} e = cc

pub some_found : {o : Option ℕ} {id : ℕ} → found o ≡ Some id → o ≡ some id
some_found {o = none} e = cc
some_found {o = some x} e = cc

module _ (g : Geometry) (ok : AcceptedGeometry g) (z : ℕ) (inside : z < g.zones) where
  -- the window of a zone's ids
  abbrev begin : ℕ
  begin = max (z * g.ids) 3

  abbrev end : ℕ
  end = (z + 1) * g.ids

  end_inside : (z + 1) * g.ids ≤ g.ids * g.zones
  end_inside = let a : (z + 1) * g.ids ≤ g.zones * g.ids = mul-le-mul_right g.ids (omega arith) in omega (arith, a, mul_comm g.zones g.ids)

  pub zone_window : Window g (max (z * g.ids) 3) ((z + 1) * g.ids)
  zone_window = record { low = omega arith; in_order = omega (arith, ok.ids_low); high = end_inside; few = omega (arith, ok.ids_high) }

  -- which ids have this start zone
  starts_here : (id : ℕ) → max (z * g.ids) 3 ≤ id → id < (z + 1) * g.ids → eqb (start_zone g id) z ≡ true
  starts_here id lo hi =
      let r : id - z * g.ids < g.ids = omega arith in
      let e : id ≡ z * g.ids + (id - z * g.ids) = omega arith in
      rw (ne_eqb id 2 (λ k. omega arith)) (eq-eqb (id / g.ids) z (ap (λ (x : ℕ). x / g.ids) e ∙ digits_div z r))

  starts_elsewhere : (id : ℕ) → 3 ≤ id → (z * g.ids ≤ id → id < (z + 1) * g.ids → ⊥) → eqb (start_zone g id) z ≡ false
  starts_elsewhere id lo out =
      rw (ne_eqb id 2 (λ k. omega arith))
      (ne_eqb (id / g.ids) z (λ e. out (omega (arith, ap (λ (x : ℕ). x * g.ids) e, div-mul-le_self id g.ids)) ((div-lt_iff_lt-mul (omega (arith, ok.ids_low))).0 (omega (arith, e)))))

  pub zone_lowest : (l : List Piece) → lowest_id g (unused_of g l z) ≡ lowest (unused l) ((z + 1) * g.ids - max (z * g.ids) 3) (max (z * g.ids) 3)
  zone_lowest l =
      let t = unused_of g l z in
      let w = zone_window in
      let n : g.ids * g.zones - 3 ≡ begin - 3 + (end - begin + (g.ids * g.zones - end)) = omega (arith, w.in_order, w.high) in
      let s : 3 + (begin - 3) ≡ begin = omega arith in
      let e : begin + (end - begin) ≡ end = omega (arith, w.in_order) in
      let before : lowest t (begin - 3) 3 ≡ none = none_passes t (begin - 3) 3 (λ i lo hi. rw (starts_elsewhere i lo (λ a b. omega arith))) in
      let here : lowest t (end - begin) begin ≡ lowest (unused l) (end - begin) begin = lowest_same t (unused l) (end - begin) begin (λ i lo hi. rw (starts_here i lo (omega arith))) in
      let after : lowest t (g.ids * g.zones - end) end ≡ none = none_passes t (g.ids * g.zones - end) end (λ i lo hi. rw (starts_elsewhere i (omega (arith, ok.ids_low)) (λ a b. omega arith))) in
      ap (λ (x : ℕ). lowest t x 3) n
      ∙ lowest_parts t (begin - 3) (end - begin + (g.ids * g.zones - end)) 3
      ∙ ap (λ (o : Option ℕ). or_else o (lowest t (end - begin + (g.ids * g.zones - end)) (3 + (begin - 3)))) before
      ∙ ap (lowest t (end - begin + (g.ids * g.zones - end))) s
      ∙ lowest_parts t (end - begin) (g.ids * g.zones - end) begin
      ∙ ap (λ (i : ℕ). or_else (lowest t (end - begin) begin) (lowest t (g.ids * g.zones - end) i)) e
      ∙ ap (or_else (lowest t (end - begin) begin)) after
      ∙ or_none (lowest t (end - begin) begin)
      ∙ here

-- all ids, one window of w ids after the other
module _ (t : ℕ → Bool) {ids from to : ℕ} (w : ℕ) (e : to ≡ min ids (from + w)) (k : from < ids) where
  window_parts : lowest t (ids - from) from ≡ or_else (lowest t (to - from) from) (lowest t (ids - to) to)
  window_parts =
      let n : ids - from ≡ to - from + (ids - to) = omega arith in
      let s : from + (to - from) ≡ to = omega arith in
      ap (λ (x : ℕ). lowest t x from) n
      ∙ lowest_parts t (to - from) (ids - to) from
      ∙ ap (λ (i : ℕ). or_else (lowest t (to - from) from) (lowest t (ids - to) i)) s

  pub window_ends : {r : ℕ} → lowest t (to - from) from ≡ some r → lowest t (ids - from) from ≡ some r
  window_ends f = window_parts ∙ ap (λ (o : Option ℕ). or_else o (lowest t (ids - to) to)) f

  pub window_passes : lowest t (to - from) from ≡ none → lowest t (ids - (from + w)) (from + w) ≡ lowest t (ids - from) from
  window_passes f =
      sym (window_parts
      ∙ ap (λ (o : Option ℕ). or_else o (lowest t (ids - to) to)) f
      ∙ by_test (leb (from + w) ids)
      (λ u. let s : to ≡ from + w = omega (arith, leb-true (from + w) ids u) in ap (λ (i : ℕ). lowest t (ids - i) i) s)
      (λ u. let s : ids - to ≡ 0 = omega (arith, leb-false (from + w) ids u) in
      let n : ids - (from + w) ≡ 0 = omega (arith, leb-false (from + w) ids u) in
      ap (λ (i : ℕ). lowest t i to) s ∙ sym (ap (λ (i : ℕ). lowest t i (from + w)) n)))

-- the id for a zone: of its window, or else of all
module _ {m : List ℕ} {g : Geometry} (ed : EditableMap m g) (z : ℕ) (inside : z < g.zones) {from : ℕ} (e : from ≡ max (z * g.ids) 3) where
  abbrev l : List Piece
  l = pieces_on g m

  abbrev own : Option ℕ
  own = lowest (unused (pieces_on g m)) ((z + 1) * g.ids - from) from

  own_is : lowest_id g (unused_of g (pieces_on g m) z) ≡ own
  own_is = zone_lowest g ed.accepted.readable.numbers z inside l ∙ ap (λ (i : ℕ). lowest (unused l) ((z + 1) * g.ids - i) i) (sym e)

  pub own_chosen : {r : ℕ} → own ≡ some r → IdChosen g (pieces_on g m) z r
  own_chosen {r} k = go (lowest_id g (unused l)) refl
    where
      go : (o : Option ℕ) → lowest_id g (unused (pieces_on g m)) ≡ o → IdChosen g (pieces_on g m) z r
      go none a = absurd (no_fourteen g l ed.accepted.readable.numbers (map_pieces ed).fit a)
      go (some any) a = record { any = any; any_lowest = a; chosen = ap (or_any any) (own_is ∙ k) }

  pub any_chosen : own ≡ none → {o : Option ℕ} → lowest_id g (unused (pieces_on g m)) ≡ o → MatchOption (found o) (lowest_id g (unused (pieces_on g m)) ≡ none) (IdChosen g (pieces_on g m) z)
  any_chosen k {o = none} a = a
  any_chosen k {o = some r} a = record { any = r; any_lowest = a; chosen = ap (or_any r) (own_is ∙ k) }
