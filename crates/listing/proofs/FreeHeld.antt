-- The free spans are what holder 0 has: on an accepted map every owner is 1 or more, so no owned fragment counts as free.
use mathlib.Core.Path.{◌≡◌, refl, sym, ap, ap₂, ◌∙◌}
use mathlib.Core.Bool.{true, cond}
use mathlib.Core.List.{List, [], ◌∷◌, ◌++◌, map}
use Prim.Native.Nat.{ℕ, suc, ◌+◌, ◌-◌, ◌*◌, ◌≤◌}
use native.Mathlib.Nat.{sub-zero}
use native.Mathlib.Omega.{arith}
use lib.Dec.{eqb, leb, ltb}
use borrow.Author.Tests.{leb-true, ne_eqb}
use Rattle.bits.proofs.Tests.{both}
use Rattle.geometry.specs.declared.Geometry.{Geometry}
use Rattle.model.specs.Chain.{Pair, Holder, free, owned, Entry}
use Rattle.model.specs.Rules.{zone_block}
use Rattle.model.specs.Answer.{answered}
use Rattle.model.specs.Check.{every, holder_fits, id_fits, zone_read}
use Rattle.model.specs.Pieces.{to_disc, free_if, free_of, free_spans}
use Rattle.zone.specs.Lines.{holder_number}
use Rattle.zone.proofs.EntriesRead.{is_read}
use Rattle.map.specs.Accepted.{AcceptedMap}
use Rattle.walk.proofs.OwnersSome.{ids_fit}
use Rattle.walk.specs.HeldBy.{held_by, in_disc_bits, held_in, held_from}
use Rattle.map.proofs.Accepts.{ReadInTurn, zones_in_turn}
use Rattle.walk.proofs.HeldZones.{held_turn, held_end}

free_step : (g : Geometry) (h : Holder) (q : Pair) (ps qs : List Pair) → holder_fits g h ≡ true → ps ≡ qs → cond (eqb (holder_number h) 0) (q ∷ ps) ps ≡ free_if h q qs
free_step g free q ps qs f e = ap (λ (r : List Pair). q ∷ r) e
free_step g (owned id) q ps qs f e =
    let l : 1 ≤ id = leb-true 1 id (both (leb 1 id) (ltb id (g.ids * g.zones)) f).0 in
    rw (ne_eqb id 0 (λ k. omega arith)) e

pub free_held : (g : Geometry) (es : List Entry) → every (id_fits g) es ≡ true → held_by 0 es ≡ free_of es
free_held g [] f = refl
free_held g (e ∷ es) f =
    let b = both (id_fits g e) (every (id_fits g) es) f in
    free_step g e.holder e.at (held_by 0 es) (free_of es) b.0 (free_held g es b.1)

module _ (m : List ℕ) (g : Geometry) where
  pub free_in : (z : ℕ) (es : List Entry) → zone_read g z (zone_block g m z) ≡ answered es → held_in g 0 m z ≡ map (to_disc g z) (free_of es)
  free_in z es r = ap (in_disc_bits g z) (ap (held_by 0) (is_read g z (zone_block g m z) es r).0 ∙ free_held g es (ids_fit g z (zone_block g m z) es r))

  free_from : (z : ℕ) (ess : List (List Entry)) → ReadInTurn m g z ess → free_spans g z ess ≡ held_from g 0 m z (g.zones - z)
  free_from z [] r = sym (held_end g 0 m z g.zones (omega arith))
  free_from z (es ∷ ess) r =
      let s : suc z ≡ z + 1 = omega arith in
      ap₂ (λ (x y : List Pair). x ++ y) (sym (free_in z es r.1)) (free_from (suc z) ess r.2 ∙ ap (λ (i : ℕ). held_from g 0 m i (g.zones - i)) s)
      ∙ sym (held_turn g 0 m z g.zones r.0)

pub free_spans_law : {m : List ℕ} {g : Geometry} (a : AcceptedMap m g) → free_spans g 0 a.zones ≡ held_from g 0 m 0 g.zones
free_spans_law {m} {g} a = free_from m g 0 a.zones (zones_in_turn a) ∙ ap (held_from g 0 m 0) (sub-zero g.zones)
