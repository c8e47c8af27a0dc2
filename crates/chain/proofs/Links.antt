-- Where a chain leads: over fragments that are owned, none of which has the number of free space, to the next free fragment, or over all
-- that are left of the zone.
use mathlib.Core.Path.{◌≡◌, refl, ap, ◌∙◌}
use mathlib.Core.Bool.{Bool, true, false}
use mathlib.Core.List.{List, [], ◌∷◌}
use Prim.Native.Nat.{ℕ, zero, suc, ◌+◌, ◌<◌, ◌≤◌}
use native.Mathlib.Omega.{arith}
use lib.Dec.{eqb, ltb}
use lib.ListN.{length}
use lib.Seq.{slice_empty}
use borrow.Author.Tests.{eq-eqb, eqb-true, ltb-true, ltb-false}
use Rattle.bits.proofs.Tests.{by_test, both}
use Rattle.geometry.specs.declared.Geometry.{Geometry}
use Rattle.geometry.specs.Places.{end_bit}
use Rattle.model.specs.Chain.{pair, Holder, free, owned, entry, onward}
use Rattle.model.specs.Check.{every, id_fits, holder_fits}
use Rattle.fragment.specs.Found.{next_after}
use Rattle.fragment.specs.Reading.{id_at, length_at, holder_at}
use Rattle.fragment.proofs.Step.{fragment_of}
use Rattle.fragment.proofs.Opened.{Opened, opened, read_on, none_read}
use Rattle.walk.specs.HeldBy.{held_by}
use Rattle.walk.proofs.OwnersSome.{owner_some}
use Rattle.chain.specs.FreeAhead.{entries_at, ReadsAt}

-- what a chain leads to from `at` on: to the free fragment at `next`, or nowhere
pub record Leads (g : Geometry) (B : List Bool) (at next : ℕ) : Type 0 where
  pub nowhere : next ≡ 0 → held_by 0 (entries_at g B at next) ≡ []
  pub low : (next ≡ 0 → ⊥) → at ≤ next
  pub inside : (next ≡ 0 → ⊥) → next < end_bit g
  pub reads : (next ≡ 0 → ⊥) → ReadsAt g B next next
  pub same : (next ≡ 0 → ⊥) → held_by 0 (entries_at g B at next) ≡ held_by 0 (entries_at g B next next)

module _ {g : Geometry} {B : List Bool} (pos : 0 < g.idlen) (he : end_bit g ≤ length B) where
  -- past one fragment, by whom it is held and where the chain leads then
  module _ {at next : ℕ} (h : at < end_bit g) (r : ReadsAt g B at next) where
    abbrev id : ℕ
    id = id_at g.idlen at B

    abbrev len : ℕ
    len = length_at g.idlen at (end_bit g) B

    fragment : Opened g.idlen at (end_bit g) next B id len
    fragment = opened g.idlen at (end_bit g) next B pos he h r.readable id len refl refl

    past : (holder : Holder) (then : ℕ) → holder_at at next id ≡ holder → next_after at next id ≡ then
        → (entries_at g B at next ≡ entry at (fragment_of id len) holder ∷ entries_at g B (at + len) then) × (holder_fits g holder ≡ true) × ReadsAt g B (at + len) then
    past holder then eh en =
        let p = read_on fragment in
        let e : entries_at g B at next ≡ entry at (fragment_of id len) holder ∷ entries_at g B (at + len) then = rw (p.1, eh, en) in
        let o = both (holder_fits g holder) (every (id_fits g) (entries_at g B (at + len) then)) (rw e at r.owners) in
        (e, o.0, record { readable = rw en at p.0; owners = o.1 })

    over_owned : eqb at next ≡ false → (held_by 0 (entries_at g B at next) ≡ held_by 0 (entries_at g B (at + len) next)) × ReadsAt g B (at + len) next
    over_owned t =
        let p = past (owned id) next (rw t refl) (rw t refl) in
        (rw (p.0, owner_some g id p.1), p.2)

  -- the free fragment to which the chain has led, and where its own id leads
  pub over_free : {at : ℕ} (h : at < end_bit g) (r : ReadsAt g B at at)
      → let id = id_at g.idlen at B in
      let len = length_at g.idlen at (end_bit g) B in
      (held_by 0 (entries_at g B at at) ≡ pair at len ∷ held_by 0 (entries_at g B (at + len) (onward at id))) × ReadsAt g B (at + len) (onward at id)
  over_free {at} h r =
      let t = eq-eqb at at refl in
      let p = past h r free (onward at (id_at g.idlen at B)) (rw t refl) (rw t refl) in
      (ap (held_by 0) p.0, p.2)

  -- at the zone's end every link has landed
  all_landed : (next : ℕ) → ReadsAt g B (end_bit g) next → next ≡ 0
  all_landed next r =
      by_test (eqb next 0)
      (λ t. eqb-true next 0 t)
      (λ t. absurd (rw (slice_empty (end_bit g) B, t) at r.readable))

  leads_at_end : (at next : ℕ) → at ≡ end_bit g → ReadsAt g B at next → Leads g B at next
  leads_at_end at next e r =
      let z = all_landed next (rw e at r) in
      record {
        nowhere = λ k. rw (e, none_read g.idlen (end_bit g) next B);
        low = λ k. absurd (k z);
        inside = λ k. absurd (k z);
        reads = λ k. absurd (k z);
        same = λ k. absurd (k z);
      }

  pub leads : (n at next : ℕ) → end_bit g ≤ at + n → 0 < at → at ≤ end_bit g → ReadsAt g B at next → Leads g B at next
  leads zero at next e p l r = leads_at_end at next (omega arith) r
  leads (suc n) at next e p l r =
      by_test (ltb at (end_bit g))
      (λ t. let h = ltb-true at (end_bit g) t in
      by_test (eqb at next)
      (λ u. let k = eqb-true at next u in
      record {
        nowhere = λ z. absurd (omega arith);
        low = λ z. omega arith;
        inside = λ z. omega arith;
        reads = λ z. rw k at r;
        same = λ z. rw k;
      })
      (λ u. let o = over_owned h r u in
      let f = fragment h r in
      let q = leads n (at + length_at g.idlen at (end_bit g) B) next (omega (arith, f.long)) (omega arith) f.within o.1 in
      record {
        nowhere = λ z. o.0 ∙ q.nowhere z;
        low = λ z. omega (arith, q.low z);
        inside = q.inside;
        reads = q.reads;
        same = λ z. o.0 ∙ q.same z;
      }))
      (λ t. leads_at_end at next (omega (arith, ltb-false at (end_bit g) t)) r)
