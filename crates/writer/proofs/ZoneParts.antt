-- The pairs of one zone stand together: where pairs ascend from a zone's first bit on, and pairs of earlier zones follow them,
-- the first ones that start within the zone are all that it has. So the pass over the zones finds a part for each.
use mathlib.Core.Path.{◌≡◌, refl, sym, ap, ◌∙◌, subst}
use mathlib.Core.Bool.{true, false}
use mathlib.Core.List.{List, [], ◌∷◌, ◌++◌, append_assoc}
use Prim.Native.Nat.{ℕ, suc, ◌+◌, ◌*◌, ◌<◌, ◌≤◌}
use native.Mathlib.Nat.{div-mul-le_self, div-lt_iff_lt-mul, mul-le-mul_right}
use native.Mathlib.Numerals.{add-one}
use native.Mathlib.Omega.{arith}
use lib.Dec.{ltb, leb}
use lib.ListN.{length, take, drop}
use borrow.Author.Tests.{eq-eqb, ne_eqb, ltb-true, ltb-false, le-leb, lt-leb}
use Rattle.bits.proofs.Tests.{by_test}
use Rattle.geometry.specs.declared.Geometry.{Geometry}
use Rattle.geometry.specs.Accepted.{AcceptedGeometry}
use Rattle.geometry.specs.Places.{zone_of, zone_from, zone_end}
use Rattle.model.specs.Chain.{Pair, numbers_of}
use Rattle.edits.specs.Judge.{pairs_from}
use Rattle.edits.proofs.Returned.{pairs_numbers}
use Rattle.edits.proofs.Invariant.{in_zone_law, some_zone}
use Rattle.writer.specs.Parts.{leading, Rising, Before, zone_pairs, zone_part, PairsLeft}
use Rattle.writer.proofs.PairLists.{first_numbers, numbers_after}

-- where a zone ends the next one starts
pub next_zone : (g : Geometry) (z : ℕ) → zone_from g (z + 1) ≡ zone_end g z
next_zone g z = rw add-one

pub rising_lower : (g : Geometry) (a b : ℕ) (qs : List Pair) → a ≤ b → Rising g b qs → Rising g a qs
rising_lower g a b [] h r = tt
rising_lower g a b (q ∷ qs) h r = (omega arith, r.1, r.2)

pub before_higher : (a b : ℕ) (qs : List Pair) → a ≤ b → Before a qs → Before b qs
before_higher a b [] k w = tt
before_higher a b (q ∷ qs) k w = (omega arith, before_higher a b qs k w.1)

-- a bit from a zone's end on is in a later zone
pub not_in_zone : (g : Geometry) (z d : ℕ) → AcceptedGeometry g → zone_end g z ≤ d → zone_of g d ≡ z → ⊥
not_in_zone g z d ok h e =
    let k : zone_of g d < suc z = omega arith in
    let l : d + 480 < suc z * g.bits = (div-lt_iff_lt-mul (some_zone g ok)).0 k in
    omega (arith, ok.bits_low)

pub zones_ordered : (g : Geometry) (y z : ℕ) → y ≤ z → zone_from g y ≤ zone_from g z
zones_ordered g y z h = omega (arith, mul-le-mul_right g.bits h)

module _ (g : Geometry) (ok : AcceptedGeometry g) (z : ℕ) where
  pub none_later : (at : ℕ) (qs : List Pair) → Rising g at qs → zone_end g z ≤ at → zone_pairs g z qs ≡ []
  none_later at [] r h = refl
  none_later at (q ∷ qs) r h =
      rw (ne_eqb (zone_of g q.start) z (not_in_zone g z q.start ok (omega arith))) (none_later (q.start + q.len) qs r.2 (omega arith))

  pub none_before : (qs : List Pair) → Before (zone_from g z) qs → zone_pairs g z qs ≡ []
  none_before [] b = refl
  none_before (q ∷ qs) b =
      rw (ne_eqb (zone_of g q.start) z (λ e. omega (arith, ap (λ (x : ℕ). x * g.bits) e, div-mul-le_self (q.start + 480) g.bits))) (none_before qs b.1)

  -- the part of a zone, and what is left
  pub record Split (left tail : List Pair) : Type 0 where
    pub later : List Pair
    pub whole : left ≡ leading (zone_from g z) (zone_end g z) (left ++ tail) ++ later
    pub rising : Rising g (zone_end g z) later
    pub part : zone_pairs g z left ≡ leading (zone_from g z) (zone_end g z) (left ++ tail)
    pub others : (y : ℕ) → z < y → zone_pairs g y left ≡ zone_pairs g y later

  none_lead : (tail : List Pair) → Before (zone_from g z) tail → leading (zone_from g z) (zone_end g z) tail ≡ []
  none_lead [] b = refl
  none_lead (q ∷ qs) b = rw (lt-leb (zone_from g z) q.start b.0)

  pub split : (at : ℕ) (left tail : List Pair) → Rising g at left → zone_from g z ≤ at → Before (zone_from g z) tail → Split left tail
  split at [] tail r h b =
      record { later = []; whole = sym (ap (λ (x : List Pair). x ++ []) (none_lead tail b)); rising = tt; part = sym (none_lead tail b); others = λ y k. refl }
  split at (q ∷ qs) tail r h b =
      by_test (ltb q.start (zone_end g z))
      (λ t. inside t (split (q.start + q.len) qs tail r.2 (omega arith) b))
      (λ t. outside t)
    where
      low : leb (zone_from g z) q.start ≡ true
      low = le-leb (zone_from g z) q.start (omega (arith, r.0))

      inside : ltb q.start (zone_end g z) ≡ true → Split qs tail → Split (q ∷ qs) tail
      inside t s =
          let here : zone_of g q.start ≡ z = in_zone_law g z q.start (omega (arith, r.0)) (ltb-true q.start (zone_end g z) t) in
          record {
            later = s.later;
            whole = simp (low, t) (ap (λ (x : List Pair). q ∷ x) s.whole);
            rising = s.rising;
            part = simp (low, t, eq-eqb (zone_of g q.start) z here) (ap (λ (x : List Pair). q ∷ x) s.part);
            others = λ y k. simp (ne_eqb (zone_of g q.start) y (λ e. omega (arith, here))) (s.others y k);
          }

      outside : ltb q.start (zone_end g z) ≡ false → Split (q ∷ qs) tail
      outside t =
          let up : Rising g (zone_end g z) (q ∷ qs) = (ltb-false q.start (zone_end g z) t, r.1, r.2) in
          record {
            later = q ∷ qs;
            whole = simp (low, t);
            rising = up;
            part = none_later (zone_end g z) (q ∷ qs) up (omega arith) ∙ simp (low, t);
            others = λ y k. refl;
          }

  -- the next part of what is left
  module _ (list rest : List ℕ) (to : ℕ) (p : PairsLeft g list z to rest) (h : z < to) (n : ℕ)
      (e : n ≡ 2 * length (leading (zone_from g z) (zone_end g z) (pairs_from rest))) where
    here : Split p.left p.tail
    here = split (zone_from g z) p.left p.tail p.rising (omega arith) p.before

    abbrev first : List Pair
    first = leading (zone_from g z) (zone_end g z) (p.left ++ p.tail)

    count : n ≡ 2 * length first
    count = e ∙ ap (λ (qs : List Pair). 2 * length (leading (zone_from g z) (zone_end g z) qs)) (ap pairs_from p.is ∙ pairs_numbers (p.left ++ p.tail))

    rest_is : rest ≡ numbers_of (first ++ (here.later ++ p.tail))
    rest_is = p.is ∙ ap numbers_of (ap (λ (x : List Pair). x ++ p.tail) here.whole ∙ append_assoc first here.later p.tail)

    pub part_found : take n rest ≡ zone_part g list z
    part_found = first_numbers first (here.later ++ p.tail) rest_is n count ∙ ap numbers_of (sym (p.same z (omega arith) h ∙ here.part))

    -- and the pairs after it
    pub pairs_after : PairsLeft g list (z + 1) to (drop n rest)
    pairs_after = record {
      left = here.later;
      tail = p.tail;
      is = numbers_after first (here.later ++ p.tail) rest_is n count;
      rising = subst (λ (x : ℕ). Rising g x here.later) (sym (next_zone g z)) here.rising;
      before = before_higher (zone_from g z) (zone_from g (z + 1)) p.tail (zones_ordered g z (z + 1) (omega arith)) p.before;
      same = λ y k l. p.same y (omega arith) l ∙ here.others y (omega arith);
    }
