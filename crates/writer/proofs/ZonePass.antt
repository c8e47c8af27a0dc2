-- The pass over the zones finds each zone's part of a list that fits: it starts behind the pairs from the start zone on, and
-- goes back to them at the start zone.
use mathlib.Core.Path.{◌≡◌, refl, sym, ap, ◌∙◌, subst⁻¹}
use mathlib.Core.Bool.{Bool}
use mathlib.Core.Logic.{◌⊎◌, inl, inr}
use mathlib.Core.List.{List, [], ◌∷◌, ◌++◌, map, append-nil}
use Prim.Native.Nat.{ℕ, suc, ◌+◌, ◌-◌, ◌*◌, ◌%◌, ◌<◌, ◌≤◌}
use native.Mathlib.Nat.{div-mul-le_self}
use native.Mathlib.Omega.{arith}
use lib.Dec.{eqb, ltb}
use lib.ListN.{length, take, drop}
use borrow.Author.Tests.{eqb-true, ltb-true, ltb-false}
use Rattle.std.specs.List.{range_with_len}
use Rattle.bits.proofs.Tests.{by_test}
use Rattle.geometry.specs.declared.Geometry.{Geometry}
use Rattle.geometry.specs.Accepted.{AcceptedGeometry}
use Rattle.geometry.specs.Places.{zone_of, zone_from, zone_end, disc_bits}
use Rattle.model.specs.Chain.{Pair, numbers_of}
use Rattle.model.specs.Pieces.{keep}
use Rattle.edits.proofs.Kept.{All, all_kept}
use Rattle.edits.specs.Judge.{pairs_from}
use Rattle.writer.specs.Parts.{leading, Rising, zone_pairs, zone_part, zone_parts, PairsLeft, PassAt}
use Rattle.writer.proofs.PairLists.{numbers_pairs, numbers_after}
use Rattle.writer.proofs.ZoneParts.{next_zone, rising_lower, before_higher, zones_ordered, none_later, none_before, part_found, pairs_after}
use Rattle.writer.proofs.ListCut.{Cut, leads}

zone_append : (g : Geometry) (z : ℕ) (ps qs : List Pair) → zone_pairs g z (ps ++ qs) ≡ zone_pairs g z ps ++ zone_pairs g z qs
zone_append g z [] qs = refl
zone_append g z (p ∷ ps) qs = by_test (eqb (zone_of g p.start) z) (λ t. simp (t, zone_append g z ps qs)) (λ t. simp (t, zone_append g z ps qs))

-- of pairs that ascend those of a zone do, from the zone's first bit on
rising_keep : (g : Geometry) (t : Pair → Bool) (at : ℕ) (qs : List Pair) → Rising g at qs → Rising g at (keep t qs)
rising_keep g t at [] r = tt
rising_keep g t at (q ∷ qs) r =
    by_test (t q)
    (λ e. rw e (r.0, r.1, rising_keep g t (q.start + q.len) qs r.2))
    (λ e. rw e (rising_lower g at (q.start + q.len) (keep t qs) (omega (arith, r.0)) (rising_keep g t (q.start + q.len) qs r.2)))

rising_zone : (g : Geometry) (z at : ℕ) (qs : List Pair) → All (λ q. eqb (zone_of g q.start) z) qs → Rising g at qs → Rising g (zone_from g z) qs
rising_zone g z at [] a r = tt
rising_zone g z at (q ∷ qs) a r = (omega (arith, ap (λ (x : ℕ). x * g.bits) (eqb-true (zone_of g q.start) z a.0), div-mul-le_self (q.start + 480) g.bits), r.1, r.2)

zone_rises : (g : Geometry) (z at : ℕ) (qs : List Pair) → Rising g at qs → Rising g (zone_from g z) (zone_pairs g z qs)
zone_rises g z at qs r =
    let t : Pair → Bool = λ q. eqb (zone_of g q.start) z in
    rising_zone g z at (keep t qs) (all_kept t qs) (rising_keep g t at qs r)

pub cut_rises : (g : Geometry) → AcceptedGeometry g → (z : ℕ) {start : ℕ} {qs : List Pair} → Cut g start (zone_from g start) qs → Rising g (zone_from g z) (zone_pairs g z qs)
cut_rises g ok z {start} {qs} c =
    let e : zone_pairs g z qs ≡ zone_pairs g z c.lates ++ zone_pairs g z c.earlies = ap (zone_pairs g z) c.whole ∙ zone_append g z c.lates c.earlies in
    by_test (ltb z start)
    (λ t. let none = none_later g ok z (zone_from g start) c.lates c.late (omega (arith, next_zone g z, zones_ordered g (z + 1) start (omega (arith, ltb-true z start t)))) in
    subst⁻¹ (Rising g (zone_from g z)) (e ∙ ap (λ (x : List Pair). x ++ zone_pairs g z c.earlies) none) (zone_rises g z 0 c.earlies c.early))
    (λ t. let none = none_before g ok z c.earlies (before_higher (zone_from g start) (zone_from g z) c.earlies (zones_ordered g start z (ltb-false z start t)) c.before) in
    subst⁻¹ (Rising g (zone_from g z)) (e ∙ ap (λ (x : List Pair). zone_pairs g z c.lates ++ x) none ∙ append-nil (zone_pairs g z c.lates)) (zone_rises g z (zone_from g start) c.lates c.late))

module _ (g : Geometry) (ok : AcceptedGeometry g) (list : List ℕ) (start : ℕ) where
  -- the pass starts
  module _ (even : length list % 2 ≡ 0) (parts : Cut g start (zone_from g start) (pairs_from list)) (n : ℕ) (e : n ≡ 2 * length parts.lates) where
    list_is : list ≡ numbers_of (parts.lates ++ parts.earlies)
    list_is = sym (numbers_pairs list even) ∙ ap numbers_of parts.whole

    both_parts : (y : ℕ) → zone_pairs g y (pairs_from list) ≡ zone_pairs g y parts.lates ++ zone_pairs g y parts.earlies
    both_parts y = ap (zone_pairs g y) parts.whole ∙ zone_append g y parts.lates parts.earlies

    pass_begins : PassAt g list start 0 (drop n list)
    pass_begins = record {
      early = λ h. record {
        left = parts.earlies;
        tail = [];
        is = numbers_after parts.lates parts.earlies list_is n e ∙ ap numbers_of (sym (append-nil parts.earlies));
        rising = rising_lower g (zone_from g 0) 0 parts.earlies (omega arith) parts.early;
        before = tt;
        same = λ y k l.
            both_parts y
            ∙ ap (λ (x : List Pair). x ++ zone_pairs g y parts.earlies) (none_later g ok y (zone_from g start) parts.lates parts.late (omega (arith, next_zone g y, zones_ordered g (y + 1) start (omega arith))));
      };
      at_start = record {
        left = parts.lates;
        tail = parts.earlies;
        is = list_is;
        rising = parts.late;
        before = parts.before;
        same = λ y k l.
            both_parts y
            ∙ ap (λ (x : List Pair). zone_pairs g y parts.lates ++ x) (none_before g ok y parts.earlies (before_higher (zone_from g start) (zone_from g y) parts.earlies (zones_ordered g start y k) parts.before))
            ∙ append-nil (zone_pairs g y parts.lates);
      };
      late = λ h. absurd (omega arith);
    }

  pub pass_found : length list % 2 ≡ 0 → Cut g start (zone_from g start) (pairs_from list) → {low high : ℕ} → low ≡ zone_from g start → high ≡ disc_bits g
      → (n : ℕ) → n ≡ 2 * length (leading low high (pairs_from list)) → PassAt g list start 0 (drop n list)
  pass_found even parts el eh n e =
      pass_begins even parts n
      (e ∙ (λ j. 2 * length (leading (el j) (eh j) (parts.whole j)))
      ∙ ap (λ (qs : List Pair). 2 * length qs) (leads g ok (zone_from g start) (zone_from g start) parts.lates parts.earlies parts.late (omega arith) parts.before))

  -- one zone further, from where its part stands on
  module _ (z : ℕ) (rest : List ℕ) (w : PassAt g list start z rest) (h : z < g.zones) where
    record Here (from : List ℕ) : Type 0 where
      to : ℕ
      inside : z < to
      parts : PairsLeft g list z to from
      on : (n : ℕ) → PairsLeft g list (z + 1) to (drop n from) → PassAt g list start (z + 1) (drop n from)

    -- at the start zone that is the list's beginning
    here_start : z ≡ start → Here list
    here_start e = record {
      to = g.zones;
      inside = h;
      parts = subst⁻¹ (λ (x : ℕ). PairsLeft g list x g.zones list) e w.at_start;
      on = λ n p. record { early = λ j. absurd (omega arith); at_start = w.at_start; late = λ j. p };
    }

    -- at another zone what is left
    here_other : (z ≡ start → ⊥) → Here rest
    here_other e =
        by_test (ltb z start)
        (λ u. let l = ltb-true z start u in
        record {
          to = start;
          inside = l;
          parts = w.early l;
          on = λ n p. record { early = λ j. p; at_start = w.at_start; late = λ j. absurd (omega arith) };
        })
        (λ u. let l : start < z = omega (arith, ltb-false z start u) in
        record {
          to = g.zones;
          inside = h;
          parts = w.late l;
          on = λ n p. record { early = λ j. absurd (omega arith); at_start = w.at_start; late = λ j. p };
        })

    -- the zone's part, and how the pass goes on
    turn : (from : List ℕ) → Here from → {low high : ℕ} → low ≡ zone_from g z → high ≡ zone_from g (z + 1) → (n : ℕ) → n ≡ 2 * length (leading low high (pairs_from from))
        → (take n from ≡ zone_part g list z) × PassAt g list start (z + 1) (drop n from)
    turn from k el eh n e =
        let count : n ≡ 2 * length (leading (zone_from g z) (zone_end g z) (pairs_from from)) = e ∙ (λ j. 2 * length (leading (el j) ((eh ∙ next_zone g z) j) (pairs_from from))) in
        (part_found g ok z list from k.to k.parts k.inside n count, k.on n (pairs_after g ok z list from k.to k.parts k.inside n count))

    pub turn_from : (from : List ℕ) → ((z ≡ start) × (from ≡ list)) ⊎ ((z ≡ start → ⊥) × (from ≡ rest)) → {low high : ℕ} → low ≡ zone_from g z → high ≡ zone_from g (z + 1)
        → (n : ℕ) → n ≡ 2 * length (leading low high (pairs_from from)) → (take n from ≡ zone_part g list z) × PassAt g list start (z + 1) (drop n from)
    turn_from from s = turn from (elim s [ inl a ↦ subst⁻¹ Here a.1 (here_start a.0) | inr b ↦ subst⁻¹ Here b.1 (here_other b.0) ])

-- the parts that are left, zone by zone
pub none_left : (g : Geometry) (list : List ℕ) (z : ℕ) → g.zones ≤ z → zone_parts g list z ≡ []
none_left g list z h =
    let e : g.zones - z ≡ 0 = omega arith in
    ap (λ (n : ℕ). map (zone_part g list) (range_with_len z n)) e

pub next_part : (g : Geometry) (list : List ℕ) (z : ℕ) → z < g.zones → zone_parts g list z ≡ zone_part g list z ∷ zone_parts g list (z + 1)
next_part g list z h =
    let e : g.zones - z ≡ suc (g.zones - (z + 1)) = omega arith in
    ap (λ (n : ℕ). map (zone_part g list) (range_with_len z n)) e
