-- The part of a list that a zone has: the zone's pairs, ascending, and few enough for a list of the zone's pieces. There are some just
-- where the list touches the zone, so counting the parts with pairs counts the touched zones.
use mathlib.Core.Path.{◌≡◌, refl, sym, ap, ap₂, ◌∙◌, subst, subst⁻¹}
use mathlib.Core.Bool.{Bool, cond, not}
use mathlib.Core.List.{List, [], ◌∷◌, map}
use Prim.Native.Nat.{ℕ, zero, suc, ◌+◌, ◌-◌, ◌*◌, ◌/◌, ◌≤◌}
use native.Mathlib.Nat.{zero-add, sub-zero, suc-mul}
use native.Mathlib.Omega.{arith}
use lib.Dec.{eqb, ltb}
use lib.ListN.{length}
use borrow.Author.Tests.{eqb-true, ne_eqb, lt-ltb}
use Rattle.std.specs.List.{filter, range_with_len}
use Rattle.std.proofs.lemmas.List.FromFn.{length-map-range_with_len}
use Rattle.bits.proofs.Tests.{by_test}
use Rattle.checks.specs.Cross.{touched_count}
use Rattle.geometry.specs.declared.Geometry.{Geometry}
use Rattle.geometry.specs.Accepted.{AcceptedGeometry}
use Rattle.geometry.specs.Places.{zone_of, zone_from, zone_end}
use Rattle.model.specs.Chain.{Pair, numbers_of}
use Rattle.model.specs.Pieces.{Piece}
use Rattle.model.proofs.Lists.{length_numbers}
use Rattle.edits.specs.Order.{Ascending}
use Rattle.edits.specs.Edits.{own, touches, touched_from, touched_zones, in_zone}
use Rattle.edits.specs.Judge.{pairs_from}
use Rattle.edits.proofs.Kept.{All, all_kept}
use Rattle.edits.proofs.PutIn.{asc_weaken}
use Rattle.edits.proofs.Invariant.{pair_tested, some_bits}
use Rattle.edits.proofs.Returned.{pairs_numbers}
use Rattle.edits.proofs.ZonesTouched.{count_next}
use Rattle.writer.specs.Parts.{Rising, zone_pairs, zone_part, zone_parts, IsPart}

-- a zone's pairs as pieces
pub zone_listed : (g : Geometry) (z id : ℕ) (qs : List Pair) → in_zone g z (map (own id) qs) ≡ map (own id) (zone_pairs g z qs)
zone_listed g z id [] = refl
zone_listed g z id (q ∷ qs) =
    by_test (eqb (zone_of g q.start) z)
    (λ t. simp t (ap (λ (r : List Piece). own id q ∷ r) (zone_listed g z id qs)))
    (λ t. simp t (zone_listed g z id qs))

touches_pairs : (g : Geometry) (z : ℕ) (qs : List Pair) → touches g z qs ≡ ltb 0 (length (zone_pairs g z qs))
touches_pairs g z [] = refl
touches_pairs g z (q ∷ qs) =
    by_test (eqb (zone_of g q.start) z)
    (λ t. simp t (sym (lt-ltb 0 (suc (length (zone_pairs g z qs))) (omega arith))))
    (λ t. simp (t, touches_pairs g z qs))

twice : (n : ℕ) → ltb 0 (2 * n) ≡ ltb 0 n
twice zero = refl
twice (suc n) = lt-ltb 0 (2 * suc n) (omega arith) ∙ sym (lt-ltb 0 (suc n) (omega arith))

module _ {g : Geometry} (ok : AcceptedGeometry g) where
  rising_ascends : (id at : ℕ) (qs : List Pair) → Rising g at qs → Ascending at (map (own id) qs)
  rising_ascends id at [] r = tt
  rising_ascends id at (q ∷ qs) r =
      (r.0, asc_weaken (map (own id) qs) (omega (arith, (pair_tested g q r.1).size, some_bits g ok)) (rising_ascends id (q.start + q.len) qs r.2))

  -- a pair has at least 12 bits of its zone
  rising_few : (z at : ℕ) (qs : List Pair) → Rising g at qs → All (λ q. eqb (zone_of g q.start) z) qs → at ≤ zone_end g z → at + 12 * length qs ≤ zone_end g z
  rising_few z at [] r a h = omega arith
  rising_few z at (q ∷ qs) r a h =
      let k = pair_tested g q r.1 in
      let e : q.start + q.len ≤ zone_end g z = subst (λ (y : ℕ). q.start + q.len ≤ zone_end g y) (eqb-true (zone_of g q.start) z a.0) k.in_zone_end in
      omega (arith, r.0, k.size, ok.shortest_low, ok.idlen_low, rising_few z (q.start + q.len) qs r.2 a.1 e)

module _ {g : Geometry} {list part : List ℕ} {z : ℕ} (p : IsPart g list z part) where
  pub part_pairs : pairs_from part ≡ zone_pairs g z (pairs_from list)
  part_pairs = ap pairs_from p.is ∙ pairs_numbers (zone_pairs g z (pairs_from list))

  part_length : length part ≡ 2 * length (zone_pairs g z (pairs_from list))
  part_length = ap length p.is ∙ length_numbers (zone_pairs g z (pairs_from list))

  pub part_some : ltb 0 (length part) ≡ touches g z (pairs_from list)
  part_some = ap (ltb 0) part_length ∙ twice (length (zone_pairs g z (pairs_from list))) ∙ sym (touches_pairs g z (pairs_from list))

  pub part_ascends : AcceptedGeometry g → (id : ℕ) → Ascending 0 (map (own id) (pairs_from part))
  part_ascends ok id =
      asc_weaken (map (own id) (pairs_from part)) (omega arith)
      (rising_ascends ok id (zone_from g z) (pairs_from part) (subst⁻¹ (Rising g (zone_from g z)) part_pairs p.rising))

  pub part_fits : AcceptedGeometry g → 682 + length part / 2 ≤ 1362
  part_fits ok =
      let qs = zone_pairs g z (pairs_from list) in
      let few = rising_few ok z (zone_from g z) qs p.rising (all_kept (λ q. eqb (zone_of g q.start) z) (pairs_from list)) (omega (arith, suc-mul z g.bits)) in
      omega (arith, few, part_length, ok.bits_high, suc-mul z g.bits)

-- as many zones have parts as the list touches
abbrev pub some_in : List ℕ → Bool
some_in part = not (eqb (length part) 0)

not_zero : (n : ℕ) → not (eqb n 0) ≡ ltb 0 n
not_zero zero = refl
not_zero (suc n) = simp (ne_eqb (suc n) 0 (λ e. omega arith), lt-ltb 0 (suc n) (omega arith))

pub part_touches : (g : Geometry) (list : List ℕ) (z : ℕ) → some_in (zone_part g list z) ≡ touches g z (pairs_from list)
part_touches g list z =
    let qs = zone_pairs g z (pairs_from list) in
    not_zero (length (numbers_of qs)) ∙ ap (ltb 0) (length_numbers qs) ∙ twice (length qs) ∙ sym (touches_pairs g z (pairs_from list))

parts_touched : (g : Geometry) (list : List ℕ) (z n : ℕ) → length (filter some_in (map (zone_part g list) (range_with_len z n))) ≡ touched_count (touched_from g (pairs_from list) z n)
parts_touched g list z zero = refl
parts_touched g list z (suc n) =
    let s : z + 1 ≡ suc z = omega arith in
    let r = parts_touched g list (z + 1) n ∙ ap (λ (y : ℕ). touched_count (touched_from g (pairs_from list) y n)) s in
    by_test (touches g z (pairs_from list))
    (λ t. rw (part_touches g list z ∙ t, t) (ap suc r))
    (λ t. rw (part_touches g list z ∙ t, t) r)

pub all_parts_touched : (g : Geometry) (list : List ℕ) → length (filter some_in (zone_parts g list 0)) ≡ touched_count (touched_zones g (pairs_from list))
all_parts_touched g list = ap (λ (n : ℕ). length (filter some_in (map (zone_part g list) (range_with_len 0 n)))) (sub-zero g.zones) ∙ parts_touched g list 0 g.zones

pub length_parts : (g : Geometry) (list : List ℕ) → length (zone_parts g list 0) ≡ g.zones
length_parts g list = length-map-range_with_len (zone_part g list) 0 (g.zones - 0) ∙ sub-zero g.zones

-- one zone more is counted
pub count_turn : (g : Geometry) (qs : List Pair) (z k n : ℕ) (b : Bool) → k ≡ touched_count (touched_from g qs 0 z) → b ≡ touches g z qs → n ≡ cond b 1 0 → k + n ≡ touched_count (touched_from g qs 0 (z + 1))
count_turn g qs z k n b ek eb en =
    let s : suc z ≡ z + 1 = omega arith in
    ap₂ (λ (x y : ℕ). x + y) ek (en ∙ ap (λ (x : Bool). cond x 1 0) (eb ∙ ap (λ (x : ℕ). touches g x qs) (sym (zero-add z))))
    ∙ sym (count_next g qs 0 z) ∙ ap (λ (x : ℕ). touched_count (touched_from g qs 0 x)) s
