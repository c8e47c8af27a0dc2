-- Refusal 14 cannot arise: the ids that are used have a piece each, and the pieces are fewer than the ids, since a zone holds
-- at most P of them and zone 0, 480 bits short, at most P - 24.
use mathlib.Core.Path.{◌≡◌, refl, sym, ap, ◌∙◌, subst}
use mathlib.Core.Bool.{Bool, true, false, not, false≢true}
use mathlib.Core.List.{List, [], ◌∷◌}
use mathlib.Core.Option.{Option, none, some}
use Prim.Native.Nat.{ℕ, zero, suc, ◌+◌, ◌-◌, ◌*◌, ◌<◌, ◌≤◌}
use native.Mathlib.Nat.{le-div_iff_mul-le, mul-le-mul_left}
use native.Mathlib.Omega.{arith}
use lib.Dec.{eqb, ltb, leb}
use lib.ListN.{length}
use borrow.Author.Tests.{eqb-true, eqb-false, ne_eqb, lt-ltb, le-ltb, ltb-true, ltb-false, leb-true}
use Rattle.bits.proofs.Tests.{by_test, both}
use Rattle.geometry.specs.declared.Geometry.{Geometry}
use Rattle.geometry.specs.Accepted.{AcceptedGeometry}
use Rattle.geometry.specs.Places.{zone_of, zone_from, zone_end}
use Rattle.model.specs.Chain.{Pair}
use Rattle.model.specs.Pieces.{Piece, keep, is_of, pieces_of, object_pairs}
use Rattle.edits.specs.Edits.{not_of, without, give, in_zone, Edit, takes, gives}
use Rattle.edits.specs.Holes.{gap_fits, apart, all_apart}
use Rattle.model.specs.Answer.{Answer, refused, answered, unless}
use Rattle.edits.specs.Judge.{Call, release, place, claim, is_empty, pairs_from, list_fits, need, taken_for, lowest_id, unused, id_for, choice_of, choose_in, chosen, claim_fits, by_choice, judge_rest}
use Rattle.edits.proofs.Kept.{All, all_keep, keep_keep, keep_all, keep_no, length_parts, some_length}
use Rattle.edits.proofs.Gaps.{gap_of_test, gap_le, is_long}
use Rattle.edits.proofs.Invariant.{FitPieces}
use Rattle.edits.proofs.Chosen.{lowest_none}

-- used ids have a piece each
pub ids_few : (n id : ℕ) (l : List Piece) → ((i : ℕ) → id ≤ i → i < id + n → pieces_of i l ≡ [] → ⊥) → n ≤ length l
ids_few zero id l h = omega arith
ids_few (suc n) id l h =
    let a = ids_few n (suc id) (without id l) (λ i lo hi e. h i (omega arith) (omega arith) (sym (others i (omega arith)) ∙ e)) in
    let b = some_length (pieces_of id l) (h id (omega arith) (omega arith)) in
    let c : length (pieces_of id l) + length (without id l) ≡ length l = length_parts (is_of id) l in
    omega arith
  where
    others : (i : ℕ) → id < i → pieces_of i (without id l) ≡ pieces_of i l
    others i k = keep_keep (is_of i) (not_of id) l (λ x j. ap not (ne_eqb x.owner id (λ e. omega (arith, eqb-true x.owner i j, e))))

-- the pieces of a zone
pub zone_room : (m at end : ℕ) (l : List Piece) → All (is_long m) l → apart m at end l ≡ true → at + length l * m ≤ end
zone_room m at end [] w a = omega (arith, gap_le m at end (gap_of_test m at end a))
zone_room m at end (p ∷ ps) w a =
    let b = both (gap_fits m at p.at.start) (apart m (p.at.start + p.at.len) end ps) a in
    let c = gap_le m at p.at.start (gap_of_test m at p.at.start b.0) in
    let d = leb-true m p.at.len w.0 in
    let e = zone_room m (p.at.start + p.at.len) end ps w.1 b.1 in
    omega arith

-- in a zone before z
abbrev pub below : Geometry → ℕ → Piece → Bool
below g z p = ltb (zone_of g p.at.start) z

pub below_next : (g : Geometry) (z : ℕ) (l : List Piece) → length (keep (below g (suc z)) l) ≤ length (keep (below g z) l) + length (in_zone g z l)
below_next g z [] = omega arith
below_next g z (x ∷ xs) =
    by_test (ltb (zone_of g x.at.start) z)
    (λ t. by_test (eqb (zone_of g x.at.start) z)
    (λ k. absurd (omega (arith, ltb-true (zone_of g x.at.start) z t, eqb-true (zone_of g x.at.start) z k)))
    (λ k. simp (t, k, lt-ltb (zone_of g x.at.start) (suc z) (omega (arith, ltb-true (zone_of g x.at.start) z t))) (omega (arith, below_next g z xs))))
    (λ t. by_test (eqb (zone_of g x.at.start) z)
    (λ k. simp (t, k, lt-ltb (zone_of g x.at.start) (suc z) (omega (arith, eqb-true (zone_of g x.at.start) z k))) (omega (arith, below_next g z xs)))
    (λ k. simp (t, k, le-ltb (zone_of g x.at.start) (suc z) (omega (arith, ltb-false (zone_of g x.at.start) z t, eqb-false (zone_of g x.at.start) z k))) (omega (arith, below_next g z xs))))

-- refusals and edits
same_number : {a b x y : ℕ} → ◌≡◌ {A = Answer Edit} (refused a x) (refused b y) → a ≡ b
same_number e = cc

edit_not : (e : Edit) {n z : ℕ} → answered e ≡ refused n z → ⊥
edit_not e h = let z : ◌≡◌ {A = ℕ} 0 1 = cc in omega arith

passed : (b : Bool) (n : ℕ) (v : Answer Edit) {z : ℕ} → (n ≡ 14 → ⊥) → unless b n v ≡ refused 14 z → v ≡ refused 14 z
passed true n v k h = h
passed false n v k h = absurd (k (same_number h))

module _ (g : Geometry) (l : List Piece) (ok : AcceptedGeometry g) (fit : FitPieces g l) where
  zone_long : (z : ℕ) → All (is_long g.shortest) (in_zone g z l)
  zone_long z = all_keep (is_long g.shortest) (λ p. eqb (zone_of g p.at.start) z) l fit.long

  pub zone_count : (z : ℕ) → z < g.zones → zone_from g z + length (in_zone g z l) * (g.idlen + 1) ≤ zone_end g z
  zone_count z h =
      let a = zone_room g.shortest (zone_from g z) (zone_end g z) (in_zone g z l) (zone_long z) (fit.parts z h) in
      let b : length (in_zone g z l) * (g.idlen + 1) ≤ length (in_zone g z l) * g.shortest = mul-le-mul_left (length (in_zone g z l)) ok.shortest_low in
      omega arith

  -- zone 0 has at least 24 pieces fewer than ids, every other no more
  first_zone_law : length (in_zone g 0 l) + 24 ≤ g.ids
  first_zone_law =
      let a = zone_count 0 ok.zones_low in
      let b : (length (in_zone g 0 l) + 24) * (g.idlen + 1) ≤ g.bits = omega (arith, a, ok.idlen_high, ok.bits_low) in
      subst (λ (x : ℕ). length (in_zone g 0 l) + 24 ≤ x) (sym ok.ids_are) ((le-div_iff_mul-le (omega arith)).1 b)

  other_zone : (z : ℕ) → suc z < g.zones → length (in_zone g (suc z) l) ≤ g.ids
  other_zone z h =
      let a = zone_count (suc z) h in
      let b : length (in_zone g (suc z) l) * (g.idlen + 1) ≤ g.bits = omega (arith, a, ok.bits_low) in
      subst (λ (x : ℕ). length (in_zone g (suc z) l) ≤ x) (sym ok.ids_are) ((le-div_iff_mul-le (omega arith)).1 b)

  pieces_few : (z : ℕ) → z < g.zones → length (keep (below g (suc z)) l) + 24 ≤ suc z * g.ids
  pieces_few zero h =
      let a = below_next g 0 l in
      let b : length (keep (below g 0) l) ≡ 0 = ap length (keep_no (below g 0) l (λ x. le-ltb (zone_of g x.at.start) 0 (omega arith))) in
      omega (arith, first_zone_law)
  pieces_few (suc z) h = omega (arith, below_next g (suc z) l, pieces_few z (omega arith), other_zone z h)

  pub pieces_fewer : length l + 24 ≤ g.ids * g.zones
  pieces_fewer =
      let e : suc (g.zones - 1) ≡ g.zones = omega (arith, ok.zones_low) in
      let a : length (keep (below g g.zones) l) + 24 ≤ g.zones * g.ids = subst (λ (n : ℕ). length (keep (below g n) l) + 24 ≤ n * g.ids) e (pieces_few (g.zones - 1) (omega arith)) in
      let b : length (keep (below g g.zones) l) ≡ length l = ap length (keep_all (below g g.zones) l fit.zoned) in
      omega arith

  pub no_fourteen : lowest_id g (unused l) ≡ none → ⊥
  no_fourteen h =
      let n = g.ids * g.zones - 3 in
      omega (arith, pieces_fewer, ids_few n 3 l (λ i lo hi e. false≢true (sym (lowest_none (unused l) n 3 h i lo hi) ∙ ap is_empty e)))

-- no call that passes 8 and 9 is refused with it
pub never_fourteen : (g : Geometry) (l : List Piece) (c : Call) {z : ℕ} → AcceptedGeometry g → FitPieces g l → judge_rest g l c ≡ refused 14 z → ⊥
never_fourteen g l (release id room) ok fit h =
    let qs = object_pairs g id l in
    let v3 = unless (leb (2 * length qs) room) 17 (answered (takes id qs)) in
    let h3 = passed (not (is_empty (pieces_of id l))) 10 v3 (λ e. omega arith) h in
    edit_not (takes id qs) (passed (leb (2 * length qs) room) 17 (answered (takes id qs)) (λ e. omega arith) h3)
never_fourteen g l (place id list) ok fit h =
    let qs = pairs_from list in
    let v4 = unless (all_apart g 0 g.zones (give id qs l)) 13 (answered (gives id qs)) in
    let v3 = unless (list_fits g id list) 12 v4 in
    let h3 = passed (is_empty (pieces_of id l)) 11 v3 (λ e. omega arith) h in
    let h4 = passed (list_fits g id list) 12 v4 (λ e. omega arith) h3 in
    edit_not (gives id qs) (passed (all_apart g 0 g.zones (give id qs l)) 13 (answered (gives id qs)) (λ e. omega arith) h4)
never_fourteen g l (claim size parent room) {z = z} ok fit h =
    go (lowest_id g (unused l)) refl (taken_for g l (need g size) parent) (passed (claim_fits g size parent) 12 (by_choice room (chosen g l size parent)) (λ e. omega arith) h)
  where
    go : (i : Option ℕ) → lowest_id g (unused l) ≡ i → (o : Option (List Pair)) → by_choice room (choose_in g l i o) ≡ refused 14 z → ⊥
    go none e o h = no_fourteen g l ok fit e
    go (some i) e none h = omega (arith, same_number h)
    go (some i) e (some qs) h =
        let c = choice_of g (id_for g l i qs) qs in
        edit_not (gives c.id c.pairs) (passed (leb (2 * length c.pairs) room) 17 (answered (gives c.id c.pairs)) (λ e. omega arith) h)
