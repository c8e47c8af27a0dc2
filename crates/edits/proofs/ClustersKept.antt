-- What a call gives away is in whole clusters: a list by its test, and a claim since holes between pieces in whole clusters
-- are in whole clusters, and so is the need.
use mathlib.Core.Path.{◌≡◌, refl, sym, ap, ◌∙◌, subst}
use mathlib.Core.Bool.{true, ◌&&◌}
use mathlib.Core.List.{List, [], ◌∷◌, map}
use mathlib.Core.Logic.{◌⊎◌, inl, inr}
use Prim.Native.Nat.{ℕ, ◌+◌, ◌-◌, ◌%◌, ◌<◌, max}
use native.Mathlib.Nat.{mul-mod_left, zero-mod}
use native.Mathlib.Omega.{arith}
use lib.Dec.{eqb, ltb, leb}
use borrow.Author.Tests.{leb-true, leb-false}
use Rattle.bits.proofs.Tests.{by_test, both}
use Rattle.geometry.specs.declared.Geometry.{Geometry}
use Rattle.geometry.specs.Accepted.{AcceptedGeometry}
use Rattle.geometry.specs.Places.{zone_from, zone_end, disc_bits}
use Rattle.model.specs.Answer.{answered}
use Rattle.model.specs.Chain.{Pair}
use Rattle.model.specs.Pieces.{Piece, late}
use Rattle.edits.specs.Order.{rank}
use Rattle.edits.specs.Edits.{own, in_zone}
use Rattle.edits.specs.Holes.{hole, holes}
use Rattle.split.specs.Taken.{total, cut_bits, cut}
use Rattle.split.specs.Laws.{FrontTaken}
use Rattle.edits.specs.Judge.{pair_fits, pairs_fit, need, first_hole, holes_near, in_turn, choice, chosen}
use Rattle.edits.proofs.Kept.{All, all_keep}
use Rattle.edits.specs.Room.{In}
use Rattle.edits.proofs.Entries.{in_append, in_left, in_right}
use Rattle.edits.proofs.Invariant.{FitPieces}
use Rattle.edits.proofs.ListInOrder.{all_in_order}
use Rattle.edits.proofs.Chosen.{in_turn_law, choice_parts, front}
use Rattle.edits.proofs.Returned.{is_whole}
use Rattle.edits.proofs.Clusters.{add_whole, sub_whole, start_whole, len_whole, is_whole_law, from_whole, to_whole}

-- a list
pub list_whole : (g : Geometry) (id from : ℕ) (qs : List Pair) → pairs_fit g id from qs ≡ true → All (is_whole g.cluster) (map (own id) qs)
list_whole g id from [] h = tt
list_whole g id from (q ∷ qs) h =
    let r = rank (late g id) (disc_bits g) (own id q) in
    let a = both (pair_fits g q && leb from r) (pairs_fit g id (r + q.len) qs) h in
    let b = both (pair_fits g q) (leb from r) a.0 in
    let c = both (leb g.shortest q.len && (eqb (q.start % g.cluster) 0 && eqb (q.len % g.cluster) 0)) _ b.0 in
    let d = both (leb g.shortest q.len) (eqb (q.start % g.cluster) 0 && eqb (q.len % g.cluster) 0) c.0 in
    (d.1, list_whole g id (r + q.len) qs a.1)

-- a hole
abbrev WholePair : ℕ → Pair → Type 0
WholePair k q = (q.start % k ≡ 0) × (q.len % k ≡ 0)

hole_whole : (k at end : ℕ) (h : Pair) (rest : List Pair) → at % k ≡ 0 → end % k ≡ 0 → (In h rest → WholePair k h) → In h (hole at end rest) → WholePair k h
hole_whole k at end h rest a e f i = by_test (ltb at end) (λ t. go (simp t at i)) (λ t. f (simp t at i))
  where
    go : In h (record { start = at; len = end - at } ∷ rest) → WholePair k h
    go (inl p) = (ap (λ (r : Pair). r.start % k) p ∙ a, ap (λ (r : Pair). r.len % k) p ∙ sub_whole k end at e a)
    go (inr j) = f j

holes_whole : (k at end : ℕ) (l : List Piece) (h : Pair) → at % k ≡ 0 → end % k ≡ 0 → All (is_whole k) l → In h (holes at end l) → WholePair k h
holes_whole k at end [] h a e w i = hole_whole k at end h [] a e (λ j. absurd j) i
holes_whole k at end (p ∷ ps) h a e w i =
    let s = start_whole k p w.0 in
    hole_whole k at p.at.start h (holes (p.at.start + p.at.len) end ps) a s
    (λ j. holes_whole k (p.at.start + p.at.len) end ps h (add_whole k p.at.start p.at.len s (len_whole k p w.0)) e w.1 j) i

pub max_whole : (k a b : ℕ) → a % k ≡ 0 → b % k ≡ 0 → max a b % k ≡ 0
max_whole k a b h j =
    by_test (leb a b)
    (λ t. let e : max a b ≡ b = omega (arith, leb-true) in ap (λ (x : ℕ). x % k) e ∙ j)
    (λ t. let e : max a b ≡ a = omega (arith, leb-false) in ap (λ (x : ℕ). x % k) e ∙ h)

-- a claim: what remains after whole holes is in whole clusters, and so is what is taken for it
cut_clusters : (k m r n : ℕ) → m % k ≡ 0 → r % k ≡ 0 → n % k ≡ 0 → cut_bits m r n % k ≡ 0
cut_clusters k m r n hm hr hn = by_test (ltb n (max r m + m)) (λ t. simp t hn) (λ t. simp t (max_whole k r m hr hm))

total_clusters : (k : ℕ) (qs : List Pair) → ((q : Pair) → In q qs → q.len % k ≡ 0) → total qs % k ≡ 0
total_clusters k [] h = zero-mod k
total_clusters k (q ∷ qs) h = add_whole k q.len (total qs) (h q (inl refl)) (total_clusters k qs (λ x i. h x (inr i)))

pub need_clusters : (g : Geometry) → AcceptedGeometry g → (size : ℕ) → need g size % g.cluster ≡ 0
need_clusters g ok size = max_whole g.cluster g.shortest _ ok.shortest_clusters (mul-mod_left _ g.cluster)

module _ (g : Geometry) (l : List Piece) (size parent id : ℕ) (qs : List Pair) (ok : AcceptedGeometry g) (fit : FitPieces g l) (w : All (is_whole g.cluster) l) (inside : parent < g.zones)
    (e : chosen g l size parent ≡ answered (choice id qs)) where
  abbrev k : ℕ
  k = g.cluster

  abbrev t : FrontTaken g.shortest (need g size) (in_turn g l (first_hole (need g size) (holes_near g l parent))) (choice_parts g l size parent id qs e).taken
  t = front g l size parent id qs e ok

  hole_clusters : (h : Pair) → In h (in_turn g l (first_hole (need g size) (holes_near g l parent))) → WholePair g.cluster h
  hole_clusters h i =
      let z = (in_turn_law g l (need g size) parent ok fit inside).free h i in
      holes_whole k (zone_from g z.0) (zone_end g z.0) (in_zone g z.0 l) h (from_whole g ok z.0) (to_whole g ok z.0) (all_keep (is_whole k) _ l w) z.2

  whole_clusters : (h : Pair) → In h t.whole → WholePair g.cluster h
  whole_clusters h i = hole_clusters h (subst (In h) (sym t.holes_are) (in_left h t.whole (t.hole ∷ t.behind) i))

  last_hole : WholePair g.cluster t.hole
  last_hole = hole_clusters t.hole (subst (In t.hole) (sym t.holes_are) (in_right t.hole t.whole (t.hole ∷ t.behind) (inl refl)))

  rest_clusters : t.rest % g.cluster ≡ 0
  rest_clusters =
      let r : t.rest ≡ need g size - total t.whole = omega (arith, t.remains) in
      ap (λ (x : ℕ). x % k) r ∙ sub_whole k (need g size) (total t.whole) (need_clusters g ok size) (total_clusters k t.whole (λ q i. (whole_clusters q i).1))

  -- what remains, and the last hole
  pub last_clusters : (t.rest % g.cluster ≡ 0) × (t.hole.len % g.cluster ≡ 0)
  last_clusters = (rest_clusters, last_hole.1)

  taken_clusters : (q : Pair) → In q (choice_parts g l size parent id qs e).taken → WholePair g.cluster q
  taken_clusters q i = go (in_append q t.whole (t.last ∷ []) (subst (In q) t.taken_are i))
    where
      last : WholePair g.cluster (cut g.shortest t.rest t.hole)
      last = (last_hole.0, cut_clusters k g.shortest t.rest t.hole.len ok.shortest_clusters rest_clusters last_hole.1)

      go : In q t.whole ⊎ In q (t.last ∷ []) → WholePair g.cluster q
      go (inl j) = whole_clusters q j
      go (inr (inl j)) = subst (WholePair k) (sym (j ∙ t.last_is)) last
      go (inr (inr j)) = absurd j

  pub chosen_whole : All (is_whole g.cluster) (map (own id) qs)
  chosen_whole =
      let p = choice_parts g l size parent id qs e in
      subst (λ (x : List Pair). All (is_whole g.cluster) (map (own id) x)) p.pairs_are
      (all_in_order (is_whole k) g id p.taken (λ q i. let c = taken_clusters q i in is_whole_law k (own id q) c.0 c.1))
