-- How many bits a claim takes: whole holes and the last one, of which at least what remains and, in whole clusters, at most that rounded up to m and then by a
-- leftover of less than m.
use mathlib.Core.Path.{◌≡◌, refl, sym, ap, ◌∙◌}
use mathlib.Core.Bool.{Bool, not}
use mathlib.Core.List.{List, [], ◌∷◌}
use Prim.Native.Nat.{ℕ, ◌+◌, ◌*◌, ◌%◌, ◌<◌, ◌≤◌, max}
use native.Mathlib.Nat.{mod_self, zero-mod}
use native.Mathlib.Omega.{arith}
use lib.Dec.{ltb}
use borrow.Author.Tests.{ltb-true}
use Rattle.bits.proofs.Tests.{by_test}
use Rattle.geometry.specs.declared.Geometry.{Geometry}
use Rattle.geometry.specs.Accepted.{AcceptedGeometry}
use Rattle.model.specs.Answer.{answered}
use Rattle.model.specs.Chain.{Pair}
use Rattle.model.specs.Pieces.{Piece, keep, rotate}
use Rattle.split.specs.Taken.{total, lower, cut_bits, by_start}
use Rattle.split.proofs.Sorted.{total_append, total_sorted}
use Rattle.edits.specs.Judge.{choice, chosen}
use Rattle.edits.proofs.Kept.{All}
use Rattle.edits.proofs.Invariant.{FitPieces, some_bits}
use Rattle.edits.proofs.Returned.{is_whole}
use Rattle.edits.proofs.Clusters.{add_whole, whole_le}
use Rattle.edits.proofs.ClustersKept.{max_whole, last_clusters}
use Rattle.edits.proofs.Chosen.{choice_parts, front}
use Rattle.runs.specs.EditRules.{ClaimedBits}

-- of two numbers in whole clusters the higher is higher by a cluster
one_cluster : (k a b : ℕ) → 0 < k → a % k ≡ 0 → b % k ≡ 0 → a < b → a + k ≤ b
one_cluster k a b p ha hb h = whole_le k (a + k) b p (add_whole k a k ha (mod_self k)) hb (omega arith)

-- what is taken of the last hole
cut_enough : (m r n : ℕ) → r ≤ n → r ≤ cut_bits m r n
cut_enough m r n h = by_test (ltb n (max r m + m)) (λ t. simp t h) (λ t. simp t (omega arith))

cut_no_more : (k m r n : ℕ) → 0 < k → m % k ≡ 0 → r % k ≡ 0 → n % k ≡ 0 → 0 < m → 0 < r → cut_bits m r n + 2 * k ≤ r + 2 * m
cut_no_more k m r n p hm hr hn pm pr =
    let km : k ≤ m = omega (arith, one_cluster k 0 m p (zero-mod k) hm pm) in
    let kr : k ≤ r = omega (arith, one_cluster k 0 r p (zero-mod k) hr pr) in
    let w : max r m % k ≡ 0 = max_whole k r m hr hm in
    by_test (ltb n (max r m + m))
    (λ t. simp t (omega (arith, one_cluster k n (max r m + m) p hn (add_whole k (max r m) m w hm) (ltb-true n (max r m + m) t))))
    (λ t. simp t (omega arith))

-- the list has the bits of what is taken
total_keep : (t : Pair → Bool) (l : List Pair) → total (keep t l) + total (keep (λ q. not (t q)) l) ≡ total l
total_keep t [] = refl
total_keep t (x ∷ xs) = by_test (t x) (λ k. simp k (omega (arith, total_keep t xs))) (λ k. simp k (omega (arith, total_keep t xs)))

total_rotate : (t : Pair → Bool) (l : List Pair) → total (rotate t l) ≡ total l
total_rotate t l = total_append (keep t l) (keep (λ q. not (t q)) l) ∙ total_keep t l

pub claimed_bits : (g : Geometry) (l : List Piece) (size parent id : ℕ) (qs : List Pair) → AcceptedGeometry g → FitPieces g l → All (is_whole g.cluster) l → parent < g.zones
    → chosen g l size parent ≡ answered (choice id qs) → ClaimedBits g size qs
claimed_bits g l size parent id qs ok fit w inside e =
    let p = choice_parts g l size parent id qs e in
    let f = front g l size parent id qs e ok in
    let c = last_clusters g l size parent id qs ok fit w inside e in
    let n : f.last.len ≡ cut_bits g.shortest f.rest f.hole.len = ap (λ (q : Pair). q.len) f.last_is in
    let t : total qs ≡ total f.whole + f.last.len =
    ap total (sym p.pairs_are) ∙ total_rotate _ (by_start p.taken) ∙ total_sorted lower p.taken ∙ ap total f.taken_are
    ∙ omega (arith, total_append f.whole (f.last ∷ [])) in
    record {
      enough = omega (arith, t, n, f.remains, cut_enough g.shortest f.rest f.hole.len f.enough);
      no_more = omega (arith, t, n, f.remains, cut_no_more g.cluster g.shortest f.rest f.hole.len (omega (arith, ok.cluster_low)) ok.shortest_clusters c.0 c.1 (some_bits g ok) f.some_remain);
    }
