-- Whole clusters. Sums and differences of multiples of k are multiples of k, so pieces in whole clusters leave gaps in whole
-- clusters, in block bits and in disc bits alike; and a fragment in whole clusters that holds an id has at least m bits.
use mathlib.Core.Path.{◌≡◌, refl, ◌∙◌}
use mathlib.Core.Bool.{true}
use mathlib.Core.List.{List, [], ◌∷◌, map}
use Prim.Native.Nat.{ℕ, zero, suc, ◌+◌, ◌-◌, ◌*◌, ◌/◌, ◌%◌, ◌<◌, ◌≤◌}
use native.Mathlib.Nat.{add-mod, zero-mod, zero-mul, suc-mul, mod-eq-zero_of_dvd, dvd_of_mod-eq-zero, dvd-sub, div-add-mod', div-lt_iff_lt-mul, mul-le-mul_right}
use native.Mathlib.Omega.{arith}
use lib.Dec.{eqb, ltb}
use borrow.Author.Tests.{eqb-true, eq-eqb}
use Rattle.bits.proofs.Tests.{by_test, both, and_true}
use Rattle.geometry.specs.declared.Geometry.{Geometry}
use Rattle.geometry.specs.Accepted.{AcceptedGeometry}
use Rattle.geometry.specs.Places.{first_bit, end_bit, zone_from, zone_end}
use Rattle.model.specs.Fragments.{Fragment}
use Rattle.model.specs.Pieces.{Piece, piece_to_disc}
use Rattle.model.specs.Drawing.{gap, drawn_fragments}
use Rattle.model.specs.Check.{in_clusters}
use Rattle.edits.proofs.Kept.{All}
use Rattle.edits.proofs.Returned.{is_whole}
use Rattle.edits.specs.Written.{to_block}

pub add_whole : (k a b : ℕ) → a % k ≡ 0 → b % k ≡ 0 → (a + b) % k ≡ 0
add_whole k a b h j = add-mod a b k ∙ simp (h, j, zero-mod)

pub sub_whole : (k a b : ℕ) → a % k ≡ 0 → b % k ≡ 0 → (a - b) % k ≡ 0
sub_whole k a b h j = mod-eq-zero_of_dvd k (dvd-sub k (dvd_of_mod-eq-zero k h) (dvd_of_mod-eq-zero k j))

-- a multiple of k that is less than a cluster above another is not above it
pub whole_le : (k a b : ℕ) → 0 < k → a % k ≡ 0 → b % k ≡ 0 → a < b + k → a ≤ b
whole_le k a b z h j l =
    let x = div-add-mod' a k in
    let y = div-add-mod' b k in
    let lt : a / k < suc (b / k) = (div-lt_iff_lt-mul z).1 (omega arith) in
    omega (arith, mul-le-mul_right {m = a / k} {n = b / k} k (omega arith))

-- a piece that starts and ends with a cluster
pub start_whole : (k : ℕ) (p : Piece) → is_whole k p ≡ true → p.at.start % k ≡ 0
start_whole k p h = eqb-true (p.at.start % k) 0 (both (eqb (p.at.start % k) 0) (eqb (p.at.len % k) 0) h).0

pub len_whole : (k : ℕ) (p : Piece) → is_whole k p ≡ true → p.at.len % k ≡ 0
len_whole k p h = eqb-true (p.at.len % k) 0 (both (eqb (p.at.start % k) 0) (eqb (p.at.len % k) 0) h).1

pub is_whole_law : (k : ℕ) (p : Piece) → p.at.start % k ≡ 0 → p.at.len % k ≡ 0 → is_whole k p ≡ true
is_whole_law k p h j = and_true (eqb (p.at.start % k) 0) (eqb (p.at.len % k) 0) (eq-eqb (p.at.start % k) 0 h) (eq-eqb (p.at.len % k) 0 j)

-- the fragments drawn from pieces in whole clusters
whole_gap : (k at end next : ℕ) (fs : List Fragment) → at % k ≡ 0 → end % k ≡ 0 → in_clusters k fs ≡ true → in_clusters k (gap at end next fs) ≡ true
whole_gap k at end next fs h j l = by_test (ltb at end) (λ t. simp (t, eq-eqb ((end - at) % k) 0 (sub_whole k end at j h), l)) (λ t. simp (t, l))

pub whole_drawn : (k at end : ℕ) (ps : List Piece) → at % k ≡ 0 → end % k ≡ 0 → All (is_whole k) ps → in_clusters k (drawn_fragments at end ps) ≡ true
whole_drawn k at end [] h j a = whole_gap k at end 0 [] h j refl
whole_drawn k at end (p ∷ ps) h j a =
    let s = start_whole k p a.0 in
    let l = len_whole k p a.0 in
    whole_gap k at p.at.start _ _ h s (simp (eq-eqb (p.at.len % k) 0 l, whole_drawn k (p.at.start + p.at.len) end ps (add_whole k p.at.start p.at.len s l) j a.1))

module _ (g : Geometry) (ok : AcceptedGeometry g) where
  -- zones start and end with a cluster, by both counts
  header_record : 512 % g.cluster ≡ 0
  header_record = add_whole g.cluster 480 32 ok.record_clusters ok.header_clusters

  pub zones_whole : (z : ℕ) → (z * g.bits) % g.cluster ≡ 0
  zones_whole zero = simp (zero-mul, zero-mod)
  zones_whole (suc z) = rw (suc-mul z g.bits) (add_whole g.cluster (z * g.bits) g.bits (zones_whole z) ok.bits_clusters)

  pub first_whole : (z : ℕ) → first_bit z % g.cluster ≡ 0
  first_whole z = by_test (eqb z 0) (λ t. simp t header_record) (λ t. simp t ok.header_clusters)

  pub end_whole : end_bit g % g.cluster ≡ 0
  end_whole = add_whole g.cluster 32 g.bits ok.header_clusters ok.bits_clusters

  pub from_whole : (z : ℕ) → zone_from g z % g.cluster ≡ 0
  from_whole z = sub_whole g.cluster (z * g.bits) 480 (zones_whole z) ok.record_clusters

  pub to_whole : (z : ℕ) → zone_end g z % g.cluster ≡ 0
  to_whole z = from_whole (suc z)

  -- pieces from disc bits to block bits, and back
  pub block_whole : (z : ℕ) (l : List Piece) → All (is_whole g.cluster) l → All (is_whole g.cluster) (map (to_block g z) l)
  block_whole z [] a = tt
  block_whole z (p ∷ ps) a = (
    is_whole_law g.cluster (to_block g z p)
        (sub_whole g.cluster (p.at.start + 512) (z * g.bits) (add_whole g.cluster p.at.start 512 (start_whole g.cluster p a.0) header_record) (zones_whole z))
        (len_whole g.cluster p a.0),
    block_whole z ps a.1,
  )

  pub disc_whole : (z : ℕ) (l : List Piece) → All (is_whole g.cluster) l → All (is_whole g.cluster) (map (piece_to_disc g z) l)
  disc_whole z [] a = tt
  disc_whole z (p ∷ ps) a = (
    is_whole_law g.cluster (piece_to_disc g z p)
        (sub_whole g.cluster (z * g.bits + p.at.start) 512 (add_whole g.cluster (z * g.bits) p.at.start (zones_whole z) (start_whole g.cluster p a.0)) header_record)
        (len_whole g.cluster p a.0),
    disc_whole z ps a.1,
  )

  -- over idlen bits in whole clusters are at least m
  pub shortest_least : (len : ℕ) → g.idlen < len → len % g.cluster ≡ 0 → g.shortest ≤ len
  shortest_least len h e = whole_le g.cluster g.shortest len (omega (arith, ok.cluster_low)) ok.shortest_clusters e (omega (arith, ok.shortest_high))
