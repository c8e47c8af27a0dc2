-- Two bytes of an object lie at two addresses: a bit lies in at most one of the object's pairs, since the entries of the map fill
-- it, and within one pair the addresses differ.
use mathlib.Core.Path.{◌≡◌}
use mathlib.Core.List.{List, [], ◌∷◌}
use Prim.Native.Nat.{ℕ, ◌+◌, ◌-◌, ◌*◌, ◌/◌, ◌<◌, ◌≤◌}
use native.Mathlib.Nat.{div-lt_iff_lt-mul, le-div_iff_mul-le}
use native.Mathlib.Omega.{arith}
use lib.Dec.{ltb}
use borrow.Author.Tests.{ltb-true, ltb-false}
use Rattle.bits.proofs.Tests.{by_test}
use Rattle.geometry.specs.declared.Geometry.{Geometry}
use Rattle.model.specs.Chain.{Pair, Within}
use Rattle.model.specs.Pieces.{pieces_of_zones, object_pairs}
use Rattle.map.specs.Accepted.{AcceptedMap}
use Rattle.listing.specs.Laws.{first}
use Rattle.listing.proofs.Hits.{hit, hits, hit_at}
use Rattle.listing.proofs.Cover.{object_once}
use Rattle.address.specs.Address.{at, seek}
use Rattle.address.proofs.Joined.{never_at, same_byte}

module _ (unit : ℕ) (some : 0 < unit) where
  -- an address of a pair lies in one of its bits
  pair_hit : (q : Pair) (i : ℕ) → i < q.len * unit → 0 < hit ((q.start * unit + i) / unit) q
  pair_hit q i h =
      let d : ℕ = (q.start * unit + i) / unit in
      let w : Within q d = ((le-div_iff_mul-le some).1 (omega arith), (div-lt_iff_lt-mul some).1 (omega arith)) in
      omega (arith, hit_at d q 0 (q ∷ []) first w)

  pub seek_hit : (qs : List Pair) (i a : ℕ) → seek unit qs i ≡ at a → 0 < hits (a / unit) qs
  seek_hit [] i a e = absurd (never_at i a e)
  seek_hit (q ∷ qs) i a e =
      by_test (ltb i (q.len * unit))
      (λ t. let k : q.start * unit + i ≡ a = same_byte (q.start * unit + i) a (rw t at e) in
      let h = pair_hit q i (ltb-true i (q.len * unit) t) in
      omega (arith, rw k at h))
      (λ t. omega (arith, seek_hit qs (i - q.len * unit) a (rw t at e)))

  seek_once : (qs : List Pair) → ((d : ℕ) → hits d qs ≤ 1) → (i j a : ℕ) → seek unit qs i ≡ at a → seek unit qs j ≡ at a → i ≡ j
  seek_once [] h i j a e f = absurd (never_at i a e)
  seek_once (q ∷ qs) h i j a e f =
      let l : ℕ = q.len * unit in
      by_test (ltb i l)
      (λ t. let k : q.start * unit + i ≡ a = same_byte (q.start * unit + i) a (rw t at e) in
      let here : 0 < hit (a / unit) q = rw k at (pair_hit q i (ltb-true i l t)) in
      by_test (ltb j l)
      (λ u. omega (arith, same_byte (q.start * unit + j) a (rw u at f)))
      (λ u. absurd (omega (arith, h (a / unit), seek_hit qs (j - l) a (rw u at f)))))
      (λ t. let later : 0 < hits (a / unit) qs = seek_hit qs (i - l) a (rw t at e) in
      by_test (ltb j l)
      (λ u. let k : q.start * unit + j ≡ a = same_byte (q.start * unit + j) a (rw u at f) in
      let here : 0 < hit (a / unit) q = rw k at (pair_hit q j (ltb-true j l u)) in
      absurd (omega (arith, h (a / unit))))
      (λ u. omega (arith, ltb-false i l t, ltb-false j l u, seek_once qs (λ d. omega (arith, h d)) (i - l) (j - l) a (rw t at e) (rw u at f))))

module _ {m : List ℕ} {g : Geometry} (a : AcceptedMap m g) (id : ℕ) where
  abbrev pairs : List Pair
  pairs = object_pairs g id (pieces_of_zones g 0 a.zones)

  pub object_one_to_one : (i j x : ℕ) → seek g.unit pairs i ≡ at x → seek g.unit pairs j ≡ at x → i ≡ j
  object_one_to_one i j x = seek_once g.unit (omega (arith, a.readable.numbers.unit_low)) pairs (λ d. object_once a d id) i j x
