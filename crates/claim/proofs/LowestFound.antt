-- The first bit of a window that is not cleared is its lowest unused id: an id's bit is left exactly where the id has no piece.
use mathlib.Core.Path.{◌≡◌, refl, sym, ap, ◌∙◌}
use mathlib.Core.Bool.{Bool, true, false, cond, ◌&&◌}
use mathlib.Core.List.{List, [], ◌∷◌}
use mathlib.Core.Option.{Option, none, some}
use Prim.Native.Nat.{ℕ, zero, suc, ◌+◌, ◌-◌, ◌*◌, ◌/◌, ◌%◌, ◌^◌, ◌<◌, ◌≤◌}
use native.Mathlib.Nat.{mod-lt, mul-le-mul, zero-add}
use native.Mathlib.Omega.{arith}
use lib.Dec.{eqb, ltb, lit<}
use lib.ListN.{length, get_or, replicate, length-append, length-replicate, get_or-replicate}
use lib.Pow.{pow_mono}
use lib.Seq.{slice, slice-cons}
use borrow.Author.Tests.{lt-ltb, le-ltb, ltb-true, ltb-false}
use Rattle.bits.specs.Bits.{byte_bits, zeros}
use Rattle.bits.proofs.Tests.{by_test}
use Rattle.bits.proofs.Below.{at}
use Rattle.bits.proofs.Bytes.{bit_at, length_byte_bits}
use Rattle.geometry.specs.declared.Geometry.{Geometry}
use Rattle.geometry.specs.Accepted.{AcceptedGeometry}
use Rattle.geometry.specs.Places.{start_zone}
use Rattle.geometry.proofs.Starts.{start_in_range}
use Rattle.model.specs.Pieces.{pieces_of, object_pairs, pieces_of_zones}
use Rattle.model.specs.Shown.{pieces_on}
use Rattle.map.specs.Accepted.{AcceptedMap}
use Rattle.walk.specs.HeldBy.{held_from}
use Rattle.walk.proofs.ZonesTouching.{zones_are}
use Rattle.walk.proofs.HeldZones.{held_all}
use Rattle.listing.proofs.ObjectOrder.{in_object_order}
use Rattle.edits.specs.Judge.{is_empty, lowest, unused}
use Rattle.edits.proofs.PairsCounted.{pairs_count}
use Rattle.std.specs.Bool.{then_some}
use Rattle.claim.specs.Unused.{found, ClearedIn, Window}

-- an id's pieces are as many as the fragments that it holds
same_empty : {A B : Type 0} (xs : List A) (ys : List B) → length xs ≡ length ys → is_empty xs ≡ is_empty ys
same_empty [] [] e = refl
same_empty [] (y ∷ ys) e = absurd (omega arith)
same_empty (x ∷ xs) [] e = absurd (omega arith)
same_empty (x ∷ xs) (y ∷ ys) e = refl

module _ {m : List ℕ} {g : Geometry} (a : AcceptedMap m g) (id : ℕ) (low : 1 ≤ id) (high : id < g.ids * g.zones) where
  held_empty : is_empty (held_from g id m 0 g.zones) ≡ is_empty (pieces_of id (pieces_on g m))
  held_empty =
      let s = start_zone g id in
      let inside : s ≤ g.zones = omega (arith, start_in_range g id low high) in
      let late = held_from g id m s (g.zones - s) in
      let early = held_from g id m 0 s in
      let held : length (held_from g id m 0 g.zones) ≡ length early + length late = ap length (held_all g id m s g.zones inside) ∙ length-append early late in
      let order : length (object_pairs g id (pieces_of_zones g 0 a.zones)) ≡ length late + length early = ap length (in_object_order a id low inside) ∙ length-append late early in
      let e : length (pieces_of id (pieces_of_zones g 0 a.zones)) ≡ length (pieces_of id (pieces_on g m)) = ap (λ x. length (pieces_of id (pieces_of_zones g 0 x))) (sym (zones_are a)) in
      same_empty (held_from g id m 0 g.zones) (pieces_of id (pieces_on g m)) (omega (arith, pairs_count g id (pieces_of_zones g 0 a.zones)))

-- the bits at the start
full_bit : (n i : ℕ) → i < 8 * n → get_or (byte_bits (replicate n 255)) i false ≡ true
full_bit n i h =
    bit_at (replicate n 255) i (omega (arith, length-replicate {A = ℕ} n 255))
    ∙ ap (λ (x : ℕ). eqb (x / 2 ^ (i % 8) % 2) 1) (get_or-replicate n (i / 8) 255 0 (omega arith))
    ∙ at 8 (λ k. eqb (255 / 2 ^ k % 2) 1) refl (i % 8) (mod-lt i (lit< tt))

-- the id at place z of n ids from `id` on
abbrev id_at : ℕ → ℕ → ℕ → Option ℕ
id_at n z id = cond (ltb z n) (some (id + z)) none

first_at : (n id : ℕ) → some id ≡ id_at (suc n) 0 id
first_at n id = let e : id ≡ id + 0 = omega arith in rw (lt-ltb 0 (suc n) (omega arith)) (ap some e)

next_at : (n z id : ℕ) → id_at n z (suc id) ≡ id_at (suc n) (suc z) id
next_at n z id =
    let e : suc id + z ≡ id + suc z = omega arith in
    by_test (ltb z n)
    (λ t. rw (t, lt-ltb (suc z) (suc n) (omega (arith, ltb-true z n t))) (ap some e))
    (λ t. rw (t, le-ltb (suc z) (suc n) (omega (arith, ltb-false z n t))))

-- the lowest of n ids from `id` on, whose bits stand from k on, is that of the first bit that is left
lowest_found : (t : ℕ → Bool) (bits : List Bool) (n k id : ℕ) → k + n ≤ length bits → ((i j : ℕ) → id ≤ i → i < id + n → i + k ≡ j + id → get_or bits j false ≡ t i)
    → lowest t n id ≡ id_at n (zeros (slice k (k + n) bits)) id
lowest_found t bits zero k id h f = rw (le-ltb (zeros (slice k (k + 0) bits)) 0 (omega arith))
lowest_found t bits (suc n) k id h f =
    let rest = slice (suc k) (k + suc n) bits in
    let e : slice k (k + suc n) bits ≡ t id ∷ rest =
    slice-cons k (k + suc n) bits false (omega arith) h ∙ ap (λ (b : Bool). b ∷ rest) (f id k (omega arith) (omega arith) (omega arith)) in
    let s : suc k + n ≡ k + suc n = omega arith in
    let ih : lowest t n (suc id) ≡ id_at n (zeros (slice (suc k) (suc k + n) bits)) (suc id) = lowest_found t bits n (suc k) (suc id) (omega arith) (λ i j lo hi q. f i j (omega arith) (omega arith) (omega arith)) in
    by_test (t id)
    (λ p. simp p (first_at n id ∙ ap (λ (b : Bool). id_at (suc n) (zeros (b ∷ rest)) id) (sym p) ∙ ap (λ (x : List Bool). id_at (suc n) (zeros x) id) (sym e)))
    (λ p. simp p (ih ∙ ap (λ (x : ℕ). id_at n (zeros (slice (suc k) x bits)) (suc id)) s ∙ next_at n (zeros rest) id
    ∙ ap (λ (b : Bool). id_at (suc n) (zeros (b ∷ rest)) id) (sym p) ∙ ap (λ (x : List Bool). id_at (suc n) (zeros x) id) (sym e)))

-- the window that was cleared
module _ {m : List ℕ} {g : Geometry} (a : AcceptedMap m g) {from to : ℕ} (w : Window g from to) (left : List ℕ)
    (c : ClearedIn (λ id. held_from g id m 0 g.zones) from to (replicate 16384 255) left) (sized : length left ≡ 16384) where
  id_bit : (i j : ℕ) → from ≤ i → i < from + (to - from) → i + 0 ≡ j + from → get_or (byte_bits left) j false ≡ unused (pieces_on g m) i
  id_bit i j lo hi e =
      let k : i < to = omega (arith, w.in_order) in
      let d : j ≡ i - from = omega arith in
      ap (λ (x : ℕ). get_or (byte_bits left) x false) d
      ∙ c i lo k
      ∙ ap (λ (b : Bool). b && is_empty (held_from g i m 0 g.zones)) (full_bit 16384 (i - from) (omega (arith, w.few)))
      ∙ held_empty a i (omega (arith, w.low)) (omega (arith, w.high))

  pub unused_found : (z : ℕ) → z ≡ zeros (slice 0 (to - from) (byte_bits left)) → 0 + z ≤ to - from
      → then_some (ltb (from + z) to) (from + z) ≡ found (lowest (unused (pieces_on g m)) (to - from) from)
  unused_found z ez hz =
      let e : lowest (unused (pieces_on g m)) (to - from) from ≡ id_at (to - from) z from =
      lowest_found (unused (pieces_on g m)) (byte_bits left) (to - from) 0 from (omega (arith, length_byte_bits left, w.few)) id_bit
      ∙ ap (λ (x : ℕ). id_at (to - from) (zeros (slice 0 x (byte_bits left))) from) (zero-add (to - from))
      ∙ ap (λ (x : ℕ). id_at (to - from) x from) (sym ez) in
      by_test (ltb z (to - from))
      (λ t. rw (e, t, lt-ltb (from + z) to (omega (arith, ltb-true z (to - from) t, w.in_order))))
      (λ t. rw (e, t, le-ltb (from + z) to (omega (arith, ltb-false z (to - from) t))))

-- how many ids there are
module _ {g : Geometry} (ok : AcceptedGeometry g) where
  pub ids_some : 25 ≤ g.ids * g.zones
  ids_some = mul-le-mul ok.ids_low ok.zones_low

  pub ids_small : g.ids * g.zones ≤ 524288
  ids_small = omega (arith, ok.ids_fit, pow_mono {i = g.idlen} {j = 19} ok.idlen_high)
