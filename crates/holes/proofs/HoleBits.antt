-- What a pass over holes finds: what one hole more does to their bits, and to the longest of them. Holes lie apart on the map, so their bits are no
-- more than the map's.
use mathlib.Core.Path.{◌≡◌, refl, ap, subst}
use mathlib.Core.List.{List, [], ◌∷◌}
use Prim.Native.Nat.{ℕ, ◌+◌, ◌<◌, ◌≤◌}
use native.Mathlib.Omega.{arith}
use lib.Dec.{leb}
use borrow.Author.Tests.{lt-ltb, le-leb}
use Rattle.bits.proofs.Tests.{by_test}
use Rattle.geometry.specs.declared.Geometry.{Geometry}
use Rattle.geometry.specs.Places.{disc_bits}
use Rattle.geometry.proofs.DiscBits.{disc_bits_small}
use Rattle.model.specs.Chain.{Pair}
use Rattle.map.specs.Accepted.{AcceptedMap}
use Rattle.listing.proofs.Ascend.{Apart, apart_le, apart_from, map_apart}
use Rattle.split.specs.Taken.{total}
use Rattle.split.specs.Threshold.{at_least, longer}
use Rattle.holes.specs.Passes.{holes_on}

-- holes that lie apart, and the first of them taken away
total_apart : (at end : ℕ) (hs : List Pair) → Apart at end hs → at + total hs ≤ end
total_apart at end [] k = omega arith
total_apart at end (h ∷ hs) k = omega (arith, k.0, total_apart (h.start + h.len) end hs k.2)

pub total_small : {m : List ℕ} {g : Geometry} → AcceptedMap m g → total (holes_on g m) ≤ 534773760
total_small {m} {g} a = omega (arith, total_apart 0 (disc_bits g) (holes_on g m) (map_apart a 0), disc_bits_small g a.readable.numbers)

pub apart_turn : (end : ℕ) {hs others : List Pair} {h : Pair} → hs ≡ h ∷ others → Apart 0 end hs → (h.start ≤ end) × Apart 0 end others
apart_turn end {others = others} {h} e a =
    let k = subst (λ (x : List Pair). Apart 0 end x) e a in
    let from = h.start + h.len in
    (omega (arith, apart_le from end others k.2), apart_from 0 from end others (omega arith) k.2)

pub at_least_some : (t : ℕ) (hs : List Pair) → at_least t hs ≤ total hs
at_least_some t [] = omega arith
at_least_some t (h ∷ hs) =
    by_test (leb t h.len)
    (λ e. rw e (omega (arith, at_least_some t hs)))
    (λ e. rw e (omega (arith, at_least_some t hs)))

pub at_least_zero : (hs : List Pair) → at_least 0 hs ≡ total hs
at_least_zero [] = refl
at_least_zero (h ∷ hs) = rw (le-leb 0 h.len (omega arith)) (ap (λ (n : ℕ). h.len + n) (at_least_zero hs))

-- the first of the longest: a hole takes its place only if it is longer
pub longer_later : (h x : Pair) → h.len < x.len → longer h x ≡ x
longer_later h x k = rw (lt-ltb h.len x.len k)
