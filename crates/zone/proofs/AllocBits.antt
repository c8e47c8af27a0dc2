-- A zone's allocation bits by their places in the block: the header's four bytes are 32 bits, so what the definition takes
-- of the bytes after it is a slice of the block's bits; and what the fragment found at a place says of that slice's cut.
use mathlib.Core.Path.{◌≡◌, refl, sym}
use mathlib.Core.List.{List, [], ◌∷◌}
use Prim.Native.Nat.{ℕ, ◌+◌, ◌-◌, ◌<◌, ◌≤◌}
use native.Mathlib.Omega.{arith}
use lib.ListN.{length, take, drop}
use lib.Seq.{slice, drop-drop, length-slice}
use Rattle.std.specs.Prelude.{Option, Some}
use Rattle.std.proofs.lemmas.List.{drop-take}
use Rattle.std.proofs.lemmas.Bool.Decides.{nat_tests}
use Rattle.bits.specs.Bits.{byte_bits}
use Rattle.bits.proofs.Bytes.{length_byte_bits}
use Rattle.fragment.specs.Found.{fragment_at}
use Rattle.fragment.specs.declared.FragmentRead.{FragmentRead}
use Rattle.fragment.proofs.FoundCut.{Meaning, found}
use Rattle.geometry.specs.declared.Geometry.{Geometry}
use Rattle.geometry.specs.Accepted.{AcceptedGeometry}
use Rattle.geometry.specs.Places.{first_bit, end_bit}
use Rattle.model.specs.Blocks.{alloc_bits}

header_bits : (b : List ℕ) → 4 ≤ length b → byte_bits (drop 4 b) ≡ drop 32 (byte_bits b)
header_bits [] h = absurd (omega arith)
header_bits (a ∷ []) h = absurd (omega arith)
header_bits (a ∷ b ∷ []) h = absurd (omega arith)
header_bits (a ∷ b ∷ c ∷ []) h = absurd (omega arith)
header_bits (a ∷ b ∷ c ∷ d ∷ r) h = refl

pub alloc_slice : (at end : ℕ) (b : List ℕ) → 4 ≤ length b → 32 ≤ at → at ≤ end → alloc_bits at end b ≡ slice at end (byte_bits b)
alloc_slice at end b h l k =
    let e : 32 + (at - 32) ≡ at = omega arith in
    let f : at + (end - at) ≡ end = omega arith in
    rw (header_bits b h, drop-drop, e) (sym (rw f at (drop-take at (end - at) (byte_bits b))))

pub first_high : (z : ℕ) → first_bit z ≤ 512
first_high z = grind (arith, nat_tests)

-- a zone's block: a sector of an accepted geometry, in which the zone's bits end at `end`
pub record ZoneBlock (g : Geometry) (b : List ℕ) (end : ℕ) : Type 0 where
  pub numbers : AcceptedGeometry g
  pub sized : length b ≡ g.sector
  pub ends : end ≡ end_bit g

module _ {g : Geometry} {b : List ℕ} {end : ℕ} (k : ZoneBlock g b end) where
  pub bits_left : (at : ℕ) → length (slice at end (byte_bits b)) ≡ end - at
  bits_left at = length-slice at end (byte_bits b) (omega (arith, length_byte_bits b, k.numbers.bits_in_block))

  -- the bits after a fragment
  pub bits_after : (at len : ℕ) → drop len (slice at end (byte_bits b)) ≡ slice (at + len) end (byte_bits b)
  bits_after at len = drop-drop len at (take end (byte_bits b))

  -- from the zone's first bit on it is all allocation bits
  pub alloc_all : (z start : ℕ) → start ≡ first_bit z → 32 ≤ start → start ≤ 512 → alloc_bits (first_bit z) (end_bit g) b ≡ slice start end (byte_bits b)
  alloc_all z start es l h =
      rw (← es, ← k.ends) (alloc_slice start end b (omega (arith, k.numbers.sector_low)) l (omega (arith, k.numbers.bits_low)))

  -- what is found at a place before the end; a fragment has bits, and lies within the zone
  module _ (at : ℕ) (h : at < end) where
    pub found_here : (r : Option FragmentRead) → r ≡ fragment_at b at end g.idlen g.cluster → Meaning (g.idlen - 1) g.cluster (slice at end (byte_bits b)) r
    found_here = found g.idlen g.cluster (slice at end (byte_bits b)) (omega (arith, bits_left at)) (omega (arith, k.numbers.idlen_low))

    pub fits_here : {f : FragmentRead} → Some f ≡ fragment_at b at end g.idlen g.cluster → (0 < f.len) × (at + f.len ≤ end)
    fits_here {f} e = let w = found_here (Some f) e in omega (arith, bits_left at)
