-- A zone's bits in its block and on the disc: the two counts differ by z*Z - 512 throughout, so a zone's pieces go from one
-- to the other and back, and lie in their zone.
use mathlib.Core.Path.{◌≡◌, refl, subst}
use mathlib.Core.List.{List, [], ◌∷◌, map}
use Prim.Native.Nat.{ℕ, zero, suc, ◌+◌, ◌-◌, ◌*◌, ◌≤◌}
use native.Mathlib.Nat.{div-mul-le_self}
use native.Mathlib.Omega.{arith}
use lib.Dec.{eqb, eqb-suc-zero}
use lib.ListN.{length}
use borrow.Author.Tests.{eqb-true, eq-eqb}
use Rattle.bits.proofs.Tests.{by_test}
use Rattle.geometry.specs.declared.Geometry.{Geometry}
use Rattle.geometry.specs.Accepted.{AcceptedGeometry}
use Rattle.geometry.specs.Places.{first_bit, end_bit, disc_bit, zone_of, zone_from, zone_end}
use Rattle.geometry.proofs.DiscBits.{first_low, from_zero_on, zone_of_disc}
use Rattle.model.specs.Pieces.{Piece, piece_to_disc}
use Rattle.model.proofs.ChainDrawn.{Lies}
use Rattle.model.proofs.ZoneDrawn.{lies_le}
use Rattle.edits.proofs.Kept.{All}
use Rattle.edits.specs.Written.{to_block}
use Rattle.edits.proofs.BlockBits.{BitsInBlock}

-- the zone that a piece starts in
abbrev pub zone_of_piece : Geometry → Piece → ℕ
zone_of_piece g p = zone_of g p.at.start

pub zone_start : (g : Geometry) (z : ℕ) (p : Piece) → zone_of_piece g p ≡ z → z * g.bits ≤ p.at.start + 480
zone_start g z p e = subst (λ (i : ℕ). i * g.bits ≤ p.at.start + 480) e (div-mul-le_self (p.at.start + 480) g.bits)

-- a zone's pieces to block bits and back
pub there_and_back : (g : Geometry) (z : ℕ) (l : List Piece) → All (λ p. eqb (zone_of_piece g p) z) l → map (piece_to_disc g z) (map (to_block g z) l) ≡ l
there_and_back g z [] h = refl
there_and_back g z (p ∷ ps) h =
    let k = zone_start g z p (eqb-true (zone_of_piece g p) z h.0) in
    let e : z * g.bits + (p.at.start + 512 - z * g.bits) - 512 ≡ p.at.start = omega arith in
    λ i. (record { at = record { start = e i; len = p.at.len }; owner = p.owner }) ∷ there_and_back g z ps h.1 i

module _ (g : Geometry) (ok : AcceptedGeometry g) (z : ℕ) where
  -- the ends of a zone, by both counts
  pub zone_low : 512 ≤ z * g.bits + first_bit z
  zone_low = from_zero_on g ok z (first_bit z) (omega arith)

  pub zone_end_law : zone_end g z + 512 ≡ z * g.bits + end_bit g
  zone_end_law = omega (arith, ok.bits_low)

  pub first_high : first_bit z ≤ end_bit g
  first_high = by_test (eqb z 0) (λ t. simp t (omega (arith, ok.bits_low))) (λ t. simp t (omega arith))

  -- where its bits lie in its block
  pub zone_bits : (b : List ℕ) → length b ≡ g.sector → BitsInBlock g.idlen (first_bit z) (end_bit g) b
  zone_bits b e = record {
    ids = omega (arith, ok.idlen_low);
    low = first_low z;
    ordered = first_high;
    links = omega (arith, ok.bits_in_block, ok.links_reach);
    room = omega (arith, ok.bits_in_block);
  }

  -- pieces in block bits to the disc and back
  pub block_back : (a : ℕ) (l : List Piece) → first_bit z ≤ a → Lies a (end_bit g) l → map (to_block g z) (map (piece_to_disc g z) l) ≡ l
  block_back a [] h y = refl
  block_back a (p ∷ ps) h y =
      let e : z * g.bits + p.at.start - 512 + 512 - z * g.bits ≡ p.at.start = omega (arith, zone_low) in
      λ i. (record { at = record { start = e i; len = p.at.len }; owner = p.owner }) ∷ block_back (p.at.start + p.at.len) ps (omega arith) y.2 i

  pub disc_zone : (a : ℕ) (l : List Piece) → first_bit z ≤ a → Lies a (end_bit g) l → All (λ p. eqb (zone_of_piece g p) z) (map (piece_to_disc g z) l)
  disc_zone a [] h y = tt
  disc_zone a (p ∷ ps) h y =
      let k = lies_le (p.at.start + p.at.len) (end_bit g) ps y.2 in
      (eq-eqb (zone_of g (disc_bit g z p.at.start)) z (zone_of_disc g ok z p.at.start (omega arith) (omega arith)), disc_zone (p.at.start + p.at.len) ps (omega arith) y.2)

pub zone_from_law : (g : Geometry) → AcceptedGeometry g → (z : ℕ) → zone_from g z + 512 ≡ z * g.bits + first_bit z
zone_from_law g ok zero = omega arith
zone_from_law g ok (suc z) = simp (eqb-suc-zero z) (omega (arith, ok.bits_low))
