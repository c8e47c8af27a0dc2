-- The positions of the bytes that mending changes, zone after zone: the bytes before a zone's block are those of the zones before it, so
-- the positions in it follow theirs. There are at most as many as bytes, which are few.
use mathlib.Core.Path.{◌≡◌, sym, ap, ◌∙◌, subst}
use mathlib.Core.List.{List, ◌++◌}
use Prim.Native.Nat.{ℕ, ◌+◌, ◌-◌, ◌*◌, ◌^◌, ◌<◌, ◌≤◌}
use native.Mathlib.Nat.{mul-le-mul_right, zero-mul, zero-add}
use native.Mathlib.Omega.{arith}
use lib.ListN.{length, take}
use lib.Seq.{sets, take-add, length-take-le}
use Rattle.bits.specs.Bits.{Bytes}
use Rattle.geometry.specs.declared.Geometry.{Geometry}
use Rattle.geometry.specs.Accepted.{AcceptedGeometry}
use Rattle.geometry.proofs.DiscBits.{map_small}
use Rattle.model.specs.Rules.{zone_block}
use Rattle.model.proofs.ByPlace.{zone_end_law, block_length}
use Rattle.map.specs.Accepted.{MendableMap}
use Rattle.mended.specs.Mended.{mended, differ_from, changed_at}
use Rattle.mend.proofs.Differences.{Listed, listed_starts, listed_turn, listed_few, listed_whole}
use Rattle.mend.proofs.ZonesMended.{mended_zones}
use Rattle.mend.proofs.ZoneMended.{block_ends}

-- the positions in the zones below z are listed, n of them
abbrev pub ListedBelow : Geometry → List ℕ → List ℕ → List ℕ → ℕ → ℕ → Type 0
ListedBelow g m old new n z = Listed 0 (take (z * g.sector) m) (take (z * g.sector) (mended m)) old new 0 n

pub positions_start : (g : Geometry) (m l : List ℕ) → ListedBelow g m l l 0 0
positions_start g m l = rw (zero-mul g.sector) (listed_starts 0 l 0)

-- every position of the map is a 32-bit number
pub block_low : {g : Geometry} {z : ℕ} → AcceptedGeometry g → z < g.zones → z * g.sector + g.sector < 2 ^ 32
block_low {g} {z} ok h = omega (arith, zone_end_law g.zones g.sector z h, map_small g ok)

module _ {m : List ℕ} {g : Geometry} (a : MendableMap m g) (bytes : Bytes m) where
  same_size : length m ≡ length (mended m)
  same_size = a.readable.sized ∙ sym (mended_zones a bytes).long

  module _ {old new : List ℕ} {n z : ℕ} (s : ListedBelow g m old new n z) where
    module _ (h : z < g.zones) {b : List ℕ} (eb : b ≡ zone_block g (mended m) z) where
      pub differing_asks : (length (zone_block g m z) ≡ length b) × (z * g.sector + length (zone_block g m z) < 2 ^ 32) × (n ≤ z * g.sector)
      differing_asks =
          let sized = block_length m g.zones g.sector a.readable.sized z h in
          let few = listed_few {i = z * g.sector} m (mended m) s same_size (omega (arith, block_ends a.readable h)) in (
            sized ∙ sym (ap length eb ∙ block_length (mended m) g.zones g.sector (mended_zones a bytes).long z h),
            omega (arith, sized, block_low a.readable.numbers h),
            omega arith,
          )

      pub positions_turn : {after : List ℕ} {k : ℕ} → after ≡ sets new n (differ_from (z * g.sector) (zone_block g m z) b)
          → k ≡ n + length (differ_from (z * g.sector) (zone_block g m z) b) → ListedBelow g m old after k (z + 1)
      positions_turn {after} {k} ea ek =
          let i = z * g.sector in
          let size = z * g.sector + g.sector - z * g.sector in
          let next : i + size ≡ (z + 1) * g.sector = omega arith in
          let cut : (l : List ℕ) → take i l ++ zone_block g l z ≡ take ((z + 1) * g.sector) l = λ l. sym (take-add i size l) ∙ ap (λ (x : ℕ). take x l) next in
          let la : length (take i m) ≡ i = length-take-le i m (omega (arith, block_ends a.readable h)) in
          let lb : length (take i (mended m)) ≡ i = length-take-le i (mended m) (omega (arith, block_ends a.readable h, same_size)) in
          subst (λ (x : Type 0). x) (λ y. Listed 0 (cut m y) ((ap (λ (x : List ℕ). take i (mended m) ++ x) eb ∙ cut (mended m)) y) old after 0 k)
          (listed_turn s (la ∙ sym lb) (zone_block g m z) b i (sym (zero-add (length (take i m)) ∙ la)) ea ek)

    pub positions_end : g.zones ≤ z → (n ≡ length (changed_at m)) × (new ≡ sets old 0 (changed_at m))
    positions_end l =
        let w = listed_whole {i = z * g.sector} m (mended m) s same_size (omega (arith, mul-le-mul_right g.sector l, a.readable.sized)) in
        (w.next ∙ zero-add (length (changed_at m)), w.stored)
