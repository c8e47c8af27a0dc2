-- A `for` over the parts of a list with their numbers: each is that of its zone, and in the end all zones have had theirs.
use mathlib.Core.Path.{◌≡◌, ap, ◌∙◌}
use mathlib.Core.List.{List}
use Prim.Native.Nat.{ℕ, ◌+◌, ◌-◌, ◌<◌}
use native.Mathlib.Nat.{zero-add}
use native.Mathlib.Omega.{arith}
use lib.ListN.{length}
use Rattle.std.specs.Prelude.{Option, Some, None}
use Rattle.std.specs.Borrow.{Bor}
use Rattle.std.specs.List.{enumerate_from}
use Rattle.std.specs.Iterator.{YieldsFirstRef, Yields}
use Rattle.std.specs.Iterator.Adapters.{enumerate_steps}
use Rattle.std.specs.declared.iter.Enumerate.{Enumerate}
use Rattle.std.proofs.lemmas.List.FromFn.{length-enumerate_from, get_or-enumerate_from, get_or-map-range_with_len}
use Rattle.std.proofs.lemmas.Iterator.{YieldsList}
use Rattle.std.proofs.lemmas.Iterator.Consumers.{YieldsList-from_first, YieldsList-from_enumerate, YieldsList-turn, YieldsList-end}
use Rattle.geometry.specs.declared.Geometry.{Geometry}
use Rattle.writer.specs.declared.iter.Parts.{Parts}
use Rattle.writer.specs.Parts.{zone_part, zone_parts}
use Rattle.writer.specs.PartsLeft.{parts_left}
use Rattle.writer.proofs.PartPairs.{length_parts}

-- the parts as the loop gets them
pub record Parted (g : Geometry) (list : List ℕ) (s : Enumerate Parts) : Type 0 where
  pub left : parts_left s.iter ≡ zone_parts g list 0
  pub first : s.count ≡ 0

pub parted : (g : Geometry) (list : List ℕ) {s items : Enumerate Parts} {ps : Parts} → s ≡ items → items.iter ≡ ps → items.count ≡ 0 → parts_left ps ≡ zone_parts g list 0 → Parted g list s
parted g list gives source first left = record { left = ap (λ x. parts_left x.iter) gives ∙ ap parts_left source ∙ left; first = ap (λ x. x.count) gives ∙ first }

module _ {g : Geometry} {list : List ℕ} {s : Enumerate Parts} (p : Parted g list s) where
  pub few_parts : s.count + length (parts_left s.iter) ≡ g.zones
  few_parts = omega (arith, p.first, ap length p.left, length_parts g list)

  road : YieldsList (enumerate_steps (YieldsFirstRef parts_left)) (λ q. (q.0, q.1.now)) s (enumerate_from 0 (zone_parts g list 0))
  road = YieldsList-from_enumerate {v = λ (x : Bor (List ℕ)). x.now} (YieldsList-from_first (λ (x : Bor (List ℕ)). x.now) parts_left _ p.left) p.first

  module _ (xs : List (ℕ × Bor (List ℕ))) (t : Enumerate Parts) (y : Yields (enumerate_steps (YieldsFirstRef parts_left)) s xs t) (r : Option (ℕ × Bor (List ℕ))) (u : Enumerate Parts)
      (steps : enumerate_steps (YieldsFirstRef parts_left) t r u) where
    pub part_turn : (z : ℕ) (part : Bor (List ℕ)) → r ≡ Some (z, part) → (z ≡ length xs) × (z < g.zones) × (part.now ≡ zone_part g list z)
    part_turn z part is =
        let i = length xs in
        let turn = YieldsList-turn road xs t y r u (z, part) is steps in
        let k : i < g.zones = omega (arith, turn.0, length-enumerate_from 0 (zone_parts g list 0), length_parts g list) in
        let same = turn.1 ∙ get_or-enumerate_from 0 (zone_parts g list 0) i (z, part.now) (omega (arith, k, length_parts g list)) in
        let ez : z ≡ i = ap (λ q. q.0) same ∙ zero-add i in
        (ez, omega (arith, ez), ap (λ q. q.1) same ∙ get_or-map-range_with_len (zone_part g list) 0 (g.zones - 0) i z part.now (omega arith) (omega (arith, ez)))

    pub parts_end : r ≡ None → length xs ≡ g.zones
    parts_end is = (YieldsList-end road xs t y r u is steps).1 ∙ length-enumerate_from 0 (zone_parts g list 0) ∙ length_parts g list
