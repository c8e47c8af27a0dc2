-- The lines of some zones as a list: of all zones, of one, and the zones that they lie in.
use mathlib.Core.Path.{◌≡◌, ap, ◌∙◌}
use mathlib.Core.List.{List, [], ◌∷◌, ◌++◌, map, append-nil}
use Prim.Native.Nat.{ℕ, zero, suc, ◌+◌, ◌-◌, ◌*◌, ◌^◌, ◌<◌, ◌≤◌}
use native.Mathlib.Nat.{sub-zero}
use native.Mathlib.Omega.{arith}
use lib.Dec.{leb}
use lib.ListN.{length, length-append, length-map}
use borrow.Author.Tests.{leb-true, leb-false}
use Rattle.std.specs.List.{AllByRecursion}
use Rattle.bits.proofs.Tests.{by_test}
use Rattle.geometry.specs.declared.Geometry.{Geometry}
use Rattle.model.specs.Chain.{Entry}
use Rattle.model.specs.Rules.{zone_block}
use Rattle.zone.specs.Lines.{entries_in}
use Rattle.walk.specs.declared.Line.{Line}
use Rattle.map.specs.Accepted.{ReadableFrom}
use Rattle.walk.specs.Remaining.{line_of, lines_in, lines_from}
use Rattle.walk.proofs.ZonesRead.{few_entries, zone_sound, reads_on}

-- each line lies in one of some zones
abbrev pub LieIn : ℕ → ℕ → List Line → Type 0
LieIn from to ls = AllByRecursion (λ l. (from ≤ l.zone) × (l.zone < to)) ls

module _ (g : Geometry) (m : List ℕ) where
  pub lines_of_all : (n : ℕ) → lines_from g m 0 (n - 0) ≡ lines_from g m 0 n
  lines_of_all n = ap (lines_from g m 0) (sub-zero n)

  pub lines_of_one : (z : ℕ) → lines_from g m z (z + 1 - z) ≡ lines_in g m z
  lines_of_one z =
      let e : z + 1 - z ≡ 1 = omega arith in
      ap (lines_from g m z) e ∙ append-nil (lines_in g m z)

  pub lines_lie : (from to z n : ℕ) → from ≤ z → z + n ≤ to → LieIn from to (lines_from g m z n)
  lines_lie from to z zero l h = tt
  lines_lie from to z (suc n) l h = go (entries_in g z (zone_block g m z)) (lines_lie from to (suc z) n (omega arith) (omega arith))
    where
      go : (es : List Entry) → LieIn from to (lines_from g m (suc z) n) → LieIn from to (map (line_of g z) es ++ lines_from g m (suc z) n)
      go [] k = k
      go (e ∷ es) k = ((omega arith, omega arith), go es k)

-- a zone that keeps the rules has few lines, and so have several
module _ {g : Geometry} {m : List ℕ} where
  pub few_in : {z : ℕ} → ReadableFrom m g z → z < g.zones → 3 * length (lines_in g m z) ≤ 2048
  few_in {z} a h = omega (arith, few_entries (zone_sound a z (omega arith) h), length-map (entries_in g z (zone_block g m z)) (line_of g z))

  pub few_from : {z : ℕ} → ReadableFrom m g z → (n : ℕ) → z + n ≤ g.zones → 3 * length (lines_from g m z n) ≤ 2048 * n
  few_from a zero h = omega arith
  few_from {z} a (suc n) h =
      omega (arith, few_in a (omega arith), few_from (reads_on a (suc z) (omega arith)) n (omega arith), length-append (lines_in g m z) (lines_from g m (suc z) n))

  -- what is left at the start
  pub few_left : {xs : List Line} {from to : ℕ} → ReadableFrom m g from → to ≤ g.zones → xs ≡ lines_from g m from (to - from) → length xs < 2 ^ 32
  few_left {xs} {from} {to} a h e =
      by_test (leb from to)
      (λ t. omega (arith, leb-true from to t, few_from a (to - from) (omega (arith, leb-true from to t)), ap length e, a.numbers.zones_high))
      (λ t. let n : to - from ≡ 0 = omega (arith, leb-false from to t) in omega (arith, ap length (e ∙ ap (lines_from g m from) n)))
