-- What a holder has of lines, one line at a time: the line's pair, if it is the holder's, and then what it has of the others. Of the lines of
-- some zones that is what it has in the zones. Each lemma takes the list as the iterator's contract tells it: `xs` is what was left, and
-- `ys` what is left after line `l`.
use mathlib.Core.Path.{◌≡◌, refl, ap, ap₂, ◌∙◌}
use mathlib.Core.Bool.{Bool, true, false, cond}
use mathlib.Core.List.{List, [], ◌∷◌, ◌++◌, map, append-nil}
use Prim.Native.Nat.{ℕ, zero, suc, ◌+◌, ◌-◌, ◌<◌, ◌≤◌}
use native.Mathlib.Nat.{sub-zero}
use native.Mathlib.Omega.{arith}
use Rattle.std.specs.List.{filter}
use lib.Dec.{eqb}
use lib.ListN.{length, length-map}
use Rattle.bits.proofs.Tests.{by_test}
use Rattle.geometry.specs.declared.Geometry.{Geometry}
use Rattle.model.specs.Chain.{Pair, Entry}
use Rattle.model.specs.Rules.{zone_block}
use Rattle.model.specs.Pieces.{to_disc}
use Rattle.zone.specs.Lines.{entries_in, holder_number}
use Rattle.walk.specs.declared.Walk.{Walk}
use Rattle.walk.specs.declared.Line.{Line}
use Rattle.walk.specs.declared.Step.{Step}
use Rattle.walk.specs.Remaining.{line_of, lines_in, lines_from, remaining, Starts, Advances}
use Rattle.walk.proofs.Remains.{none_remain}
use Rattle.walk.specs.HeldBy.{pair_if, line_pair, held_lines, held_by, in_disc_bits, held_in, held_from, held_between}

pub pair_count : (b : Bool) (d n : ℕ) → length (pair_if b d n) ≡ cond b 1 0
pair_count true d n = refl
pair_count false d n = refl

-- the lines of a zone, and of several
lines_append : (h : ℕ) (ks ls : List Line) → held_lines h (ks ++ ls) ≡ held_lines h ks ++ held_lines h ls
lines_append h [] ls = refl
lines_append h (k ∷ ks) ls =
    by_test (eqb k.holder h)
    (λ t. rw t (ap (λ (r : List Pair). record { start = k.start.0; len = k.len } ∷ r) (lines_append h ks ls)))
    (λ t. rw t (lines_append h ks ls))

zone_lines : (g : Geometry) (z h : ℕ) (es : List Entry) → held_lines h (map (line_of g z) es) ≡ in_disc_bits g z (held_by h es)
zone_lines g z h [] = refl
zone_lines g z h (e ∷ es) =
    by_test (eqb (holder_number e.holder) h)
    (λ t. rw t (ap (λ (r : List Pair). to_disc g z e.at ∷ r) (zone_lines g z h es)))
    (λ t. rw t (zone_lines g z h es))

pub held_lines_law : (g : Geometry) (h : ℕ) (m : List ℕ) (z n : ℕ) → held_lines h (lines_from g m z n) ≡ held_from g h m z n
held_lines_law g h m z zero = refl
held_lines_law g h m z (suc n) =
    lines_append h (lines_in g m z) (lines_from g m (suc z) n)
    ∙ ap₂ (λ (x y : List Pair). x ++ y) (zone_lines g z h (entries_in g z (zone_block g m z))) (held_lines_law g h m (suc z) n)

pub length_held : (g : Geometry) (z : ℕ) (qs : List Pair) → length (in_disc_bits g z qs) ≡ length qs
length_held g z qs = length-map qs (to_disc g z)

module _ (h : ℕ) where
  -- at the start
  pub held_some : {xs : List Line} (g : Geometry) (m : List ℕ) (from to : ℕ) → xs ≡ lines_from g m from (to - from) → held_lines h xs ≡ held_between g h m from to
  held_some g m from to e = ap (held_lines h) e ∙ held_lines_law g h m from (to - from)

  pub held_whole : {xs : List Line} (g : Geometry) (m : List ℕ) (to : ℕ) → xs ≡ lines_from g m 0 (to - 0) → held_lines h xs ≡ held_from g h m 0 to
  held_whole g m to e = held_some g m 0 to e ∙ ap (held_from g h m 0) (sub-zero to)

  pub held_zone : {xs : List Line} (g : Geometry) (m : List ℕ) (z : ℕ) → xs ≡ lines_from g m z (z + 1 - z) → held_lines h xs ≡ held_in g h m z
  held_zone g m z e =
      let n : z + 1 - z ≡ 1 = omega arith in
      held_some g m z (z + 1) e ∙ ap (held_from g h m z) n ∙ append-nil (held_in g h m z)

  -- at a line
  module _ {xs ys : List Line} {l : Line} (e : xs ≡ l ∷ ys) where
    pub held_line : held_lines h xs ≡ line_pair h l ++ held_lines h ys
    held_line = ap (held_lines h) e ∙ by_test (eqb l.holder h) (λ t. rw t) (λ t. rw t)

    pub held_count : length (held_lines h xs) ≡ cond (eqb l.holder h) 1 0 + length (held_lines h ys)
    held_count = ap length held_line ∙ by_test (eqb l.holder h) (λ t. rw t (omega arith)) (λ t. rw t (omega arith))

  -- counted by a filter
  pub length_wanted : (ls : List Line) → length (filter (λ l. eqb l.holder h) ls) ≡ length (held_lines h ls)
  length_wanted [] = refl
  length_wanted (l ∷ ls) =
      by_test (eqb l.holder h)
      (λ t. rw t (ap suc (length_wanted ls)))
      (λ t. rw t (length_wanted ls))

  pub counted_whole : {xs : List Line} (g : Geometry) (m : List ℕ) (to : ℕ) → xs ≡ lines_from g m 0 (to - 0)
      → length (filter (λ l. eqb l.holder h) xs) ≡ length (held_from g h m 0 to)
  counted_whole {xs} g m to e = length_wanted xs ∙ ap length (held_whole g m to e)

-- what remains for a walk
pub held_none : (h : ℕ) (m : List ℕ) (g : Geometry) (to : ℕ) (w : Walk) → to ≤ w.zone → held_lines h (remaining m g to w) ≡ []
held_none h m g to w k = ap (held_lines h) (none_remain m g to w k)

module _ (h : ℕ) {m : List ℕ} {g : Geometry} where
  pub held_starts : {z : ℕ} {w : Walk} → Starts m g z w → (to : ℕ) → to ≤ g.zones → held_lines h (remaining m g to w) ≡ held_from g h m z (to - z)
  held_starts {z} s to u = ap (held_lines h) (s.all to u) ∙ held_lines_law g h m z (to - z)

  module _ {w : Walk} {r : Step} (a : Advances m g w r) (to : ℕ) (u : to ≤ g.zones) (k : w.zone < to) where
    abbrev wanted : Bool
    wanted = eqb r.line.holder h

    abbrev this : List Pair
    this = line_pair h r.line

    abbrev others : List Pair
    others = held_lines h (remaining m g to r.after)

    pub held_step : held_lines h (remaining m g to w) ≡ this ++ others
    held_step = ap (held_lines h) (a.passed to u k) ∙ by_test wanted (λ t. rw t) (λ t. rw t)
