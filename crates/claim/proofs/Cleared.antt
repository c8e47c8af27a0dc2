-- The bits of a window's ids, cleared line by line: a bit so far, and that the id has none of the lines that remain, is the bit at the start, and
-- that the id has nothing in all zones.
use mathlib.Core.Path.{◌≡◌, sym, ap, ◌∙◌, subst}
use mathlib.Core.Bool.{Bool, true, false, ◌&&◌}
use mathlib.Core.List.{List, [], ◌∷◌, ◌++◌}
use Prim.Native.Nat.{ℕ, ◌+◌, ◌-◌, ◌*◌, ◌<◌, ◌≤◌}
use native.Mathlib.Omega.{arith}
use lib.Dec.{eqb, ltb, leb}
use lib.ListN.{length, get_or}
use lib.Seq.{get_or-set_same, get_or-set_other}
use borrow.Author.Tests.{eqb-true, eqb-false, le-leb, lt-ltb, leb-true, ltb-true}
use Rattle.bits.specs.Bits.{byte_bits}
use Rattle.bits.proofs.Tests.{by_test, both, and_with_true, and_with_false}
use Rattle.bits.proofs.Bytes.{length_byte_bits}
use Rattle.geometry.specs.declared.Geometry.{Geometry}
use Rattle.model.specs.Chain.{Pair}
use Rattle.walk.specs.declared.Line.{Line}
use Rattle.walk.specs.Remaining.{lines_from}
use Rattle.walk.specs.HeldBy.{held_lines, held_from, pair_if}
use Rattle.walk.proofs.HeldLines.{held_whole, held_line}
use Rattle.edits.specs.Judge.{is_empty}
use Rattle.claim.specs.Unused.{cleared_bit, ClearedIn}

pub in_window : (from to id : ℕ) → leb from id && ltb id to ≡ true → (from ≤ id) × (id < to)
in_window from to id e = let b = both (leb from id) (ltb id to) e in (leb-true from id b.0, ltb-true id to b.1)

-- one line: its holder's bit is cleared
module _ (from to id h : ℕ) (low : from ≤ id) (high : id < to) (bits : List Bool) (room : to ≤ from + length bits) where
  same_bit : eqb h id ≡ true → get_or (cleared_bit from to h bits) (id - from) false ≡ false
  same_bit t =
      subst (λ (x : ℕ). get_or (cleared_bit from to x bits) (id - from) false ≡ false) (sym (eqb-true h id t))
      (simp (le-leb from id low, lt-ltb id to high) (get_or-set_same bits (id - from) false false (omega arith)))

  other_bit : eqb h id ≡ false → get_or (cleared_bit from to h bits) (id - from) false ≡ get_or bits (id - from) false
  other_bit t =
      by_test (leb from h && ltb h to)
      (λ u. rw u (get_or-set_other bits (h - from) (id - from) false false (λ e. eqb-false h id t (omega (arith, in_window from to h u)))))
      (λ u. rw u)

  line_bit : (d n : ℕ) (rest : List Pair) → get_or (cleared_bit from to h bits) (id - from) false && is_empty rest ≡ get_or bits (id - from) false && is_empty (pair_if (eqb h id) d n ++ rest)
  line_bit d n rest =
      by_test (eqb h id)
      (λ t. rw (same_bit t, t) (sym (and_with_false (get_or bits (id - from) false))))
      (λ t. rw (other_bit t, t))

-- the lines that remain
abbrev pub ClearedSoFar : (ℕ → List Pair) → List Line → ℕ → ℕ → List ℕ → List ℕ → Type 0
ClearedSoFar held rest from to old new =
    (id : ℕ) → from ≤ id → id < to → get_or (byte_bits new) (id - from) false && is_empty (held_lines id rest) ≡ get_or (byte_bits old) (id - from) false && is_empty (held id)

pub none_cleared : {xs : List Line} (g : Geometry) (m : List ℕ) (from to : ℕ) (old : List ℕ) → xs ≡ lines_from g m 0 (g.zones - 0)
    → ClearedSoFar (λ id. held_from g id m 0 g.zones) xs from to old old
none_cleared g m from to old e id l h = ap (λ (qs : List Pair). get_or (byte_bits old) (id - from) false && is_empty qs) (held_whole id g m g.zones e)

module _ (held : ℕ → List Pair) (from to : ℕ) (old bytes : List ℕ) {xs : List Line} where
  pub line_cleared : {ys : List Line} {k : Line} (next : List ℕ) → xs ≡ k ∷ ys → to ≤ from + length bytes * 8 → byte_bits next ≡ cleared_bit from to k.holder (byte_bits bytes)
      → ClearedSoFar held xs from to old bytes → ClearedSoFar held ys from to old next
  line_cleared {ys} {k} next e room b so id l h =
      let rest = held_lines id ys in
      ap (λ (x : List Bool). get_or x (id - from) false && is_empty rest) b
      ∙ line_bit from to id k.holder l h (byte_bits bytes) (omega (arith, length_byte_bits bytes)) k.start.0 k.len rest
      ∙ ap (λ (qs : List Pair). get_or (byte_bits bytes) (id - from) false && is_empty qs) (sym (held_line id e))
      ∙ so id l h

  pub all_cleared : xs ≡ [] → ClearedSoFar held xs from to old bytes → ClearedIn held from to old bytes
  all_cleared e so id l h =
      sym (and_with_true (get_or (byte_bits bytes) (id - from) false))
      ∙ ap (λ (ls : List Line). get_or (byte_bits bytes) (id - from) false && is_empty (held_lines id ls)) (sym e)
      ∙ so id l h
