-- Pairs stored piece by piece: what is stored so far, with the rest stored after it, is the whole list stored; so a turn that
-- stores the first pairs of the rest leaves the same to be said of the others.
use mathlib.Core.Path.{◌≡◌, refl, sym, ap, ◌∙◌}
use mathlib.Core.Bool.{Bool, true, false, cond, false≢true}
use mathlib.Core.List.{List, [], ◌∷◌, ◌++◌}
use Prim.Native.Nat.{ℕ, suc, ◌+◌, ◌*◌, ◌≤◌}
use native.Mathlib.Nat.{add-zero, zero-add}
use native.Mathlib.Numerals.{add-one}
use native.Mathlib.Omega.{arith}
use lib.ListN.{length, drop, set, length-append}
use lib.Seq.{sets, length-sets, sets-eq}
use Rattle.model.specs.Chain.{Pair, pair, numbers_of}
use Rattle.model.proofs.Lists.{length_numbers, numbers_append}
use Rattle.walk.specs.HeldBy.{pair_if}

-- stored in one run, or in two
pub sets_append : (xs ys l : List ℕ) (i : ℕ) → sets l i (xs ++ ys) ≡ sets (sets l i xs) (i + length xs) ys
sets_append [] ys l i = ap (λ (k : ℕ). sets l k ys) (sym (add-zero i))
sets_append (x ∷ xs) ys l i =
    let e : suc i + length xs ≡ i + suc (length xs) = omega arith in
    sets_append xs ys (set l i x) (suc i) ∙ ap (λ (k : ℕ). sets (sets (set l i x) (suc i) xs) k ys) e

pub stored_append : (ps qs : List Pair) (l : List ℕ) (i : ℕ)
    → sets l i (numbers_of (ps ++ qs)) ≡ sets (sets l i (numbers_of ps)) (i + 2 * length ps) (numbers_of qs)
stored_append ps qs l i =
    ap (sets l i) (numbers_append ps qs) ∙ sets_append (numbers_of ps) (numbers_of qs) l i
    ∙ ap (λ (k : ℕ). sets (sets l i (numbers_of ps)) (i + k) (numbers_of qs)) (length_numbers ps)

-- numbers stored from the first entry on, and pairs: the entries past the last are untouched
pub stored_front : (ns l : List ℕ) → length ns ≤ length l → sets l 0 ns ≡ ns ++ drop (length ns) l
stored_front ns l h = sets-eq ns l 0 (omega arith) ∙ ap (λ (k : ℕ). ns ++ drop k l) (zero-add (length ns))

pub stored_first : (qs : List Pair) (l : List ℕ) → 2 * length qs ≤ length l → sets l 0 (numbers_of qs) ≡ numbers_of qs ++ drop (2 * length qs) l
stored_first qs l h = stored_front (numbers_of qs) l (omega (arith, length_numbers qs)) ∙ ap (λ (k : ℕ). numbers_of qs ++ drop k l) (length_numbers qs)

-- one pair stored if it is wanted
pub wanted_room : (b : Bool) (at n : ℕ) → b ≡ true → at + cond b 2 0 ≤ n → at + 2 ≤ n
wanted_room true at n e h = h
wanted_room false at n e h = absurd (false≢true e)

pub wanted_stored : (b : Bool) (l : List ℕ) (at x y : ℕ) → b ≡ true
    → (set (set l at x) (at + 1) y ≡ sets l at (cond b (x ∷ y ∷ []) [])) × (at + 2 ≡ at + cond b 2 0)
wanted_stored true l at x y e = (rw add-one, refl)
wanted_stored false l at x y e = absurd (false≢true e)

pub unwanted_stored : (b : Bool) (l : List ℕ) (at x y : ℕ) → b ≡ false → (l ≡ sets l at (cond b (x ∷ y ∷ []) [])) × (at ≡ at + cond b 2 0)
unwanted_stored true l at x y e = absurd (false≢true (sym e))
unwanted_stored false l at x y e = (refl, sym (add-zero at))

-- from entry `at` on: `whole` is to be stored, and from entry j on `rest`
pub record StoredSoFar (old new : List ℕ) (at j : ℕ) (whole rest : List Pair) : Type 0 where
  pub kept : length new ≡ length old
  pub next : j + 2 * length rest ≡ at + 2 * length whole
  pub same : sets new j (numbers_of rest) ≡ sets old at (numbers_of whole)

pub stored_starts : (l : List ℕ) (at : ℕ) {whole rest : List Pair} → rest ≡ whole → StoredSoFar l l at at whole rest
stored_starts l at e = record { kept = refl; next = ap (λ (r : List Pair). at + 2 * length r) e; same = ap (λ (r : List Pair). sets l at (numbers_of r)) e }

module _ {old new : List ℕ} {at j : ℕ} {whole rest : List Pair} (s : StoredSoFar old new at j whole rest) where
  pub stored_ends : rest ≡ [] → (new ≡ sets old at (numbers_of whole)) × (j ≡ at + 2 * length whole)
  stored_ends e =
      let n : length rest ≡ 0 = ap length e in
      (sym (ap (λ (r : List Pair). sets new j (numbers_of r)) e) ∙ s.same, omega (arith, s.next))

  module _ (some others : List Pair) (e : rest ≡ some ++ others) where
    pub stored_room : at + 2 * length whole ≤ length old → j + 2 * length some ≤ length new
    stored_room h = omega (arith, s.next, s.kept, ap length e ∙ length-append some others)

    pub stored_turn : {next : List ℕ} {k : ℕ} → next ≡ sets new j (numbers_of some) → k ≡ j + 2 * length some → StoredSoFar old next at k whole others
    stored_turn {next} {k} en ek = record {
      kept = ap length en ∙ length-sets new j (numbers_of some) ∙ s.kept;
      next = omega (arith, s.next, ap length e ∙ length-append some others);
      same =
          (λ i. sets (en i) (ek i) (numbers_of others)) ∙ sym (stored_append some others new j)
          ∙ sym (ap (λ (r : List Pair). sets new j (numbers_of r)) e) ∙ s.same;
    }

-- one pair more, if it is wanted: the first of the rest, or none of it
module _ {old new : List ℕ} {at j : ℕ} {whole rest : List Pair} (s : StoredSoFar old new at j whole rest) where
  pub piece_room : (b : Bool) (d n : ℕ) (others : List Pair)
      → rest ≡ pair_if b d n ++ others → at + 2 * length whole ≤ length old → j + cond b 2 0 ≤ length new
  piece_room true d n others e h = stored_room s (pair d n ∷ []) others e h
  piece_room false d n others e h = stored_room s [] others e h

  pub piece_stored : (b : Bool) (d n : ℕ) (others : List Pair)
      → rest ≡ pair_if b d n ++ others → {next : List ℕ} {k : ℕ}
      → next ≡ sets new j (cond b (d ∷ n ∷ []) []) → k ≡ j + cond b 2 0 → StoredSoFar old next at k whole others
  piece_stored true d n others e en ek = stored_turn s (pair d n ∷ []) others e en ek
  piece_stored false d n others e en ek = stored_turn s [] others e en ek
