-- The positions at which two lists differ, part after part: those of the first parts, and then those of the parts after them, counted
-- on. So positions that are stored part by part are those of the whole lists, stored at once. There are at most as many as there are
-- bytes.
use mathlib.Core.Path.{◌≡◌, refl, sym, ap, ◌∙◌, subst}
use mathlib.Core.Bool.{true, false, cond, not}
use mathlib.Core.List.{List, [], ◌∷◌, ◌++◌}
use Prim.Native.Nat.{ℕ, suc, ◌+◌, ◌<◌, ◌≤◌}
use native.Mathlib.Nat.{add-zero}
use native.Mathlib.Numerals.{add-one}
use native.Mathlib.Omega.{arith}
use lib.Dec.{eqb}
use lib.ListN.{length, get_or, take, length-append}
use lib.Seq.{sets, take_all, take-suc, length-take-le}
use Rattle.bits.proofs.Tests.{by_test}
use Rattle.listing.proofs.Stored.{sets_append}
use Rattle.mended.specs.Mended.{differ_from}

pub differ_append : (i : ℕ) (a b c d : List ℕ) → length a ≡ length b → differ_from i (a ++ c) (b ++ d) ≡ differ_from i a b ++ differ_from (i + length a) c d
differ_append i [] [] c d h = ap (λ (k : ℕ). differ_from k c d) (sym (add-zero i))
differ_append i [] (y ∷ b) c d h = absurd (omega arith)
differ_append i (x ∷ a) [] c d h = absurd (omega arith)
differ_append i (x ∷ a) (y ∷ b) c d h =
    let e : suc i + length a ≡ i + suc (length a) = omega arith in
    let rest : differ_from (suc i) (a ++ c) (b ++ d) ≡ differ_from (suc i) a b ++ differ_from (i + suc (length a)) c d =
    differ_append (suc i) a b c d (omega arith) ∙ ap (λ (k : ℕ). differ_from (suc i) a b ++ differ_from k c d) e in
    by_test (eqb x y) (λ t. rw t rest) (λ t. rw t (ap (λ (r : List ℕ). i ∷ r) rest))

pub differ_few : (i : ℕ) (a b : List ℕ) → length (differ_from i a b) ≤ length a
differ_few i [] b = omega arith
differ_few i (x ∷ a) [] = omega arith
differ_few i (x ∷ a) (y ∷ b) = by_test (eqb x y) (λ t. rw t (omega (arith, differ_few (suc i) a b))) (λ t. rw t (omega (arith, differ_few (suc i) a b)))

-- the positions of two parts stored in a list from entry n on, and the entry after them
pub record Listed (at : ℕ) (a b old new : List ℕ) (n k : ℕ) : Type 0 where
  pub next : k ≡ n + length (differ_from at a b)
  pub stored : new ≡ sets old n (differ_from at a b)

pub listed_starts : (at : ℕ) (l : List ℕ) (n : ℕ) → Listed at [] [] l l n n
listed_starts at l n = record { next = sym (add-zero n); stored = refl }

pub listed_turn : {at n k : ℕ} {a b old new : List ℕ} → Listed at a b old new n k → length a ≡ length b → (c d : List ℕ) (j : ℕ) → j ≡ at + length a
    → {after : List ℕ} {i : ℕ} → after ≡ sets new k (differ_from j c d) → i ≡ k + length (differ_from j c d) → Listed at (a ++ c) (b ++ d) old after n i
listed_turn {at} {n} {k} {a} {b} {old} {new} s h c d j ej {after} {i} ea ei =
    let ps = differ_from at a b in
    let qs = differ_from j c d in
    let all : differ_from at (a ++ c) (b ++ d) ≡ ps ++ qs = differ_append at a b c d h ∙ ap (λ (x : ℕ). ps ++ differ_from x c d) (sym ej) in
    record {
      next = omega (arith, s.next, ap length all ∙ length-append ps qs);
      stored = ea ∙ (λ x. sets (s.stored x) (s.next x) qs) ∙ sym (sets_append ps qs old n) ∙ ap (sets old n) (sym all);
    }

-- of the first i bytes: few of them, one byte more, and all
module _ {at n k i : ℕ} (a b : List ℕ) {old new : List ℕ} (s : Listed at (take i a) (take i b) old new n k) (h : length a ≡ length b) where
  pub listed_few : i ≤ length a → k ≤ n + i
  listed_few l = omega (arith, s.next, differ_few at (take i a) (take i b), length-take-le i a l)

  byte_turn : i < length a → {after : List ℕ} {j : ℕ} → after ≡ sets new k (cond (not (eqb (get_or a i 0) (get_or b i 0))) ((at + i) ∷ []) [])
      → j ≡ k + cond (not (eqb (get_or a i 0) (get_or b i 0))) 1 0 → Listed at (take (i + 1) a) (take (i + 1) b) old after n j
  byte_turn l ea ej =
      let x = get_or a i 0 in
      let y = get_or b i 0 in
      let one : differ_from (at + i) (x ∷ []) (y ∷ []) ≡ cond (not (eqb x y)) ((at + i) ∷ []) [] = by_test (eqb x y) (λ t. rw t) (λ t. rw t) in
      let count : length (differ_from (at + i) (x ∷ []) (y ∷ [])) ≡ cond (not (eqb x y)) 1 0 = by_test (eqb x y) (λ t. rw t) (λ t. rw t) in
      let la : length (take i a) ≡ i = length-take-le i a (omega arith) in
      let lb : length (take i b) ≡ i = length-take-le i b (omega arith) in
      rw (add-one, take-suc a i 0 l, take-suc b i 0 (omega arith))
      (listed_turn s (la ∙ sym lb) (x ∷ []) (y ∷ []) (at + i) (ap (λ (m : ℕ). at + m) (sym la)) (ea ∙ ap (sets new k) (sym one)) (ej ∙ ap (λ (m : ℕ). k + m) (sym count)))

  module _ (l : i < length a) where
    pub byte_kept : eqb (get_or a i 0) (get_or b i 0) ≡ true → Listed at (take (i + 1) a) (take (i + 1) b) old new n k
    byte_kept t = byte_turn l (rw t refl) (rw t (sym (add-zero k)))

    pub byte_put : eqb (get_or a i 0) (get_or b i 0) ≡ false → {after : List ℕ} {j : ℕ} → after ≡ sets new k ((at + i) ∷ []) → j ≡ k + 1
        → Listed at (take (i + 1) a) (take (i + 1) b) old after n j
    byte_put t ea ej = byte_turn l (rw t ea) (rw t ej)

  pub listed_whole : length a ≤ i → Listed at a b old new n k
  listed_whole l = subst (λ (x : Type 0). x) (λ j. Listed at (take_all i a l j) (take_all i b (omega arith) j) old new n k) s
