-- The column sums of a list, taken a word at a time from the last one down, and the column check that comes of them.
use mathlib.Core.Path.{◌≡◌, refl, sym, ap, ◌∙◌}
use mathlib.Core.List.{List, [], ◌∷◌, ◌++◌}
use Prim.Native.Nat.{ℕ, ◌+◌, ◌*◌, ◌/◌, ◌%◌, ◌<◌, ◌≤◌}
use native.Mathlib.Omega.{arith}
use lib.ListN.{length, get_or, take, drop, length-append, length-drop, take-append-drop}
use lib.Seq.{take_all, take_at, drop_at, drop-append-add}
use Rattle.std.proofs.lemmas.List.{append_assoc}
use Rattle.checks.specs.declared.Columns.{Columns}
use Rattle.checks.specs.Columns.{no_sums, added, columns, fold_columns, column_check}

-- the carry is taken off the first three columns
pub record CarryTaken (k : Columns) : Type 0 where
  pub below0 : k.v0 < 256
  pub below1 : k.v1 < 256
  pub below2 : k.v2 < 256

pub columns_taken : (s : List ℕ) → CarryTaken (columns s)
unfolding columns
columns_taken [] = omega arith
columns_taken (a ∷ []) = omega arith
columns_taken (a ∷ b ∷ []) = omega arith
columns_taken (a ∷ b ∷ c ∷ []) = omega arith
columns_taken (a ∷ b ∷ c ∷ d ∷ s) = omega arith

columns_short : (s : List ℕ) → length s < 4 → columns s ≡ no_sums
unfolding columns
columns_short [] h = refl
columns_short (a ∷ []) h = refl
columns_short (a ∷ b ∷ []) h = refl
columns_short (a ∷ b ∷ c ∷ []) h = refl
columns_short (a ∷ b ∷ c ∷ d ∷ s) h = absurd (omega arith)

-- a word before others
columns_step : (w s : List ℕ) → length w ≡ 4 → columns (w ++ s) ≡ added (columns s) (get_or w 0 0) (get_or w 1 0) (get_or w 2 0) (get_or w 3 0)
unfolding columns
columns_step [] s h = absurd (omega arith)
columns_step (a ∷ []) s h = absurd (omega arith)
columns_step (a ∷ b ∷ []) s h = absurd (omega arith)
columns_step (a ∷ b ∷ c ∷ []) s h = absurd (omega arith)
columns_step (a ∷ b ∷ c ∷ d ∷ []) s h = refl
columns_step (a ∷ b ∷ c ∷ d ∷ e ∷ w) s h = absurd (omega arith)

-- word 0, whose first byte counts as 0
columns_first : (s first : List ℕ) → 4 ≤ length s → first ≡ take 4 s
    → columns (0 ∷ drop 1 s) ≡ added (columns (drop 4 s)) 0 (get_or first 1 0) (get_or first 2 0) (get_or first 3 0)
unfolding columns
columns_first [] first h e = absurd (omega arith)
columns_first (a ∷ []) first h e = absurd (omega arith)
columns_first (a ∷ b ∷ []) first h e = absurd (omega arith)
columns_first (a ∷ b ∷ c ∷ []) first h e = absurd (omega arith)
columns_first (a ∷ b ∷ c ∷ d ∷ s) first h e = rw e

-- what the loop keeps: s begins with the bytes ahead, and k has the sums of the words after theirs, small enough for the next word
pub record Summed (s ahead : List ℕ) (k : Columns) : Type 0 where
  pub taken : CarryTaken k
  pub last : k.v3 < 1024
  pub front : ahead ≡ take (length ahead) s
  pub sums : k ≡ columns (drop (length ahead / 4 * 4) s)

pub summed_start : (s ahead : List ℕ) (k : Columns) → ahead ≡ s → k ≡ no_sums → Summed s ahead k
summed_start s ahead k e g =
    let few = columns_short (drop (length s / 4 * 4) s) (omega (arith, length-drop (length s / 4 * 4) s)) in
    rw (e, g) (record { taken = omega arith; last = omega arith; front = sym (take_all (length s) s (omega arith)); sums = sym few })

-- what stands before a word and after it
cut_out : (s front word others : List ℕ) → s ≡ front ++ (word ++ others) → length word ≡ 4
    → (front ≡ take (length front) s) × (drop (length front) s ≡ word ++ others) × (drop (length front + 4) s ≡ others)
cut_out s front word others e h =
    rw e (
      sym (take_at front (word ++ others) (length front) refl),
      drop_at front (word ++ others) (length front) refl,
      drop-append-add front (word ++ others) 4 ∙ drop_at word others 4 h,
    )

-- the last word ahead, before fewer than four bytes
pub summed_turn : (s ahead word after ahead2 : List ℕ) (k k2 : Columns)
    → get_or word 0 0 < 256 → get_or word 1 0 < 256 → get_or word 2 0 < 256 → get_or word 3 0 < 256 → Summed s ahead k
    → ahead ≡ (ahead2 ++ word) ++ after → length word ≡ 4 → length after ≡ length ahead % 4
    → k2 ≡ added k (get_or word 0 0) (get_or word 1 0) (get_or word 2 0) (get_or word 3 0)
    → Summed s ahead2 k2
summed_turn s ahead word after ahead2 k k2 h0 h1 h2 h3 g e lw la e2 =
    let past = drop (length ahead) s in
    let whole : s ≡ ahead2 ++ (word ++ (after ++ past)) =
    sym (take-append-drop (length ahead) s) ∙ ap (λ (x : List ℕ). x ++ past) (sym g.front ∙ e) ∙ simp append_assoc in
    let q = cut_out s ahead2 word (after ++ past) whole lw in
    let l : length ahead ≡ length ahead2 + 4 + length after = omega (arith, ap length e, length-append (ahead2 ++ word) after, length-append ahead2 word) in
    let this : length ahead2 / 4 * 4 ≡ length ahead2 = omega arith in
    let before : length ahead / 4 * 4 ≡ length ahead2 + 4 = omega arith in
    let sums : k ≡ columns (after ++ past) = rw (before, q.2) at g.sums in
    record {
      taken = rw e2 (omega arith);
      last = rw e2 (omega (arith, g.last));
      front = q.0;
      sums = rw (this, q.1, columns_step word (after ++ past) lw) (rw sums at e2);
    }

pub column_end : (s first ahead : List ℕ) (k k2 : Columns) → 4 ≤ length s → length ahead < 4 → Summed (drop 4 s) ahead k → first ≡ take 4 s
    → k2 ≡ added k 0 (get_or first 1 0) (get_or first 2 0) (get_or first 3 0) → fold_columns k2 ≡ column_check s
unfolding column_check
column_end s first ahead k k2 h few g f e =
    let z : length ahead / 4 * 4 ≡ 0 = omega arith in
    let d : k ≡ columns (drop 4 s) = rw z at g.sums in
    let q : k2 ≡ columns (0 ∷ drop 1 s) = cc (columns_first s first h f) in
    ap fold_columns q

pub column_short : (s : List ℕ) → length s < 4 → 0 ≡ column_check s
unfolding column_check
column_short s h = ap fold_columns (sym (columns_short (0 ∷ drop 1 s) (omega (arith, length-drop 1 s))))
