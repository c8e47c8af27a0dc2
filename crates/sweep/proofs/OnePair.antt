-- One pair's part of a stretch: its bytes lie from one place of the stretch to another, both clipped to its ends; so the fill is
-- one run, and the count is that run's length.
use mathlib.Core.Path.{◌≡◌, sym, ap, ap₂, ◌∙◌}
use mathlib.Core.Bool.{true, false}
use mathlib.Core.List.{List, [], ◌∷◌}
use Prim.Native.Nat.{ℕ, zero, suc, ◌+◌, ◌-◌, ◌*◌, ◌<◌, ◌≤◌, min}
use native.Mathlib.Nat.{add-zero}
use native.Mathlib.Omega.{arith}
use lib.Dec.{ltb}
use lib.ListN.{length, replicate, length-take, length-drop}
use borrow.Rule.Slice.PartMut.{put_mid, mid_of}
use borrow.Author.Tests.{le-leb, lt-leb, lt-ltb, le-ltb, ltb-true, ltb-false}
use Rattle.bits.proofs.Tests.{by_test}
use Rattle.model.specs.Chain.{Pair}
use Rattle.sweep.specs.Sweep.{covers, swept_bytes, covered_count, pair_counts}

-- an address as a place in n addresses from a on
abbrev clipped : ℕ → ℕ → ℕ → ℕ
clipped x a n = min (x - a) n

clip_on : (x a n : ℕ) → a < x → clipped x a (suc n) ≡ suc (clipped x (suc a) n)
clip_on x a n h = omega arith

clip_first : (x a n : ℕ) → x ≤ a → clipped x a n ≡ 0
clip_first x a n h = omega arith

-- a run of fill from one place to another
abbrev pub run : ℕ → List ℕ → ℕ → ℕ → List ℕ
run fill image i j = put_mid i (j - i) image (replicate (j - i) fill)

run_later : (fill b : ℕ) (bs : List ℕ) (i j : ℕ) → run fill (b ∷ bs) (suc i) (suc j) ≡ b ∷ run fill bs i j
run_later fill b bs i j = let w : suc j - suc i ≡ j - i = omega arith in ap (λ (k : ℕ). b ∷ put_mid i k bs (replicate k fill)) w

run_here : (fill b : ℕ) (bs : List ℕ) (j : ℕ) → run fill (b ∷ bs) 0 (suc j) ≡ fill ∷ run fill bs 0 j
run_here fill b bs j = let w : suc j - 0 ≡ suc (j - 0) = omega arith in ap (λ (k : ℕ). put_mid 0 k (b ∷ bs) (replicate k fill)) w

mid_length : (i k : ℕ) (image : List ℕ) → i + k ≤ length image → length (mid_of i k image) ≡ k
mid_length i k image h = simp (length-take, length-drop) (omega arith)

-- the pair's bytes run from s to e
module _ (unit : ℕ) (q : Pair) where
  abbrev s : ℕ
  s = q.start * unit

  abbrev e : ℕ
  e = (q.start + q.len) * unit

  -- an address before, in and after the pair
  outside_before : (a : ℕ) → a < s → covers unit (q ∷ []) a ≡ false
  outside_before a h = rw (lt-leb s a h)

  inside : (a : ℕ) → s ≤ a → a < e → covers unit (q ∷ []) a ≡ true
  inside a l h = rw (le-leb s a l, lt-ltb a e h)

  outside_after : (a : ℕ) → e ≤ a → covers unit (q ∷ []) a ≡ false
  outside_after a h = rw (le-leb s a (omega arith), le-ltb a e h)

  pair_count : (a n : ℕ) → covered_count unit (q ∷ []) a n ≡ clipped e a n - clipped s a n
  pair_count a zero = omega arith
  pair_count a (suc n) =
      by_test (ltb a s)
      (λ t. let h = ltb-true a s t in rw (outside_before a h, clip_on s a n h, clip_on e a n (omega arith)) (omega (arith, pair_count (suc a) n)))
      (λ t. let l = ltb-false a s t in
      by_test (ltb a e)
      (λ u. let h = ltb-true a e u in
      rw (inside a l h, clip_first s a (suc n) l, clip_on e a n h) (omega (arith, pair_count (suc a) n, clip_first s (suc a) n (omega arith))))
      (λ u. let h = ltb-false a e u in
      rw (outside_after a h, clip_first s a (suc n) l, clip_first e a (suc n) h) (omega (arith, pair_count (suc a) n, clip_first e (suc a) n (omega arith)))))

  pair_swept : (fill a : ℕ) (image : List ℕ) → swept_bytes unit (q ∷ []) fill a image ≡ run fill image (clipped s a (length image)) (clipped e a (length image))
  pair_swept fill a [] = let x : clipped s a 0 ≡ 0 = omega arith in let y : clipped e a 0 ≡ 0 = omega arith in rw (x, y)
  pair_swept fill a (b ∷ bs) =
      let n : ℕ = length bs in
      let ih : swept_bytes unit (q ∷ []) fill (suc a) bs ≡ run fill bs (clipped s (suc a) n) (clipped e (suc a) n) = pair_swept fill (suc a) bs in
      by_test (ltb a s)
      (λ t. let h = ltb-true a s t in
      rw (outside_before a h, clip_on s a n h, clip_on e a n (omega arith)) (ap (λ (r : List ℕ). b ∷ r) ih ∙ sym (run_later fill b bs (clipped s (suc a) n) (clipped e (suc a) n))))
      (λ t. let l = ltb-false a s t in
      let x : clipped s (suc a) n ≡ 0 = clip_first s (suc a) n (omega arith) in
      by_test (ltb a e)
      (λ u. let h = ltb-true a e u in
      rw (inside a l h, clip_first s a (suc n) l, clip_on e a n h)
      (ap (λ (r : List ℕ). fill ∷ r) (ih ∙ ap (λ (i : ℕ). run fill bs i (clipped e (suc a) n)) x) ∙ sym (run_here fill b bs (clipped e (suc a) n))))
      (λ u. let h = ltb-false a e u in
      let y : clipped e (suc a) n ≡ 0 = clip_first e (suc a) n (omega arith) in
      rw (outside_after a h, clip_first s a (suc n) l, clip_first e a (suc n) h) (ap (λ (r : List ℕ). b ∷ r) (ih ∙ ap₂ (run fill bs) x y))))

-- what a run of fill writes, and how long it is
pub run_swept : (unit fill first i j : ℕ) (q : Pair) (image filled : List ℕ) → i ≡ clipped (q.start * unit) first (length image)
    → j ≡ clipped ((q.start + q.len) * unit) first (length image) → filled ≡ replicate (length (mid_of i (j - i) image)) fill
    → (put_mid i (j - i) image filled ≡ swept_bytes unit (q ∷ []) fill first image) × (j - i ≡ pair_counts unit (q ∷ []) first (length image))
run_swept unit fill first i j q image filled ei ej ef =
    let n : ℕ = length image in
    let e : filled ≡ replicate (j - i) fill = ef ∙ ap (λ (k : ℕ). replicate k fill) (mid_length i (j - i) image (omega arith)) in (
      ap (put_mid i (j - i) image) e ∙ ap₂ (run fill image) ei ej ∙ sym (pair_swept unit q fill first image),
      ap₂ (λ (x y : ℕ). y - x) ei ej ∙ sym (pair_count unit q first n) ∙ sym (add-zero (covered_count unit (q ∷ []) first n)),
    )
