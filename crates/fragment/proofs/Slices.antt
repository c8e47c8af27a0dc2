-- The front of a stretch of bits.
use Rattle.std.proofs.Common.{◌≡◌, Bool, List, ℕ, ◌+◌, ◌-◌, ◌≤◌, take, drop, sym, ap, ◌∙◌, arith}
use Rattle.std.proofs.Math.Seq.{slice}
use Rattle.std.proofs.lemmas.List.{drop-take, take-take}

pub front : (B : List Bool) (at end n : ℕ) → at + n ≤ end → take n (slice at end B) ≡ slice at (at + n) B
front B at end n h =
    let e : at + (end - at) ≡ end = omega arith in
    ap (λ (x : ℕ). take n (drop at (take x B))) (sym e)
    ∙ ap (take n) (drop-take at (end - at) B)
    ∙ take-take n (end - at) (drop at B) (omega arith)
    ∙ sym (drop-take at n B)
