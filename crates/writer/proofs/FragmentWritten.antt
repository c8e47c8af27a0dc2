-- A number of len - 1 bits and a 1 after it are a fragment: an id that fits idlen bits has zeros above them.
use mathlib.Core.Path.{◌≡◌, ap, ap₂, ◌∙◌}
use mathlib.Core.Bool.{Bool, true, false}
use mathlib.Core.List.{List, ◌∷◌, ◌++◌, append_assoc}
use Prim.Native.Nat.{ℕ, suc, ◌+◌, ◌-◌, ◌^◌, ◌<◌, ◌≤◌}
use native.Mathlib.Omega.{arith}
use lib.ListN.{length, set, take, drop, replicate, length-append}
use lib.Seq.{sets, sets-eq, set_at, drop-cons, length-take-le}
use Rattle.bits.specs.Bits.{number_bits}
use Rattle.bits.proofs.Digits.{length_number, long_number}
use Rattle.model.specs.Fragments.{closed}

pub fragment_set : (B : List Bool) (at len id idlen : ℕ) → idlen < len → at + len ≤ length B → id < 2 ^ idlen
    → set (sets B at (number_bits (len - 1) id)) (at + (len - 1)) true ≡ take at B ++ (number_bits idlen id ++ closed (len - suc idlen) (drop (at + len) B))
fragment_set B at len id idlen h l k =
    let z = len - suc idlen in
    let e : len - 1 ≡ idlen + (len - suc idlen) = omega arith in
    let b : number_bits (len - 1) id ≡ number_bits idlen id ++ replicate z false = ap (λ (m : ℕ). number_bits m id) e ∙ long_number idlen z id k in
    let c : length (number_bits (len - 1) id) ≡ len - 1 = length_number (len - 1) id in
    let s : sets B at (number_bits (len - 1) id) ≡ (take at B ++ number_bits (len - 1) id) ++ drop (at + (len - 1)) B =
    sets-eq (number_bits (len - 1) id) B at (omega arith) ∙ ap (λ (m : ℕ). take at B ++ number_bits (len - 1) id ++ drop (at + m) B) c in
    let p : suc (at + (len - 1)) ≡ at + len = omega arith in
    let d : drop (at + (len - 1)) B ≡ _ ∷ drop (suc (at + (len - 1))) B = drop-cons B (at + (len - 1)) false (omega arith) in
    let n : length (take at B ++ number_bits (len - 1) id) ≡ at + (len - 1) = simp (length-append, length-take-le at B (omega arith), length_number) in
    ap (λ (r : List Bool). set r (at + (len - 1)) true) (s ∙ ap (λ (r : List Bool). (take at B ++ number_bits (len - 1) id) ++ r) d)
    ∙ set_at (take at B ++ number_bits (len - 1) id) _ (drop (suc (at + (len - 1))) B) true (at + (len - 1)) n
    ∙ ap₂ (λ (m : ℕ) (r : List Bool). (take at B ++ r) ++ true ∷ drop m B) p b
    ∙ simp append_assoc
