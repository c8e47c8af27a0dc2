-- Fragments drawn and read: a drawing is read back, and what was read is what is drawn.
use mathlib.Core.Path.{◌≡◌, refl, ap, ◌∙◌, subst}
use mathlib.Core.Bool.{Bool, true, false}
use mathlib.Core.List.{List, [], ◌∷◌, ◌++◌}
use mathlib.Core.Option.{Option, none, some}
use Prim.Native.Nat.{ℕ, zero, suc, ◌+◌, ◌-◌, ◌/◌, ◌^◌, ◌<◌}
use native.Mathlib.Nat.{suc-sub-suc}
use native.Mathlib.Omega.{arith}
use Rattle.bits.specs.Bits.{number_bits}
use Rattle.bits.proofs.Digits.{bit_half, low_bit, high_bits, bit_le}
use Rattle.model.specs.Fragments.{Fragment, closed, fragment_bits, Formed, Standing, edge, within, grow, longer, close, cut}
use Rattle.model.proofs.Options.{none_some, some_some}

same_frag : {i j m n : ℕ} (fs : List Fragment) → i ≡ j → m ≡ n → ◌≡◌ {A = Option (List Fragment)} (some (record { id = i; len = m } ∷ fs)) (some (record { id = j; len = n } ∷ fs))
same_frag fs p q = λ i. some (record { id = p i; len = q i } ∷ fs)

-- the bits of a fragment after its first id bits
cut_tail : (n z : ℕ) (rest : List Bool) (fs : List Fragment) → cut n edge rest ≡ some fs → cut n (within 0) (closed z rest) ≡ some (record { id = 0; len = suc z } ∷ fs)
cut_tail n zero rest fs e = simp e
cut_tail n (suc z) rest fs e = simp (cut_tail n z rest fs e)

cut_within : (n k x z : ℕ) (rest : List Bool) (fs : List Fragment) → x < 2 ^ k → cut n edge rest ≡ some fs
    → cut n (within k) (number_bits k x ++ closed z rest) ≡ some (record { id = x; len = suc (k + z) } ∷ fs)
cut_within n zero x z rest fs h e = cut_tail n z rest fs e ∙ same_frag fs (omega arith) (omega arith)
cut_within n (suc k) x z rest fs h e = simp (cut_within n k (x / 2) z rest fs (omega arith) e) (same_frag fs (bit_half x) (omega arith))

-- one fragment and what follows it
pub cut_some : (n : ℕ) (f : Fragment) (rest : List Bool) (fs : List Fragment) → Formed (suc n) (f ∷ []) → cut n edge rest ≡ some fs
    → cut n edge (number_bits (suc n) f.id ++ closed (f.len - suc (suc n)) rest) ≡ some (f ∷ fs)
cut_some n f rest fs h e = simp (cut_within n n (f.id / 2) (f.len - suc (suc n)) rest fs (omega arith) e) (same_frag fs (bit_half f.id) (omega arith))

tail_none : (n z : ℕ) (rest : List Bool) → cut n edge rest ≡ none → cut n (within 0) (closed z rest) ≡ none
tail_none n zero rest e = simp e
tail_none n (suc z) rest e = simp (tail_none n z rest e)

within_none : (n k x z : ℕ) (rest : List Bool) → cut n edge rest ≡ none → cut n (within k) (number_bits k x ++ closed z rest) ≡ none
within_none n zero x z rest e = tail_none n z rest e
within_none n (suc k) x z rest e = simp (within_none n k (x / 2) z rest e)

pub cut_none : (n : ℕ) (f : Fragment) (rest : List Bool) → cut n edge rest ≡ none → cut n edge (number_bits (suc n) f.id ++ closed (f.len - suc (suc n)) rest) ≡ none
cut_none n f rest e = simp (within_none n n (f.id / 2) (f.len - suc (suc n)) rest e)

pub cut_written : (n : ℕ) (fs : List Fragment) → Formed (suc n) fs → cut n edge (fragment_bits (suc n) fs) ≡ some fs
cut_written n [] h = refl
cut_written n (f ∷ fs) h = cut_some n f (fragment_bits (suc n) fs) fs (h.0, h.1, tt) (cut_written n fs h.2)

-- and back: what was read is what is written
abbrev Back : ℕ → Standing → List Bool → List Fragment → Type 0
Back n edge bs fs = (bs ≡ fragment_bits (suc n) fs) × Formed (suc n) fs
Back n (within k) bs [] = ⊥
Back n (within k) bs (f ∷ fs) = (bs ≡ number_bits k f.id ++ closed (f.len - suc k) (fragment_bits (suc n) fs)) × (f.id < 2 ^ k) × (k < f.len) × Formed (suc n) fs

grow_back : (n k : ℕ) (b : Bool) (bs : List Bool) (r : Option (List Fragment)) (fs : List Fragment) → ((gs : List Fragment) → r ≡ some gs → Back n (within k) bs gs) → grow b r ≡ some fs → Back n (within (suc k)) (b ∷ bs) fs
grow_back n k b bs none fs ih e = absurd (none_some e)
grow_back n k b bs (some []) fs ih e = absurd (none_some e)
grow_back n k b bs (some (f ∷ gs)) fs ih e =
    let h = ih (f ∷ gs) refl in
    subst (λ (r : List Fragment). Back n (within (suc k)) (b ∷ bs) r) (some_some e)
    (simp (low_bit b f.id, high_bits b f.id, suc-sub-suc f.len (suc k)) (ap (λ (r : List Bool). b ∷ r) h.0), omega (arith, bit_le b), omega arith, h.3)

longer_back : (n : ℕ) (bs : List Bool) (r : Option (List Fragment)) (fs : List Fragment) → ((gs : List Fragment) → r ≡ some gs → Back n (within 0) bs gs) → longer r ≡ some fs → Back n (within 0) (false ∷ bs) fs
longer_back n bs none fs ih e = absurd (none_some e)
longer_back n bs (some []) fs ih e = absurd (none_some e)
longer_back n bs (some (f ∷ gs)) fs ih e =
    let h = ih (f ∷ gs) refl in
    let shift : suc f.len - 1 ≡ suc (f.len - 1) = omega arith in
    subst (λ (r : List Fragment). Back n (within 0) (false ∷ bs) r) (some_some e)
    (rw shift (ap (λ (r : List Bool). false ∷ r) h.0), h.1, omega arith, h.3)

close_back : (n : ℕ) (bs : List Bool) (r : Option (List Fragment)) (fs : List Fragment) → ((gs : List Fragment) → r ≡ some gs → Back n edge bs gs) → close r ≡ some fs → Back n (within 0) (true ∷ bs) fs
close_back n bs none fs ih e = absurd (none_some e)
close_back n bs (some gs) fs ih e =
    let h = ih gs refl in
    subst (λ (r : List Fragment). Back n (within 0) (true ∷ bs) r) (some_some e)
    (ap (λ (r : List Bool). true ∷ r) h.0, omega arith, omega arith, h.1)

edge_back : (n : ℕ) (bs : List Bool) (fs : List Fragment) → Back n (within (suc n)) bs fs → Back n edge bs fs
edge_back n bs [] h = absurd h
edge_back n bs (f ∷ fs) h = (h.0, (h.1, h.2, h.3))

cut_back : (n : ℕ) (ph : Standing) (bs : List Bool) (fs : List Fragment) → cut n ph bs ≡ some fs → Back n ph bs fs
cut_back n edge [] fs e = subst (λ (r : List Fragment). Back n edge [] r) (some_some e) (refl, tt)
cut_back n (within k) [] fs e = absurd (none_some e)
cut_back n edge (b ∷ bs) fs e = edge_back n (b ∷ bs) fs (grow_back n n b bs (cut n (within n) bs) fs (cut_back n (within n) bs) e)
cut_back n (within (suc k)) (b ∷ bs) fs e = grow_back n k b bs (cut n (within k) bs) fs (cut_back n (within k) bs) e
cut_back n (within zero) (true ∷ bs) fs e = close_back n bs (cut n edge bs) fs (cut_back n edge bs) e
cut_back n (within zero) (false ∷ bs) fs e = longer_back n bs (cut n (within zero) bs) fs (cut_back n (within zero) bs) e

pub written_cut : (n : ℕ) (bs : List Bool) (fs : List Fragment) → cut n edge bs ≡ some fs → (bs ≡ fragment_bits (suc n) fs) × Formed (suc n) fs
written_cut n bs fs e = cut_back n edge bs fs e
