-- A block whose bits are redrawn and that is then sealed is the block that `written` says. The header's four bytes are 32 bits,
-- which the drawing leaves alone, and bytes are those of their bits.
use mathlib.Core.Path.{◌≡◌, refl, sym, ap, ap₂, ◌∙◌, subst⁻¹}
use mathlib.Core.Bool.{Bool}
use mathlib.Core.List.{List, [], ◌∷◌, ◌++◌}
use Prim.Native.Nat.{ℕ, ◌+◌, ◌-◌, ◌*◌, ◌/◌, ◌%◌, ◌^◌, ◌≤◌}
use native.Mathlib.Omega.{arith}
use lib.Bits.{bit_xor}
use lib.ListN.{length, get_or, set, take, drop}
use lib.Seq.{drop-drop, take-take, take-append-le, drop-append-le, length-take-le}
use borrow.Rule.Slice.PartMut.{put_mid}
use Rattle.std.specs.Int.{w16, to_le_bytes}
use Rattle.bits.specs.Bits.{byte_bits, value, bytes_of, Bytes}
use Rattle.bits.proofs.Digits.{value_bits}
use Rattle.bits.proofs.Bytes.{length_byte_bits, bytes_bits}
use Rattle.checks.specs.Words.{zone_check}
use Rattle.std.proofs.lemmas.List.{drop-take}
use Rattle.model.specs.Pieces.{Piece}
use Rattle.model.specs.Drawing.{draw, link_of}
use Rattle.edits.specs.Written.{new_bits, sealed, written}
use Rattle.writer.specs.Redraw.{Redrawn}

-- FreeLink's bytes stored, and the cross check changed, before the check byte
abbrev pub headed : List ℕ → List ℕ → ℕ → List ℕ
headed s link change =
    let t = put_mid 1 2 s link in
    set t 3 (bit_xor (get_or t 3 0) change)

sealed_so : (s : List ℕ) (low high change check link : ℕ) → 4 ≤ length s → low ≡ (32768 + link) % 256 → high ≡ (32768 + link) / 256 → check ≡ zone_check (headed s (low ∷ high ∷ []) change)
    → set (headed s (low ∷ high ∷ []) change) 0 check ≡ sealed link (bit_xor (get_or s 3 0) change) (drop 4 s)
unfolding zone_check
sealed_so [] low high change check link h el eh ec = absurd (omega arith)
sealed_so (b0 ∷ []) low high change check link h el eh ec = absurd (omega arith)
sealed_so (b0 ∷ b1 ∷ []) low high change check link h el eh ec = absurd (omega arith)
sealed_so (b0 ∷ b1 ∷ b2 ∷ []) low high change check link h el eh ec = absurd (omega arith)
sealed_so (b0 ∷ b1 ∷ b2 ∷ b3 ∷ body) low high change check link h el eh ec =
    ap (λ (x : ℕ). x ∷ low ∷ high ∷ bit_xor b3 change ∷ body) ec
    ∙ ap₂ (λ (x y : ℕ). let rest = x ∷ y ∷ bit_xor b3 change ∷ body in zone_check (0 ∷ rest) ∷ rest) el eh

pub seal_is : (s link : List ℕ) (change first n check : ℕ) → 4 ≤ length s → first ≤ 8192 → n ≡ first - 8 → link ≡ to_le_bytes w16 (32768 + n) → check ≡ zone_check (headed s link change)
    → set (headed s link change) 0 check ≡ sealed (first - 8) (bit_xor (get_or s 3 0) change) (drop 4 s)
seal_is s link change first n check h l en eb ec =
    subst⁻¹ (λ (x : List ℕ). check ≡ zone_check (headed s x change) → set (headed s x change) 0 check ≡ sealed (first - 8) (bit_xor (get_or s 3 0) change) (drop 4 s)) eb
    (sealed_so s ((32768 + n) % 256) ((32768 + n) / 256 ^ 1 % 256) change check (first - 8) h (omega arith) (omega arith)) ec

-- the bits after the header
bits_after : (B old : List Bool) (idlen from end : ℕ) (ps : List Piece) → 32 ≤ from → from ≤ end → from ≤ length B → drop 32 B ≡ old
    → drop 32 (take from B ++ (draw idlen from end ps ++ drop end B)) ≡ new_bits idlen from end ps old
bits_after B old idlen from end ps h l k e =
    let D = draw idlen from end ps ++ drop end B in
    let f : 32 + (from - 32) ≡ from = omega arith in
    let g : 32 + (end - 32) ≡ end = omega arith in
    let a : drop 32 (take from B) ≡ take (from - 32) old = ap (λ (x : ℕ). drop 32 (take x B)) (sym f) ∙ drop-take 32 (from - 32) B ∙ ap (take (from - 32)) e in
    let d : drop end B ≡ drop (end - 32) old = ap (λ (x : ℕ). drop x B) (sym g) ∙ sym (drop-drop (end - 32) 32 B) ∙ ap (drop (end - 32)) e in
    drop-append-le 32 (take from B) D (omega (arith, length-take-le from B k))
    ∙ ap₂ (λ (x y : List Bool). x ++ (draw idlen from end ps ++ y)) a d

pub sealed_written : (s w : List ℕ) (idlen from end first change : ℕ) (ps : List Piece) → 4 ≤ length s → length w ≡ length s → Bytes s → Bytes w
    → 32 ≤ from → from ≤ end → end ≤ length s * 8 → Redrawn idlen from end ps (byte_bits s) (byte_bits w) first
    → sealed (first - 8) (bit_xor (get_or w 3 0) change) (drop 4 w) ≡ written idlen from end ps (bit_xor (get_or s 3 0) change) s
sealed_written [] w idlen from end first change ps h l bs bw lo or he r = absurd (omega arith)
sealed_written (b0 ∷ []) w idlen from end first change ps h l bs bw lo or he r = absurd (omega arith)
sealed_written (b0 ∷ b1 ∷ []) w idlen from end first change ps h l bs bw lo or he r = absurd (omega arith)
sealed_written (b0 ∷ b1 ∷ b2 ∷ []) w idlen from end first change ps h l bs bw lo or he r = absurd (omega arith)
sealed_written (b0 ∷ b1 ∷ b2 ∷ b3 ∷ body) [] idlen from end first change ps h l bs bw lo or he r = absurd (omega arith)
sealed_written (b0 ∷ b1 ∷ b2 ∷ b3 ∷ body) (w0 ∷ []) idlen from end first change ps h l bs bw lo or he r = absurd (omega arith)
sealed_written (b0 ∷ b1 ∷ b2 ∷ b3 ∷ body) (w0 ∷ w1 ∷ []) idlen from end first change ps h l bs bw lo or he r = absurd (omega arith)
sealed_written (b0 ∷ b1 ∷ b2 ∷ b3 ∷ body) (w0 ∷ w1 ∷ w2 ∷ []) idlen from end first change ps h l bs bw lo or he r = absurd (omega arith)
sealed_written (b0 ∷ b1 ∷ b2 ∷ b3 ∷ body) (w0 ∷ w1 ∷ w2 ∷ w3 ∷ rest) idlen from end first change ps h l bs bw lo or he r =
    let s : List ℕ = b0 ∷ b1 ∷ b2 ∷ b3 ∷ body in
    let w : List ℕ = w0 ∷ w1 ∷ w2 ∷ w3 ∷ rest in
    let B = byte_bits s in
    let k : from ≤ length B = omega (arith, length_byte_bits s) in
    let size : length rest ≡ length s - 4 = omega arith in
    let bits : byte_bits rest ≡ new_bits idlen from end ps (byte_bits body) = ap (drop 32) r.bits ∙ bits_after B (byte_bits body) idlen from end ps lo or k refl in
    let tail : rest ≡ bytes_of (length s - 4) (new_bits idlen from end ps (byte_bits body)) = sym (bytes_bits rest bw.1.1.1.1) ∙ ap₂ bytes_of size bits in
    let front : take 32 (byte_bits w) ≡ take 32 B = ap (take 32) r.bits ∙ take-append-le 32 (take from B) _ (omega (arith, length-take-le from B k)) ∙ take-take 32 from B lo in
    let cross : w3 ≡ b3 = sym (value_bits 8 w3 bw.1.1.1.0) ∙ ap (λ (x : List Bool). value (take 8 (drop 24 x))) front ∙ value_bits 8 b3 bs.1.1.1.0 in
    ap₂ (λ (x : ℕ) (y : List ℕ). sealed x (bit_xor w3 change) y) (ap (λ (x : ℕ). x - 8) r.first_is) tail
    ∙ ap (λ (x : ℕ). sealed (link_of from end ps) (bit_xor x change) (bytes_of (length s - 4) (new_bits idlen from end ps (byte_bits body)))) cross
