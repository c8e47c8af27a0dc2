-- A block written keeps every bit after its header that is not an allocation bit: the writing takes these from the old block.
use mathlib.Core.Path.{◌≡◌, sym, ap, ◌∙◌}
use mathlib.Core.Bool.{Bool, false}
use mathlib.Core.List.{List}
use mathlib.Core.Logic.{◌⊎◌, inl, inr}
use Prim.Native.Nat.{ℕ, ◌+◌, ◌-◌, ◌<◌, ◌≤◌}
use native.Mathlib.Omega.{arith}
use lib.ListN.{length, get_or, drop}
use lib.Seq.{get_or-take, get_or-drop}
use Rattle.bits.specs.Bits.{byte_bits}
use Rattle.model.specs.Pieces.{Piece}
use Rattle.model.specs.Drawing.{Drawable}
use Rattle.edits.specs.Written.{written}
use Rattle.edits.proofs.BlockBits.{BitsInBlock, header_rest, four_bytes, front_new}
use Rattle.edits.proofs.BlockWritten.{length_written, body_written, after_written}

-- a bit at or after place n, counted from there
bit_from : (n : ℕ) (l : List Bool) (k : ℕ) → n ≤ k → get_or l k false ≡ get_or (drop n l) (k - n) false
bit_from n l k h =
    let e : n + (k - n) ≡ k = omega arith in
    sym (get_or-drop n l (k - n) false ∙ ap (λ (j : ℕ). get_or l j false) e)

-- a bit after the header is one of the rest
body_bit : (b : List ℕ) (k : ℕ) → 4 ≤ length b → 32 ≤ k → get_or (byte_bits b) k false ≡ get_or (byte_bits (drop 4 b)) (k - 32) false
body_bit b k h lo =
    bit_from 32 (byte_bits b) k lo ∙ ap (λ (x : List ℕ). get_or (drop 32 (byte_bits x)) (k - 32) false) (header_rest b h)

module _ (idlen at end : ℕ) (b : List ℕ) (y : BitsInBlock idlen at end b) (ps : List Piece) (d : Drawable idlen at end ps) (cross : ℕ) where
  before_kept : (i : ℕ) → i < at - 32 → get_or (byte_bits (drop 4 (written idlen at end ps cross b))) i false ≡ get_or (byte_bits (drop 4 b)) i false
  before_kept i h =
      ap (λ (l : List Bool). get_or l i false) (body_written idlen at end b y ps d cross)
      ∙ sym (get_or-take (at - 32) _ i false h)
      ∙ ap (λ (l : List Bool). get_or l i false) (front_new idlen at end b y ps)
      ∙ get_or-take (at - 32) (byte_bits (drop 4 b)) i false h

  after_kept : (i : ℕ) → end - 32 ≤ i → get_or (byte_bits (drop 4 (written idlen at end ps cross b))) i false ≡ get_or (byte_bits (drop 4 b)) i false
  after_kept i h =
      bit_from (end - 32) (byte_bits (drop 4 (written idlen at end ps cross b))) i h
      ∙ ap (λ (l : List Bool). get_or l (i - (end - 32)) false) (after_written idlen at end b y ps d cross)
      ∙ sym (bit_from (end - 32) (byte_bits (drop 4 b)) i h)

  pub written_outside : (k : ℕ) → 32 ≤ k → (k < at) ⊎ (end ≤ k) → get_or (byte_bits (written idlen at end ps cross b)) k false ≡ get_or (byte_bits b) k false
  written_outside k lo o =
      body_bit (written idlen at end ps cross b) k (omega (arith, length_written idlen at end ps cross b (four_bytes idlen at end b y), four_bytes idlen at end b y)) lo
      ∙ beside o
      ∙ sym (body_bit b k (four_bytes idlen at end b y) lo)
    where
      beside : (k < at) ⊎ (end ≤ k) → get_or (byte_bits (drop 4 (written idlen at end ps cross b))) (k - 32) false ≡ get_or (byte_bits (drop 4 b)) (k - 32) false
      beside (inl h) = before_kept (k - 32) (omega arith)
      beside (inr h) = after_kept (k - 32) (omega arith)
