-- The bits of a block in three parts, before, within and after a zone's allocation bits: how many there are, and that a
-- drawing changes none but the part within.
use mathlib.Core.Path.{◌≡◌, refl, sym, ap, ◌∙◌}
use mathlib.Core.List.{List, [], ◌∷◌, ◌++◌}
use Prim.Native.Nat.{ℕ, ◌+◌, ◌-◌, ◌*◌, ◌^◌, ◌<◌, ◌≤◌}
use native.Mathlib.Omega.{arith}
use lib.Dec.{ltb}
use lib.ListN.{length, get_or, take, drop, length-append, length-drop, take-append-drop}
use lib.Seq.{length-take-le, take_at, drop_at, drop-drop}
use borrow.Author.Tests.{ltb-true, ltb-false}
use Rattle.bits.specs.Bits.{byte_bits}
use Rattle.bits.proofs.Tests.{by_test}
use Rattle.bits.proofs.Bytes.{length_byte_bits}
use Rattle.model.specs.Blocks.{alloc_bits}
use Rattle.model.specs.Pieces.{Piece}
use Rattle.model.specs.Drawing.{drawn_fragments, draw, Drawable}
use Rattle.model.proofs.Followed.{total}
use Rattle.model.proofs.ChainDrawn.{Lies}
use Rattle.model.proofs.ZoneDrawn.{lies, fit_drawn, length_frags}
use Rattle.edits.specs.Written.{new_bits}

-- where a zone's allocation bits lie in a block: after the header, within the block, and in the reach of links
pub record BitsInBlock (idlen at end : ℕ) (b : List ℕ) : Type 0 where
  pub ids : 0 < idlen
  pub low : 32 ≤ at
  pub ordered : at ≤ end
  pub links : end ≤ 2 ^ idlen
  pub room : end ≤ 8 * length b

-- a block of at least four bytes is its header and the rest
pub header_rest : (b : List ℕ) → 4 ≤ length b → b ≡ get_or b 0 0 ∷ get_or b 1 0 ∷ get_or b 2 0 ∷ get_or b 3 0 ∷ drop 4 b
header_rest [] h = absurd (omega arith)
header_rest (b0 ∷ []) h = absurd (omega arith)
header_rest (b0 ∷ b1 ∷ []) h = absurd (omega arith)
header_rest (b0 ∷ b1 ∷ b2 ∷ []) h = absurd (omega arith)
header_rest (b0 ∷ b1 ∷ b2 ∷ b3 ∷ body) h = refl

-- the fragments of a drawing fill the bits from `at` to `end`
pub total_drawn : (at end : ℕ) (ps : List Piece) → Lies at end ps → at + total (drawn_fragments at end ps) ≡ end
total_drawn at end [] l =
    by_test (ltb at end)
    (λ t. simp t (omega (arith, ltb-true)))
    (λ t. simp t (omega (arith, ltb-false)))
total_drawn at end (p ∷ ps) l =
    let k = total_drawn (p.at.start + p.at.len) end ps l.2 in
    by_test (ltb at p.at.start)
    (λ t. simp t (omega (arith, ltb-true)))
    (λ t. simp t (omega (arith, ltb-false)))

pub length_draw : (idlen at end : ℕ) (ps : List Piece) → end ≤ at + 2 ^ idlen → Drawable idlen at end ps → length (draw idlen at end ps) ≡ end - at
length_draw idlen at end ps h d =
    length_frags idlen (drawn_fragments at end ps) (fit_drawn idlen at end ps h d)
    ∙ omega (arith, total_drawn at end ps (lies idlen at end ps d))

module _ (idlen at end : ℕ) (b : List ℕ) (y : BitsInBlock idlen at end b) where
  pub four_bytes : 4 ≤ length b
  four_bytes = omega arith

  pub old_length : length (byte_bits (drop 4 b)) ≡ 8 * (length b - 4)
  old_length = length_byte_bits (drop 4 b) ∙ ap (λ (n : ℕ). 8 * n) (length-drop 4 b)

  pub alloc_length : length (alloc_bits at end b) ≡ end - at
  alloc_length = length-take-le (end - at) (drop (at - 32) (byte_bits (drop 4 b))) (simp (length-drop, length_byte_bits) (omega arith))

  -- the bits in three parts
  pub in_parts : take (at - 32) (byte_bits (drop 4 b)) ++ (alloc_bits at end b ++ drop (end - 32) (byte_bits (drop 4 b))) ≡ byte_bits (drop 4 b)
  in_parts =
      let e : (at - 32) + (end - at) ≡ end - 32 = omega arith in
      rw (← e, ← drop-drop (end - at) (at - 32) (byte_bits (drop 4 b))) (simp take-append-drop)

  -- the parts after a drawing
  front_length : length (take (at - 32) (byte_bits (drop 4 b))) ≡ at - 32
  front_length = length-take-le (at - 32) (byte_bits (drop 4 b)) (omega (arith, old_length))

  pub front_new : (ps : List Piece) → take (at - 32) (new_bits idlen at end ps (byte_bits (drop 4 b))) ≡ take (at - 32) (byte_bits (drop 4 b))
  front_new ps = take_at (take (at - 32) (byte_bits (drop 4 b))) (draw idlen at end ps ++ drop (end - 32) (byte_bits (drop 4 b))) (at - 32) front_length

  pub rest_new : (ps : List Piece) → drop (at - 32) (new_bits idlen at end ps (byte_bits (drop 4 b))) ≡ draw idlen at end ps ++ drop (end - 32) (byte_bits (drop 4 b))
  rest_new ps = drop_at (take (at - 32) (byte_bits (drop 4 b))) (draw idlen at end ps ++ drop (end - 32) (byte_bits (drop 4 b))) (at - 32) front_length

  module _ (ps : List Piece) (d : Drawable idlen at end ps) where
    drawn_length : length (draw idlen at end ps) ≡ end - at
    drawn_length = length_draw idlen at end ps (omega arith) d

    pub length_new : length (new_bits idlen at end ps (byte_bits (drop 4 b))) ≡ 8 * (length b - 4)
    length_new = simp (length-append, front_length, drawn_length, length-drop, old_length) (omega arith)

    pub drawn_new : take (end - at) (drop (at - 32) (new_bits idlen at end ps (byte_bits (drop 4 b)))) ≡ draw idlen at end ps
    drawn_new = ap (take (end - at)) (rest_new ps) ∙ take_at (draw idlen at end ps) (drop (end - 32) (byte_bits (drop 4 b))) (end - at) drawn_length

    pub back_new : drop (end - 32) (new_bits idlen at end ps (byte_bits (drop 4 b))) ≡ drop (end - 32) (byte_bits (drop 4 b))
    back_new =
        let e : (at - 32) + (end - at) ≡ end - 32 = omega arith in
        let f : drop ((at - 32) + (end - at)) (new_bits idlen at end ps (byte_bits (drop 4 b))) ≡ drop (end - 32) (byte_bits (drop 4 b)) =
        sym (drop-drop (end - at) (at - 32) (new_bits idlen at end ps (byte_bits (drop 4 b)))) ∙ ap (drop (end - at)) (rest_new ps)
        ∙ drop_at (draw idlen at end ps) (drop (end - 32) (byte_bits (drop 4 b))) (end - at) drawn_length in
        rw e at f
