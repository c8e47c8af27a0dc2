-- A map is written zone by zone, each block lent from its middle: the zones below z have the blocks of the new map, the others those
-- of the old one. One block that comes back new is one zone more, and where all zones are written the map is the new one.
use mathlib.Core.Path.{◌≡◌, refl, sym, ap, ◌∙◌, subst⁻¹}
use mathlib.Core.List.{List}
use Prim.Native.Nat.{ℕ, ◌+◌, ◌-◌, ◌*◌, ◌<◌, ◌≤◌}
use native.Mathlib.Omega.{arith}
use lib.Dec.{ltb}
use lib.ListN.{length}
use borrow.Author.Tests.{ltb-true, ltb-false}
use borrow.Rule.Slice.PartMut.{same_len_mid}
use Rattle.bits.proofs.Tests.{by_test}
use Rattle.model.specs.Blocks.{block_at}
use Rattle.model.proofs.ByPlace.{block_length}
use Rattle.edits.proofs.BlockPut.{put_block, put_here, put_before, put_after}
use Rattle.edits.proofs.Slices.{same_blocks}

pub record WrittenBelow (size n : ℕ) (new old m : List ℕ) (z : ℕ) : Type 0 where
  pub inside : z ≤ n
  pub kept : length m ≡ length old
  pub written : (y : ℕ) → y < z → block_at size y m ≡ block_at size y new
  pub left : (y : ℕ) → z ≤ y → y < n → block_at size y m ≡ block_at size y old

pub written_starts : (size n : ℕ) (new old : List ℕ) → WrittenBelow size n new old old 0
written_starts size n new old = record { inside = omega arith; kept = refl; written = λ y h. absurd (omega arith); left = λ y l h. refl }

module _ {size n : ℕ} {new old m : List ℕ} {z : ℕ} (w : WrittenBelow size n new old m z) where
  -- the next zone's block, still the old one
  pub next_block : z < n → block_at size z m ≡ block_at size z old
  next_block h = w.left z (omega arith) h

  module _ (whole : length old ≡ n * size) (long : length new ≡ n * size) where
    now_long : length m ≡ n * size
    now_long = w.kept ∙ whole

    pub written_ends : n ≤ z → m ≡ new
    written_ends l = same_blocks size n m new now_long long (λ y h. w.written y (omega arith))

    pub written_turn : z < n → {b next : List ℕ} → b ≡ block_at size z new → next ≡ put_block size z m b → WrittenBelow size n new old next (z + 1)
    written_turn h {b} e en =
        let sized : length b ≡ size = ap length e ∙ block_length new n size long z h in
        let here = put_here size n m b z now_long h sized in
        subst⁻¹ (λ (x : List ℕ). WrittenBelow size n new old x (z + 1)) en
        (record {
          inside = omega arith;
          kept = same_len_mid (z * size) (z * size + size - z * size) m b (sized ∙ sym (block_length m n size now_long z h)) ∙ w.kept;
          written = λ y l. by_test (ltb y z)
              (λ t. put_before size n m b z now_long h sized y (ltb-true y z t) ∙ w.written y (ltb-true y z t))
              (λ t. let q : y ≡ z = omega (arith, ltb-false y z t) in
              ap (λ (x : ℕ). block_at size x (put_block size z m b)) q ∙ here ∙ e ∙ ap (λ (x : ℕ). block_at size x new) (sym q));
          left = λ y l k. put_after size n m b z now_long h sized y (omega arith) ∙ w.left y (omega arith) k;
        })
