-- A zone's bits from a place on, drawn anew. The places are block bits. Assumes nothing.
use Rattle.std.specs.Prelude.{◌≡◌, Bool, cond, List, [], ◌++◌, ℕ, ◌+◌, ◌*◌, ◌^◌, ◌<◌, ◌≤◌, ltb, take, drop}
use Rattle.model.specs.Fragments.{fragment_then, fragment_bits}
use Rattle.model.specs.Pieces.{Piece}
use Rattle.model.specs.Drawing.{GapRoom, gap, first_free, draw}

-- a gap from `hole` to `to` that can be drawn in a block of n bytes; the next one is at `next`, 0 where there is none
pub record GapAsks (n idlen hole to next : ℕ) : Type 0 where
  pub past_header : 0 < hole
  pub room : GapRoom idlen hole to
  pub in_block : to ≤ n * 8
  pub to_high : to ≤ 8192
  pub next_high : next ≤ 8192
  pub next_reached : next ≤ 2 ^ idlen

-- the bits with a fragment written at `at`
abbrev pub fragment_put : ℕ → ℕ → ℕ → ℕ → List Bool → List Bool
fragment_put idlen at len id old = take at old ++ fragment_then idlen (record { id = id; len = len }) (drop (at + len) old)

-- the bits `old` have become `new` by that gap, and `first` is where the first gap starts now
pub record GapDrawn (idlen hole to next : ℕ) (old new : List Bool) (first : ℕ) : Type 0 where
  pub bits : new ≡ take hole old ++ (fragment_bits idlen (gap hole to next []) ++ drop to old)
  pub first_is : first ≡ cond (ltb hole to) hole next

-- the bits `old` have become `new` by drawing these pieces from `hole` to `end`, and `first` is where the first gap starts
pub record Redrawn (idlen hole end : ℕ) (ps : List Piece) (old new : List Bool) (first : ℕ) : Type 0 where
  pub bits : new ≡ take hole old ++ (draw idlen hole end ps ++ drop end old)
  pub first_is : first ≡ first_free hole end ps
  pub first_in : first ≤ end
