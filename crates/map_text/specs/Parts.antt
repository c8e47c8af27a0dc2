-- The text in parts: what is left of it, and that each part is the next stretch of it. Assumes nothing.
use Rattle.std.specs.Prelude.{◌≡◌, List, [], ◌++◌, ℕ, ◌+◌, ◌≤◌, length, take, drop}
use Rattle.walk.specs.LinesLeft.{lines_left}
use Rattle.map_text.specs.declared.Left.{Left}
use Rattle.map_text.specs.declared.Left.TheVariants.{Lines, Refused, Nothing}
use Rattle.map_text.specs.declared.Text.{Text}
use Rattle.map_text.specs.Text.{lines_text, refusal_text, program_text}

-- bytes stored after the text that a buffer has; those past them are untouched
pub record Adds (piece : List ℕ) (old new : Text) : Type 0 where
  pub text : take new.len new.buffer.now ≡ take old.len old.buffer.now ++ piece
  pub beyond : drop new.len new.buffer.now ≡ drop new.len old.buffer.now
  pub len : new.len ≡ old.len + length piece
  pub room : length new.buffer.now ≡ length old.buffer.now
  pub within : new.len ≤ length new.buffer.now
  pub same_buffer : new.buffer.ghost_name ≡ old.buffer.ghost_name

-- the first piece of what was left is added, and the rest is left after it
pub record Moves (left : List ℕ) (old new : Text) (after : List ℕ) : Type 0 where
  pub piece : List ℕ
  pub adds : Adds piece old new
  pub whole : left ≡ piece ++ after

-- the text that is left
abbrev pub left_text : Left → List ℕ
left_text (Lines lines) = lines_text (lines_left lines)
left_text (Refused r) = refusal_text r
left_text Nothing = []

-- before the first part all of the text is left
abbrev pub Begins : List ℕ → Left → Type 0
Begins m left = left_text left ≡ program_text m

-- a part of n bytes in a lent buffer: with what is left after it, it is what was left before it; the bytes past it are untouched; and it has no
-- bytes only where nothing is left
pub record IsNextPart (left : Left) (old : List ℕ) (n : ℕ) (after : Left) (new : List ℕ) : Type 0 where
  pub fits : n ≤ length new
  pub part : left_text left ≡ take n new ++ left_text after
  pub beyond : drop n new ≡ drop n old
  pub ends : n ≡ 0 → left_text left ≡ []
