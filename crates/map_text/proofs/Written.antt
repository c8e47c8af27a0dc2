-- The loop that writes the parts: the bytes written so far, with what is left, are the program's text; so when nothing is left, they are it.
use Rattle.std.proofs.Common.{◌≡◌, ℕ, List, ◌++◌, take, append_assoc, append-nil}
use Rattle.map_text.specs.declared.Left.{Left}
use Rattle.map_text.specs.Text.{program_text}
use Rattle.map_text.specs.Parts.{left_text, IsNextPart}

pub record Written (m : List ℕ) (left : Left) : Type 0 where
  pub bytes : List ℕ
  pub whole : bytes ++ left_text left ≡ program_text m

module _ {m : List ℕ} {left after : Left} {old : List ℕ} {n : ℕ} {new : List ℕ} (p : IsNextPart left old n after new) where
  -- a part is written after those before it
  pub written_on : Written m left → Written m after
  written_on w = record { bytes = w.bytes ++ take n new; whole = cc (append_assoc w.bytes (take n new) (left_text after)) }

  pub all_written : n ≡ 0 → (w : Written m left) → w.bytes ≡ program_text m
  all_written e w = cc (append-nil w.bytes, p.ends e)
