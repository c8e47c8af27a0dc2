-- What a contract says of a stretch, which holds its image by reference: how it is swept, and that it is the same one afterwards. Assumes nothing.
use Rattle.std.specs.Prelude.{◌≡◌, List, ℕ, length, Result}
use Rattle.geometry.specs.declared.Refusal.{Refusal}
use Rattle.model.specs.Answer.{Answer}
use Rattle.model.specs.Chain.{Pair}
use Rattle.sweep.specs.declared.Stretch.{Stretch}
use Rattle.sweep.specs.Sweep.{Class, swept_bytes, pair_counts, Sweeps}

-- by pairs, one by one: every byte of the image, and what is answered
pub record StretchSwept (unit : ℕ) (qs : List Pair) (s : Stretch) (r : ℕ) (t : Stretch) : Type 0 where
  pub bytes : t.image.now ≡ swept_bytes unit qs s.fill s.first s.image.now
  pub count : r ≡ pair_counts unit qs s.first (length s.image.now)
  pub image : t.image.ghost_name ≡ s.image.ghost_name
  pub first : t.first ≡ s.first
  pub fill : t.fill ≡ s.fill

-- by the class that is found for an address and so many bytes
pub record StretchSweeps (found : ℕ → ℕ → Answer Class) (s : Stretch) (r : Result ℕ Refusal) (t : Stretch) : Type 0 where
  pub sweeps : Sweeps (found s.first (length s.image.now)) s.first s.fill s.image.now r t.image.now
  pub image : t.image.ghost_name ≡ s.image.ghost_name
