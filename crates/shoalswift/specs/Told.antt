-- What the exported functions promise: the numbers told, as the table gives them for what a call finds, and every lent byte. The numbers
-- are the refusal (0: accepted), the zone told, and what the call answers besides. Assumes nothing.
use Rattle.std.specs.Prelude.{◌≡◌, List, ℕ, length, Result, Ok, Err}
use Rattle.geometry.specs.declared.Refusal.{Refusal}
use Rattle.geometry.specs.Answers.{number}
use Rattle.model.specs.Answer.{Answer}
use Rattle.model.specs.Chain.{Pair}
use Rattle.edits.specs.Judge.{release, place, claim}
use Rattle.edits.specs.Steps.{outcome, pairs_told, step}
use Rattle.listing.specs.Listed.{list_told, list_after}
use Rattle.sweep.specs.Sweep.{Class, sweep_told, image_after}
use Rattle.place.specs.Placed.{place_told}
use Rattle.claim.specs.Claimed.{claim_told}
use Rattle.model.specs.Check.{mend_read}
use Rattle.copies.specs.Copies.{copy_judged, copy_told, target_after}
use Rattle.mended.specs.Mended.{mended, positions_found}
use Rattle.mend.specs.Mends.{mend_told, positions_told, positions_after}
use Rattle.formatted.specs.Drawn.{format_found, buffer_after}
use Rattle.format.specs.Formats.{format_told}

-- an answer as numbers: 0, zone 0 and its value, or the refusal's number, its zone, and what stands for none
abbrev pub told : {T : Type 0} → T → Result T Refusal → ℕ × ℕ × T
told none (Ok x) = (0, 0, x)
told none (Err r) = (number r.reason, r.zone, none)

-- a listing, by what it finds with so much room
pub record ListTold (found : ℕ → Answer (List Pair)) (old : List ℕ) (told : ℕ × ℕ × ℕ) (new : List ℕ) : Type 0 where
  pub numbers : told ≡ list_told (found (length old))
  pub list : new ≡ list_after old (found (length old))

-- a sweep, by the class that it finds for a stretch
pub record SweepTold (found : ℕ → ℕ → Answer Class) (first fill : ℕ) (old : List ℕ) (told : ℕ × ℕ × ℕ) (new : List ℕ) : Type 0 where
  pub numbers : told ≡ sweep_told first (length old) (found first (length old))
  pub image : new ≡ image_after first fill old (found first (length old))

pub record ReleaseTold (m : List ℕ) (id : ℕ) (old : List ℕ) (told : ℕ × ℕ × ℕ) (after new : List ℕ) : Type 0 where
  pub lists : ListTold (λ room. pairs_told (outcome m (release id room))) old told new
  pub bytes : after ≡ step m (release id (length old))

pub record PlaceTold (m : List ℕ) (id : ℕ) (list : List ℕ) (told : ℕ × ℕ) (after : List ℕ) : Type 0 where
  pub numbers : told ≡ place_told (outcome m (place id list))
  pub bytes : after ≡ step m (place id list)

pub record ClaimTold (m : List ℕ) (size parent : ℕ) (old : List ℕ) (told : ℕ × ℕ × ℕ × ℕ) (after new : List ℕ) : Type 0 where
  pub numbers : told ≡ claim_told (outcome m (claim size parent (length old)))
  pub list : new ≡ list_after old (pairs_told (outcome m (claim size parent (length old))))
  pub bytes : after ≡ step m (claim size parent (length old))

pub record CopyTold (source target : List ℕ) (told : ℕ × ℕ) (after : List ℕ) : Type 0 where
  pub numbers : told ≡ copy_told (copy_judged source target)
  pub bytes : after ≡ target_after target (copy_judged source target)

pub record MendTold (m : List ℕ) (told : ℕ × ℕ) (after : List ℕ) : Type 0 where
  pub numbers : told ≡ mend_told (mend_read m)
  pub bytes : after ≡ mended m

pub record PositionsTold (m old : List ℕ) (told : ℕ × ℕ × ℕ) (new : List ℕ) : Type 0 where
  pub numbers : told ≡ positions_told (positions_found m (length old))
  pub list : new ≡ positions_after old (positions_found m (length old))

pub record FormatTold (logsector capacity idlen : ℕ) (old : List ℕ) (told : ℕ × ℕ) (after : List ℕ) : Type 0 where
  pub numbers : told ≡ format_told (format_found logsector capacity idlen (length old))
  pub bytes : after ≡ buffer_after old (format_found logsector capacity idlen (length old))
