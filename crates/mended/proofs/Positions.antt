-- The positions that are listed are those that the mender changes: a mended map is as long as it was.
use mathlib.Core.Path.{◌≡◌, refl, sym, ap}
use mathlib.Core.Bool.{Bool, true, false}
use mathlib.Core.List.{List}
use mathlib.Core.Logic.{◌↔◌}
use Prim.Native.Nat.{ℕ, ◌<◌}
use lib.Dec.{leb}
use lib.ListN.{length, get_or}
use Rattle.bits.specs.Bits.{Bytes}
use Rattle.model.specs.Answer.{Answer, refused, answered, unless, and_then}
use Rattle.model.specs.Chain.{Entry}
use Rattle.model.specs.Check.{mend_read}
use Rattle.model.proofs.LinesJudged.{not_answered, same_answer}
use Rattle.edits.specs.Room.{In}
use Rattle.mended.specs.Mended.{mended, changed_at, positions_found}
use Rattle.mended.specs.Laws.{Rising}
use Rattle.mended.proofs.Differing.{differ_ascend, differ_exact}
use Rattle.mended.proofs.InOrder.{refused_stays}
use Rattle.mended.proofs.MapMended.{mends}

pub positions_listed : (m : List ℕ) (room : ℕ) (ps : List ℕ) → positions_found m room ≡ answered ps → ps ≡ changed_at m
positions_listed m room ps e = read (mend_read m) e
  where
    fits : (b : Bool) → unless b 17 (answered (changed_at m)) ≡ answered ps → ps ≡ changed_at m
    fits true e = sym (same_answer e)
    fits false e = absurd (not_answered e)

    read : (r : Answer (List (List Entry))) → and_then r (λ (ess : List (List Entry)). unless (leb (length (changed_at m)) room) 17 (answered (changed_at m))) ≡ answered ps
        → ps ≡ changed_at m
    read (refused n z) e = absurd (not_answered e)
    read (answered ess) e = fits (leb (length (changed_at m)) room) e

pub positions_ascend : (m : List ℕ) → Rising 0 (changed_at m)
positions_ascend m = differ_ascend 0 m (mended m)

as_long : (m : List ℕ) → Bytes m → length (mended m) ≡ length m
as_long m bytes = go (mend_read m) refl
  where
    go : (r : Answer (List (List Entry))) → mend_read m ≡ r → length (mended m) ≡ length m
    go (refused n z) e = ap length (refused_stays m n z e)
    go (answered ess) e = (mends m bytes ess e).long

pub positions_exact : (m : List ℕ) → Bytes m → (i : ℕ) → In i (changed_at m) ↔ ((i < length m) × (get_or m i 0 ≡ get_or (mended m) i 0 → ⊥))
positions_exact m bytes = differ_exact m (mended m) (as_long m bytes)
