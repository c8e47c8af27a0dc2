-- What holds of the mender (document 02, R-9), in the request's words. Assumes nothing.
use Rattle.std.specs.Prelude.{◌≡◌, false, List, [], ◌∷◌, ◌⊎◌, ◌↔◌, ℕ, suc, ◌<◌, ◌≤◌, length, get_or}
use Rattle.bits.specs.Bits.{byte_bits, Bytes}
use Rattle.checks.specs.Cross.{cross_of}
use Rattle.geometry.specs.Record.{geometry_of}
use Rattle.geometry.specs.Places.{first_bit, end_bit}
use Rattle.model.specs.Answer.{refused, answered}
use Rattle.model.specs.Chain.{Entry}
use Rattle.model.specs.Check.{map_read, mend_read}
use Rattle.model.specs.Pieces.{pieces_of_zones, object_pairs, free_spans}
use Rattle.model.specs.Refusals.{Exactly}
use Rattle.model.specs.Rules.{zone_block, MapRules}
use Rattle.model.specs.Shown.{listed_on, spans_on}
use Rattle.edits.specs.Editable.{Editable}
use Rattle.edits.specs.Judge.{Call}
use Rattle.edits.specs.Room.{In, InSome}
use Rattle.edits.specs.Steps.{outcome}
use Rattle.mended.specs.Mended.{mended, changed_at, positions_found}
use Rattle.mended.specs.Table.{MendJudged, PositionsJudged}

-- what a mended map is to the one before, which was read as `ess`
pub record Mends (m : List ℕ) (ess : List (List Entry)) (after : List ℕ) : Type 0 where
  -- "a mended map is accepted", no two free fragments of a zone touch, and so no edit refuses it with 9
  pub in_order : Editable after
  pub no_nine : (c : Call) (z : ℕ) → outcome after c ≡ refused 9 z → ⊥
  -- "Ownership of every bit is untouched": every object has the pieces that it had, and the free bits are those that were free
  pub same_disc : geometry_of after ≡ geometry_of m
  pub objects : (id : ℕ) → listed_on after id ≡ object_pairs (geometry_of m) id (pieces_of_zones (geometry_of m) 0 ess)
  pub free_bits : (d : ℕ) → InSome (spans_on after) d ↔ InSome (free_spans (geometry_of m) 0 ess) d
  -- "sets only zone 0's cross check"
  pub cross : (z : ℕ) → 0 < z → z < (geometry_of m).zones → cross_of (zone_block (geometry_of m) after z) ≡ cross_of (zone_block (geometry_of m) m z)
  -- nothing else is written: of each block the header's four bytes, which are check byte, FreeLink and cross check, and the allocation bits
  pub long : length after ≡ length m
  pub outside : (z : ℕ) → z < (geometry_of m).zones → (b : ℕ) → 32 ≤ b → (b < first_bit z) ⊎ (end_bit (geometry_of m) ≤ b)
      → get_or (byte_bits (zone_block (geometry_of m) after z)) b false ≡ get_or (byte_bits (zone_block (geometry_of m) m z)) b false

-- numbers that ascend, all from `low` on
abbrev pub Rising : ℕ → List ℕ → Type 0
Rising low [] = Unit {0}
Rising low (i ∷ is) = (low ≤ i) × Rising (suc i) is

pub record MendLaws : Type 0 where
  -- each refusal exactly when its line says so
  pub mend_judged : (m : List ℕ) → Exactly (MendJudged m) (mend_read m)
  pub positions_judged : (m : List ℕ) (room : ℕ) → Exactly (PositionsJudged m room) (positions_found m room)
  -- a map that the check refuses with neither 3 nor 4 is judged as the check judges it
  pub as_checked : (m : List ℕ) → ((z : ℕ) → map_read m ≡ refused 3 z → ⊥) → ((z : ℕ) → map_read m ≡ refused 4 z → ⊥) → mend_read m ≡ map_read m
  -- "and writes nothing"
  pub refused_stays : (m : List ℕ) (n z : ℕ) → mend_read m ≡ refused n z → mended m ≡ m
  pub mends : (m : List ℕ) → Bytes m → (ess : List (List Entry)) → mend_read m ≡ answered ess → Mends m ess (mended m)
  -- an accepted map shows the same before and after: `list` every pair, `free` every bit
  pub list_same : (m : List ℕ) → Bytes m → MapRules m → (id : ℕ) → listed_on (mended m) id ≡ listed_on m id
  pub free_same : (m : List ℕ) → Bytes m → MapRules m → (d : ℕ) → InSome (spans_on (mended m)) d ↔ InSome (spans_on m) d
  -- "mending twice is mending once"
  pub twice : (m : List ℕ) → Bytes m → mended (mended m) ≡ mended m
  -- "A map already in order stays the same, byte for byte", and of those that are not refused no other does
  pub stays : (m : List ℕ) → Editable m → mended m ≡ m
  pub only_in_order : (m : List ℕ) → Bytes m → (ess : List (List Entry)) → mend_read m ≡ answered ess → mended m ≡ m → Editable m
  -- "lists, ascending, .. exactly the byte positions the mender would change": the bytes at these differ, and at no others
  pub positions_listed : (m : List ℕ) (room : ℕ) (ps : List ℕ) → positions_found m room ≡ answered ps → ps ≡ changed_at m
  pub positions_ascend : (m : List ℕ) → Rising 0 (changed_at m)
  pub positions_exact : (m : List ℕ) → Bytes m → (i : ℕ) → In i (changed_at m) ↔ ((i < length m) × (get_or m i 0 ≡ get_or (mended m) i 0 → ⊥))
