-- What the calls of this crate answer, and the paper's numbers of each answer. Assumes nothing.
use Rattle.std.specs.Prelude.{◌≡◌, Bool, true, false, cond, List, [], ◌∷◌, ℕ, ◌-◌, ltb, length, get_or, Result, Ok, Err}
use Rattle.geometry.specs.declared.Geometry.{Geometry}
use Rattle.geometry.specs.declared.Refusal.{Refusal}
use Rattle.geometry.specs.declared.Reason.{Reason}
use Rattle.geometry.specs.declared.Reason.TheVariants.{MapLength, Record, ZoneCheck, CrossChecks, FreeChain, Fragment, Owner, Id, FreeTouching}
use Rattle.geometry.specs.declared.Reason.TheVariants.{IdAbsent, IdPresent, Argument, NotFree, NoId, NoRoom, PastEnd, Entries}
use Rattle.geometry.specs.Record.{disc_record, geometry_of}
use Rattle.geometry.specs.Ranges.{record_fits}
use Rattle.geometry.specs.Places.{start_zone, id_from}

-- the table's reasons, from number 1 on
abbrev pub reasons : List Reason
reasons =
    MapLength ∷ Record ∷ ZoneCheck ∷ CrossChecks ∷ FreeChain ∷ Fragment ∷ Owner ∷ Id ∷ FreeTouching
    ∷ IdAbsent ∷ IdPresent ∷ Argument ∷ NotFree ∷ NoId ∷ NoRoom ∷ PastEnd ∷ Entries ∷ []

abbrev pub reason_of : ℕ → Reason
reason_of n = get_or reasons (n - 1) Entries

-- the number of a reason
abbrev pub number : Reason → ℕ
number MapLength = 1
number Record = 2
number ZoneCheck = 3
number CrossChecks = 4
number FreeChain = 5
number Fragment = 6
number Owner = 7
number Id = 8
number FreeTouching = 9
number IdAbsent = 10
number IdPresent = 11
number Argument = 12
number NotFree = 13
number NoId = 14
number NoRoom = 15
number PastEnd = 16
number Entries = 17

-- a number of the table with the zone told, and a reason that tells none
abbrev pub refusal : ℕ → ℕ → Refusal
refusal n z = record { reason = reason_of n; zone = z }

abbrev pub without_zone : Reason → Refusal
without_zone r = record { reason = r; zone = 0 }

-- the record of a map: under 64 bytes 1, outside its ranges 2
abbrev pub by_fit : Bool → Geometry → Result Geometry Refusal
by_fit true g = Ok g
by_fit false g = Err (refusal 2 0)

abbrev pub by_length : Bool → Result Geometry Refusal → Result Geometry Refusal
by_length true r = Err (refusal 1 0)
by_length false r = r

abbrev pub record_of : List ℕ → Result Geometry Refusal
record_of m = by_length (ltb (length m) 64) (by_fit (record_fits (disc_record m)) (geometry_of m))

-- the paper's numbers: refusal (0: accepted) and zone told
abbrev pub record_numbers : Result Geometry Refusal → ℕ × ℕ
record_numbers (Ok g) = (0, 0)
record_numbers (Err r) = (number r.reason, r.zone)

-- as the table gives them: "map shorter than 64 bytes", "record outside its ranges", zone 0 told
abbrev pub record_told : List ℕ → ℕ × ℕ
record_told m = cond (ltb (length m) 64) (1, 0) (cond (record_fits (disc_record m)) (0, 0) (2, 0))

-- the answer to a map, and its numbers
pub record ReadsRecord (m : List ℕ) (r : Result Geometry Refusal) : Type 0 where
  pub answer : r ≡ record_of m
  pub numbers : record_numbers r ≡ record_told m

-- "the start zone of an id from 1 to P*nzones - 1; any other is refused with 8"; and 8 of the table: "id argument outside
-- 1 (list, start zone), 2 (address) or 3 (sweep, edits) to P*nzones-1"
abbrev pub by_name : Bool → ℕ → Result ℕ Refusal
by_name true z = Ok z
by_name false z = Err (refusal 8 0)

abbrev pub start_of : Geometry → ℕ → ℕ → Result ℕ Refusal
start_of g low id = by_name (id_from low g id) (start_zone g id)

-- the paper's numbers: refusal (0: accepted), zone told, and the start zone
abbrev pub start_numbers : Result ℕ Refusal → ℕ × ℕ × ℕ
start_numbers (Ok z) = (0, 0, z)
start_numbers (Err r) = (number r.reason, r.zone, 0)

abbrev pub start_told : Geometry → ℕ → ℕ → ℕ × ℕ × ℕ
start_told g low id = cond (id_from low g id) (0, 0, start_zone g id) (8, 0, 0)

-- the answer to an id, and its numbers
pub record TellsStart (g : Geometry) (low id : ℕ) (r : Result ℕ Refusal) : Type 0 where
  pub answer : r ≡ start_of g low id
  pub numbers : start_numbers r ≡ start_told g low id
