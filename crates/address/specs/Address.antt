-- From a file's internal number and a position to a disc address, and how far may be read from there (document 01, "Address", refusals 8,
-- 10, 16; document 02, R-11, R-12).
-- Assumes nothing.
use Rattle.std.specs.Prelude.{◌≡◌, Bool, not, cond, ◌&&◌, List, [], ◌∷◌, ℕ, ◌+◌, ◌-◌, ◌*◌, ◌/◌, ◌%◌, eqb, ltb, Result, Ok, Err}
use Rattle.geometry.specs.declared.Geometry.{Geometry}
use Rattle.geometry.specs.declared.Refusal.{Refusal}
use Rattle.geometry.specs.Record.{geometry_of}
use Rattle.geometry.specs.Places.{id_from}
use Rattle.geometry.specs.Answers.{number, refusal}
use Rattle.model.specs.Answer.{Answer, refused, answered, unless, and_then}
use Rattle.model.specs.Chain.{Pair, Entry}
use Rattle.model.specs.Check.{map_read}
use Rattle.model.specs.Pieces.{pieces_of_zones, object_pairs}
use Rattle.listing.specs.Listed.{present}
use Rattle.address.specs.declared.Location.{Location}

-- "internal number n below 2^24: id = n div 256, low byte s. Start offset is 0 for s = 0, else (s-1)*S."
abbrev pub id_of : ℕ → ℕ
id_of n = n / 256

abbrev pub start_offset : Geometry → ℕ → ℕ
start_offset g n = cond (eqb (n % 256) 0) 0 ((n % 256 - 1) * g.sector)

-- "The object's bytes are its pieces joined in order": what is sought of a byte of them, or how far past their end it is
pub data Sought (A : Type 0) : Type 0 where
  at : A → Sought A
  past : ℕ → Sought A

-- Byte i of pieces at `unit` bytes a map bit: its disc address, and "how many bytes follow at consecutive disc addresses in the same
-- piece, the asked byte included. Touching pieces count as separate." (R-11)
abbrev pub locate : ℕ → List Pair → ℕ → Sought Location
locate unit [] i = past i
locate unit (q ∷ qs) i =
    cond (ltb i (q.len * unit)) (at (record { address = q.start * unit + i; run = q.len * unit - i })) (locate unit qs (i - q.len * unit))

-- its address alone
abbrev pub address_sought : Sought Location → Sought ℕ
address_sought (at l) = at l.address
address_sought (past i) = past i

abbrev pub seek : ℕ → List Pair → ℕ → Sought ℕ
seek unit qs i = address_sought (locate unit qs i)

-- 16: "start offset plus position not below the object's length"
abbrev pub within : Sought Location → Answer Location
within (at l) = answered l
within (past i) = refused 16 0

-- 8: "id argument outside .. 2 (address) .. to P*nzones-1; n not below 2^24"; "Address refuses E+ with 8, because its internal numbers are
-- another matter." (R-12)
abbrev pub number_fits : Geometry → ℕ → Bool
number_fits g n = not (eqb g.version 1) && (ltb n 16777216 && id_from 2 g (id_of n))

-- 8, 10, 16, then where the byte lies
abbrev pub location_read : Geometry → ℕ → ℕ → List (List Entry) → Answer Location
location_read g n position ess =
    unless (number_fits g n) 8
    (and_then (present (object_pairs g (id_of n) (pieces_of_zones g 0 ess))) (λ (qs : List Pair). within (locate g.unit qs (start_offset g n + position))))

abbrev pub location_found : List ℕ → ℕ → ℕ → Answer Location
location_found m n position = and_then (map_read m) (location_read (geometry_of m) n position)

-- the address of what is found
abbrev pub address_found : List ℕ → ℕ → ℕ → Answer ℕ
address_found m n position = and_then (location_found m n position) (λ (l : Location). answered l.address)

abbrev pub address_answer : Answer Location → Result Location Refusal
address_answer (answered l) = Ok l
address_answer (refused n z) = Err (refusal n z)

-- the paper's numbers: refusal (0: accepted), zone told, address, bytes that follow
abbrev pub address_numbers : Result Location Refusal → ℕ × ℕ × ℕ × ℕ
address_numbers (Ok l) = (0, 0, l.address, l.run)
address_numbers (Err r) = (number r.reason, r.zone, 0, 0)

-- as the table gives them for what is found
abbrev pub address_told : Answer Location → ℕ × ℕ × ℕ × ℕ
address_told (refused n z) = (n, z, 0, 0)
address_told (answered l) = (0, 0, l.address, l.run)

-- the answer with its numbers
pub record Reaches (m : List ℕ) (n position : ℕ) (r : Result Location Refusal) : Type 0 where
  pub answer : r ≡ address_answer (location_found m n position)
  pub numbers : address_numbers r ≡ address_told (location_found m n position)
