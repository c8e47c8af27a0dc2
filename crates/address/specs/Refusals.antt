-- The lines of document 01's table for the call `address` ("Numbered refusals"), in its order, and the value: where the byte lies. The
-- sentence of 10 stands in `model/Refusals`. They speak of the object's pairs as `list` shows them; `AddressLaws` has that the call answers them and nothing
-- else. Assumes nothing.
use Rattle.std.specs.Prelude.{◌≡◌, List, [], ◌∷◌, ◌++◌, ◌⊎◌, ℕ, zero, suc, ◌+◌, ◌*◌, ◌^◌, ◌≤◌, get_or}
use Rattle.geometry.specs.Record.{version_of, geometry_of}
use Rattle.model.specs.Chain.{Pair}
use Rattle.model.specs.Shown.{listed_on}
use Rattle.model.specs.Refusals.{Refusing, line, Outside, NotThere}
use Rattle.address.specs.declared.Location.{Location}
use Rattle.address.specs.Address.{id_of, start_offset}

-- "The object's bytes are its pieces joined in order": their addresses, one after another
abbrev pub addresses_from : ℕ → ℕ → List ℕ
addresses_from a zero = []
addresses_from a (suc n) = a ∷ addresses_from (suc a) n

abbrev pub joined : ℕ → List Pair → List ℕ
joined unit [] = []
joined unit (q ∷ qs) = addresses_from (q.start * unit) (q.len * unit) ++ joined unit qs

-- and how many bytes there are from each to its piece's end, itself included
abbrev pub countdown : ℕ → List ℕ
countdown zero = []
countdown (suc n) = suc n ∷ countdown n

abbrev pub joined_runs : ℕ → List Pair → List ℕ
joined_runs unit [] = []
joined_runs unit (q ∷ qs) = countdown (q.len * unit) ++ joined_runs unit qs

-- all the pairs' bits together
abbrev pub total_length : List Pair → ℕ
total_length [] = 0
total_length (q ∷ qs) = q.len + total_length qs

-- "the object's length", in bytes
abbrev pub bytes_long : List ℕ → ℕ → ℕ
bytes_long m id = total_length (listed_on m id) * (geometry_of m).unit

abbrev pub address_lines : List ℕ → ℕ → ℕ → List Refusing
address_lines m n position =
    -- "Address refuses E+ with 8" (document 02, R-12); "id argument outside .. 2 (address) .. to P*nzones-1; n not below 2^24"
    line 8 ((version_of m ≡ 1) ⊎ (Outside 2 m (id_of n) ⊎ (2 ^ 24 ≤ n)))
    ∷ line 10 (NotThere m (id_of n))
    -- "start offset plus position not below the object's length"
    ∷ line 16 (bytes_long m (id_of n) ≤ start_offset (geometry_of m) n + position)
    ∷ []

-- where that byte of the object lies: its address, and the bytes from there to the piece's end
abbrev pub byte_address : List ℕ → ℕ → ℕ → ℕ
byte_address m n position = get_or (joined (geometry_of m).unit (listed_on m (id_of n))) (start_offset (geometry_of m) n + position) 0

abbrev pub byte_location : List ℕ → ℕ → ℕ → Location
byte_location m n position = record {
  address = byte_address m n position;
  run = get_or (joined_runs (geometry_of m).unit (listed_on m (id_of n))) (start_offset (geometry_of m) n + position) 0;
}
