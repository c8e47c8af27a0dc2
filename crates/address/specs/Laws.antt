-- What holds of addresses on an accepted map (demand 2). Assumes nothing.
use Rattle.std.specs.Prelude.{◌≡◌, List, ℕ, suc, ◌+◌, ◌*◌, ◌<◌, ◌≤◌, length, get_or}
use Rattle.geometry.specs.declared.Geometry.{Geometry}
use Rattle.geometry.specs.Record.{version_of, geometry_of}
use Rattle.model.specs.Chain.{Pair, Entry}
use Rattle.model.specs.Answer.{refused, answered}
use Rattle.model.specs.Check.{map_read}
use Rattle.model.specs.Pieces.{pieces_of_zones, object_pairs}
use Rattle.model.specs.Refusals.{ByTable, Exactly}
use Rattle.listing.specs.Listed.{object_found}
use Rattle.listing.specs.Laws.{At}
use Rattle.address.specs.declared.Location.{Location}
use Rattle.address.specs.Address.{id_of, start_offset, seek, at, location_found, address_found}
use Rattle.address.specs.Refusals.{joined, address_lines, byte_location}
use Rattle.address.specs.Reading.{RunIn, copied, ReadsFile}

pub record AddressLaws : Type 0 where
  -- the call answers what its lines of the table say, in its order, and nothing else: each refusal "exactly when"
  pub address_by_table : (m : List ℕ) (n position : ℕ) → Exactly (ByTable m (address_lines m n position) (byte_location m n position)) (location_found m n position)
  -- "Address refuses E+ with 8, because its internal numbers are another matter" (document 02, R-12): every number, on every such map
  -- that is accepted
  pub plus_refused : (m : List ℕ) (ess : List (List Entry)) → map_read m ≡ answered ess → version_of m ≡ 1
      → (n position : ℕ) → location_found m n position ≡ refused 8 0
  -- "id = n div 256, low byte s. Start offset is 0 for s = 0, else (s-1)*S."
  pub whole_object : (g : Geometry) (id : ℕ) → start_offset g (id * 256) ≡ 0
  pub part_of_object : (g : Geometry) (id s : ℕ) → s < 255 → start_offset g (id * 256 + suc s) ≡ s * g.sector
  pub id_of_law : (id s : ℕ) → s < 256 → id_of (id * 256 + s) ≡ id
  -- The call's own answers. It answers the address of that byte of the object as `list` answers it;
  pub answer_is_byte : (m : List ℕ) (n position a : ℕ) → address_found m n position ≡ answered a
      → (room : ℕ) (qs : List Pair) → object_found m (id_of n) room ≡ answered qs
      → let g = geometry_of m in (start_offset g n + position < length (joined g.unit qs)) × (a ≡ get_or (joined g.unit qs) (start_offset g n + position) 0)
  -- two answers of one address speak of one object and of one byte of it, so two positions of a file have two addresses;
  pub one_byte : (m : List ℕ) (n k i j a : ℕ) → address_found m n i ≡ answered a → address_found m k j ≡ answered a
      → (id_of n ≡ id_of k) × (start_offset (geometry_of m) n + i ≡ start_offset (geometry_of m) k + j)
  -- and every address lies on the disc
  pub answer_on_disc : (m : List ℕ) (n position a : ℕ) → address_found m n position ≡ answered a → a < (geometry_of m).size
  -- An answer names one of the object's pieces as `list` answers them, and its run goes on to that piece's end (document 02, R-11);
  pub run_in_piece : (m : List ℕ) (n position : ℕ) (l : Location) → location_found m n position ≡ answered l
      → (room : ℕ) (qs : List Pair) → object_found m (id_of n) room ≡ answered qs
      → (k : ℕ) × (q : Pair) × At q k qs × RunIn m n position l qs k q
  -- so a copy tool that goes from run to run, and may ask once for each piece, reads the whole file
  pub copied_by_runs : (m : List ℕ) (n position : ℕ) (l : Location) → location_found m n position ≡ answered l
      → (room : ℕ) (qs : List Pair) → object_found m (id_of n) room ≡ answered qs
      → (asks : ℕ) → length qs ≤ asks → ReadsFile m n position qs (copied (location_found m n) asks position)
  -- and in version 0 every object that has a number: exactly its bytes, in order
  pub object_copied : (m : List ℕ) → version_of m ≡ 0 → (id room : ℕ) (qs : List Pair) → 2 ≤ id → object_found m id room ≡ answered qs
      → (asks : ℕ) → length qs ≤ asks → copied (location_found m (id * 256)) asks 0 ≡ joined (geometry_of m).unit qs
  -- byte i of the joined pieces is found at its address, and nothing past their end
  pub joined_found : (unit : ℕ) (qs : List Pair) (i : ℕ) → i < length (joined unit qs) → seek unit qs i ≡ at (get_or (joined unit qs) i 0)
  pub joined_ends : (unit : ℕ) (qs : List Pair) (i a : ℕ) → seek unit qs i ≡ at a → i < length (joined unit qs)
  -- two positions of an object give different addresses
  pub one_to_one : (m : List ℕ) (ess : List (List Entry)) → map_read m ≡ answered ess → (id i j a : ℕ) → let g = geometry_of m in
      let qs = object_pairs g id (pieces_of_zones g 0 ess) in
      seek g.unit qs i ≡ at a → seek g.unit qs j ≡ at a → i ≡ j
  -- an object other than 1 lies on the disc
  pub on_disc : (m : List ℕ) (ess : List (List Entry)) → map_read m ≡ answered ess → (id i a : ℕ) → (id ≡ 1 → ⊥) → let g = geometry_of m in
      seek g.unit (object_pairs g id (pieces_of_zones g 0 ess)) i ≡ at a → a < g.size
