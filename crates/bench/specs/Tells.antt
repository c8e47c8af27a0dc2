-- What each call's promise comes to in the table's numbers, refused and accepted, and what it leaves of what it was lent. It is stated of the
-- promises themselves, so that nothing between what is found and what is told can say something else. Assumes nothing.
use Rattle.std.specs.Prelude.{◌≡◌, List, [], ◌++◌, ◌↔◌, ℕ, ◌*◌, ◌<◌, length, get_or, take, drop, Result, Ok}
use Rattle.bits.specs.Bits.{Bytes}
use Rattle.geometry.specs.declared.Geometry.{Geometry}
use Rattle.geometry.specs.declared.Refusal.{Refusal}
use Rattle.claim.specs.declared.Given.{Given}
use Rattle.copies.specs.declared.Chosen.{Chosen}
use Rattle.copies.specs.declared.Which.TheVariants.{First, Second}
use Rattle.model.specs.Answer.{Answer, refused, answered}
use Rattle.model.specs.Chain.{Pair, Entry, numbers_of}
use Rattle.model.specs.Check.{map_read, mend_read}
use Rattle.map.specs.Checked.{Checks, check_numbers}
use Rattle.listing.specs.Listed.{Lists, list_numbers}
use Rattle.address.specs.Address.{Reaches, location_found, address_numbers}
use Rattle.address.specs.declared.Location.{Location}
use Rattle.sweep.specs.Sweep.{Class, Sweeps, swept_bytes, covered_count, sweep_numbers}
use Rattle.edits.specs.Edits.{Edit, takes, gives}
use Rattle.edits.specs.Judge.{release, place, claim}
use Rattle.edits.specs.Steps.{outcome}
use Rattle.edits.specs.Editable.{Editable}
use Rattle.edits.specs.Room.{In}
use Rattle.release.specs.Released.{Releases}
use Rattle.place.specs.Placed.{Places, place_numbers}
use Rattle.claim.specs.Claimed.{Claims, claim_numbers}
use Rattle.copies.specs.Copies.{copy_found, choice_numbers, Chooses, copy_judged, copy_numbers, CopiesOver, addresses_found, addresses_numbers, TellsAddresses}
use Rattle.copies.specs.declared.Addresses.{Addresses}
use Rattle.mended.specs.Mended.{positions_found}
use Rattle.mend.specs.Mends.{mend_numbers, Mending, positions_numbers, ListsChanges}
use Rattle.formatted.specs.Drawn.{format_found, length_found}
use Rattle.format.specs.Formats.{format_numbers, Formatting, length_numbers, TellsLength}

-- check
pub record CheckTells (m : List ℕ) (r : Result Geometry Refusal) : Type 0 where
  pub refused_told : (n z : ℕ) → map_read m ≡ refused n z → check_numbers r ≡ (n, z)
  pub accepted_told : (ess : List (List Entry)) → map_read m ≡ answered ess → check_numbers r ≡ (0, 0)

-- list, free and the list of a release: "Entries past the last pair are untouched"
pub record ListTells (found : Answer (List Pair)) (old : List ℕ) (r : Result ℕ Refusal) (new : List ℕ) : Type 0 where
  pub refused_told : (n z : ℕ) → found ≡ refused n z → (list_numbers r ≡ (n, z, 0)) × (new ≡ old)
  pub accepted_told : (qs : List Pair) → found ≡ answered qs → (list_numbers r ≡ (0, 0, length qs)) × (new ≡ numbers_of qs ++ drop (2 * length qs) old)

-- address
pub record AddressTells (found : Answer Location) (r : Result Location Refusal) : Type 0 where
  pub refused_told : (n z : ℕ) → found ≡ refused n z → address_numbers r ≡ (n, z, 0, 0)
  pub accepted_told : (l : Location) → found ≡ answered l → address_numbers r ≡ (0, 0, l.address, l.run)

-- the sweeps: "answers how many those are"
pub record SweepTells (found : Answer Class) (first fill : ℕ) (old : List ℕ) (r : Result ℕ Refusal) (new : List ℕ) : Type 0 where
  pub refused_told : (n z : ℕ) → found ≡ refused n z → (sweep_numbers r ≡ (n, z, 0)) × (new ≡ old)
  pub accepted_told : (c : Class) → found ≡ answered c
      → (sweep_numbers r ≡ (0, 0, covered_count c.unit c.pairs first (length old))) × (new ≡ swept_bytes c.unit c.pairs fill first old)

-- the edits: what is answered, and a refused one leaves the map
pub record ReleaseTells (m : List ℕ) (id : ℕ) (old : List ℕ) (r : Result ℕ Refusal) (after new : List ℕ) : Type 0 where
  pub refused_told : (n z : ℕ) → outcome m (release id (length old)) ≡ refused n z → (list_numbers r ≡ (n, z, 0)) × (new ≡ old) × (after ≡ m)
  pub accepted_told : (qs : List Pair) → outcome m (release id (length old)) ≡ answered (takes id qs)
      → (list_numbers r ≡ (0, 0, length qs)) × (new ≡ numbers_of qs ++ drop (2 * length qs) old)

pub record PlaceTells (m : List ℕ) (id : ℕ) (list : List ℕ) (r : Result (Unit {0}) Refusal) (after : List ℕ) : Type 0 where
  pub refused_told : (n z : ℕ) → outcome m (place id list) ≡ refused n z → (place_numbers r ≡ (n, z)) × (after ≡ m)
  pub accepted_told : (e : Edit) → outcome m (place id list) ≡ answered e → place_numbers r ≡ (0, 0)

pub record ClaimTells (m : List ℕ) (size parent : ℕ) (old : List ℕ) (r : Result Given Refusal) (after new : List ℕ) : Type 0 where
  pub refused_told : (n z : ℕ) → outcome m (claim size parent (length old)) ≡ refused n z → (claim_numbers r ≡ (n, z, 0, 0)) × (new ≡ old) × (after ≡ m)
  pub accepted_told : (id : ℕ) (qs : List Pair) → outcome m (claim size parent (length old)) ≡ answered (gives id qs)
      → (claim_numbers r ≡ (0, 0, id, length qs)) × (new ≡ numbers_of qs ++ drop (2 * length qs) old)

-- the two copies: refusal, zone, which, equal; "hand back the part that is an accepted map", or "an empty part"
pub record ChoiceTells (a b : List ℕ) (told : ℕ × ℕ × ℕ × ℕ) (handed : List ℕ) : Type 0 where
  pub refused_told : (n z : ℕ) → copy_found a b ≡ refused n z → (told ≡ (n, z, 0, told.3)) × (handed ≡ [])
  pub first_told : copy_found a b ≡ answered First → (told ≡ (0, 0, 1, told.3)) × (handed ≡ a)
  pub second_told : copy_found a b ≡ answered Second → (told ≡ (0, 0, 2, told.3)) × (handed ≡ b)
  pub equal_told : a ≡ b → told.3 ≡ 1
  pub unequal_told : (a ≡ b → ⊥) → told.3 ≡ 0

pub record CopyTells (source target : List ℕ) (r : Result (Unit {0}) Refusal) (after : List ℕ) : Type 0 where
  pub refused_told : (n z : ℕ) → copy_judged source target ≡ refused n z → (copy_numbers r ≡ (n, z)) × (after ≡ target)
  pub accepted_told : (bytes : List ℕ) → copy_judged source target ≡ answered bytes → (copy_numbers r ≡ (0, 0)) × (after ≡ source)

pub record AddressesTells (found : Answer Addresses) (r : Result Addresses Refusal) : Type 0 where
  pub refused_told : (n z : ℕ) → found ≡ refused n z → addresses_numbers r ≡ (n, z, 0, 0)
  pub accepted_told : (l : Addresses) → found ≡ answered l → addresses_numbers r ≡ (0, 0, l.first, l.second)

-- the mender and its positions: "one 32-bit number each"
pub record MendTells (m : List ℕ) (r : Result (Unit {0}) Refusal) (after : List ℕ) : Type 0 where
  pub refused_told : (n z : ℕ) → mend_read m ≡ refused n z → (mend_numbers r ≡ (n, z)) × (after ≡ m)
  pub accepted_told : (ess : List (List Entry)) → mend_read m ≡ answered ess → mend_numbers r ≡ (0, 0)

pub record PositionsTells (found : Answer (List ℕ)) (old : List ℕ) (r : Result ℕ Refusal) (new : List ℕ) : Type 0 where
  pub refused_told : (n z : ℕ) → found ≡ refused n z → (positions_numbers r ≡ (n, z, 0)) × (new ≡ old)
  pub accepted_told : (ps : List ℕ) → found ≡ answered ps → (positions_numbers r ≡ (0, 0, length ps)) × (new ≡ ps ++ drop (length ps) old)

-- formatting
pub record FormatTells (found : Answer (List ℕ)) (old : List ℕ) (r : Result (Unit {0}) Refusal) (after : List ℕ) : Type 0 where
  pub refused_told : (n z : ℕ) → found ≡ refused n z → (format_numbers r ≡ (n, z)) × (after ≡ old)
  pub accepted_told : (m : List ℕ) → found ≡ answered m → (format_numbers r ≡ (0, 0)) × (after ≡ m)

pub record LengthTells (found : Answer ℕ) (r : Result ℕ Refusal) : Type 0 where
  pub refused_told : (n z : ℕ) → found ≡ refused n z → length_numbers r ≡ (n, z, 0)
  pub accepted_told : (n : ℕ) → found ≡ answered n → length_numbers r ≡ (0, 0, n)

pub record AnswersTold : Type 0 where
  pub checks : (m : List ℕ) (r : Result Geometry Refusal) → Checks m r → CheckTells m r
  pub lists : (found : Answer (List Pair)) (old : List ℕ) (r : Result ℕ Refusal) (new : List ℕ) → Lists found old r new → ListTells found old r new
  pub reaches : (m : List ℕ) (n position : ℕ) (r : Result Location Refusal) → Reaches m n position r → AddressTells (location_found m n position) r
  pub sweeps : (found : Answer Class) (first fill : ℕ) (old : List ℕ) (r : Result ℕ Refusal) (new : List ℕ)
      → Sweeps found first fill old r new → SweepTells found first fill old r new
  pub releases : (m : List ℕ) (id : ℕ) (old : List ℕ) (r : Result ℕ Refusal) (after new : List ℕ) → Releases m id old r after new → ReleaseTells m id old r after new
  pub places : (m : List ℕ) (id : ℕ) (list : List ℕ) (r : Result (Unit {0}) Refusal) (after : List ℕ) → Places m id list r after → PlaceTells m id list r after
  pub claims : (m : List ℕ) (size parent : ℕ) (old : List ℕ) (r : Result Given Refusal) (after new : List ℕ) → Claims m size parent old r after new → ClaimTells m size parent old r after new
  pub chooses : (a b : List ℕ) (c : Chosen) → Chooses a b c → ChoiceTells a b (choice_numbers c) c.part.now
  pub copies : (source target : List ℕ) (r : Result (Unit {0}) Refusal) (after : List ℕ) → CopiesOver source target r after → CopyTells source target r after
  pub locates : (m : List ℕ) (r : Result Addresses Refusal) → TellsAddresses m r → AddressesTells (addresses_found m) r
  pub mends : (m : List ℕ) (r : Result (Unit {0}) Refusal) (after : List ℕ) → Mending m r after → MendTells m r after
  pub positions : (m old : List ℕ) (r : Result ℕ Refusal) (new : List ℕ) → ListsChanges m old r new → PositionsTells (positions_found m (length old)) old r new
  -- "exactly the byte positions the mender would change": of the promises of both calls on one map, what the second left in the list, cut to its
  -- number, are the positions at which the first left another byte
  pub listed_changed : (m old : List ℕ) (r : Result ℕ Refusal) (new : List ℕ) → ListsChanges m old r new → (ps : List ℕ) → positions_found m (length old) ≡ answered ps
      → (s : Result (Unit {0}) Refusal) (after : List ℕ) → Mending m s after → Bytes m
      → (i : ℕ) → In i (take (length ps) new) ↔ ((i < length m) × (get_or m i 0 ≡ get_or after i 0 → ⊥))
  pub formats : (logsector capacity idlen : ℕ) (old : List ℕ) (r : Result (Unit {0}) Refusal) (after : List ℕ) → Formatting logsector capacity idlen old r after
      → FormatTells (format_found logsector capacity idlen (length old)) old r after
  pub lengths : (logsector capacity idlen : ℕ) (r : Result ℕ Refusal) → TellsLength logsector capacity idlen r → LengthTells (length_found logsector capacity idlen) r
  -- "The drawn map must be accepted": of the promises of both calls and of the check, a buffer of the length that the one tells is drawn by the
  -- other, and the check accepts it
  pub length_drawn : (logsector capacity idlen n : ℕ) → TellsLength logsector capacity idlen (Ok n)
      → (old : List ℕ) → length old ≡ n → (s : Result (Unit {0}) Refusal) (after : List ℕ) → Formatting logsector capacity idlen old s after
      → (q : Result Geometry Refusal) → Checks after q → (format_numbers s ≡ (0, 0)) × (check_numbers q ≡ (0, 0))
  -- demand 3: "Release an ordinary object, with room for its list, and at once place the returned list under its number: both are accepted
  -- and every byte is as before, check bytes too." Of the promises: the list that the release left, cut to its pairs, is placed.
  pub returned_placed : (m : List ℕ) → Editable m → (id : ℕ) (old : List ℕ) (r : Result ℕ Refusal) (after new : List ℕ) → Releases m id old r after new
      → (qs : List Pair) → outcome m (release id (length old)) ≡ answered (takes id qs)
      → (s : Result (Unit {0}) Refusal) (end : List ℕ) → Places after id (take (2 * length qs) new) s end → (place_numbers s ≡ (0, 0)) × (end ≡ m)
  -- "An accepted place or claim followed at once by its release, again with room, does the same": of the promises of a claim and of a release that is lent the
  -- same room.
  pub claimed_released : (m : List ℕ) → Editable m → (size parent : ℕ) (old : List ℕ) (r : Result Given Refusal) (after new : List ℕ) → Claims m size parent old r after new
      → (id : ℕ) (qs : List Pair) → outcome m (claim size parent (length old)) ≡ answered (gives id qs)
      → (s : Result ℕ Refusal) (end list : List ℕ) → Releases after id new s end list → (list_numbers s ≡ (0, 0, length qs)) × (list ≡ new) × (end ≡ m)
