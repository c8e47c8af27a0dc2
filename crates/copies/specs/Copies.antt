-- The map's two copies: which of them is a map, one written over the other, and where they lie (document 02, R-5). Assumes nothing.
use Rattle.std.specs.Prelude.{◌≡◌, Bool, cond, List, [], ℕ, ◌+◌, ◌*◌, ◌/◌, eqb, length, Result, Ok, Err}
use Rattle.std.specs.Cmp.Lexicographic.{pointwise}
use Rattle.geometry.specs.declared.Geometry.{Geometry}
use Rattle.geometry.specs.declared.Refusal.{Refusal}
use Rattle.geometry.specs.Record.{geometry_of}
use Rattle.geometry.specs.Places.{zone_from}
use Rattle.geometry.specs.Answers.{number, refusal}
use Rattle.model.specs.Answer.{Answer, refused, answered, unless, and_then}
use Rattle.model.specs.Chain.{Entry}
use Rattle.model.specs.Check.{map_read}
use Rattle.copies.specs.declared.Which.{Which}
use Rattle.copies.specs.declared.Which.TheVariants.{First, Second}
use Rattle.copies.specs.declared.Chosen.{Chosen}
use Rattle.copies.specs.declared.Addresses.{Addresses}

-- "hand back the part that is an accepted map: the first if it is accepted, else the second, else the first's refusal and an empty part"
abbrev pub or_else : Answer (List (List Entry)) → Answer (List (List Entry)) → Answer Which
or_else (answered ess) r = answered First
or_else (refused n z) (answered ess) = answered Second
or_else (refused n z) (refused k y) = refused n z

abbrev pub copy_found : List ℕ → List ℕ → Answer Which
copy_found a b = or_else (map_read a) (map_read b)

abbrev pub part_of : List ℕ → List ℕ → Answer Which → List ℕ
part_of a b (answered First) = a
part_of a b (answered Second) = b
part_of a b (refused n z) = []

abbrev pub handed_back : List ℕ → List ℕ → List ℕ
handed_back a b = part_of a b (copy_found a b)

-- "Say also whether they are byte for byte equal." Copies of unequal lengths are not.
abbrev pub same_bytes : List ℕ → List ℕ → Bool
same_bytes = pointwise eqb

-- the answer: which copy, or the first's refusal
abbrev pub which_answer : Answer Which → Result Which Refusal
which_answer (answered w) = Ok w
which_answer (refused n z) = Err (refusal n z)

-- the paper's numbers: refusal (0: accepted), zone told, which copy (0: refused), and whether they are equal, which is told in every case
abbrev pub which_numbers : Result Which Refusal → Bool → ℕ × ℕ × ℕ × ℕ
which_numbers (Ok First) e = (0, 0, 1, cond e 1 0)
which_numbers (Ok Second) e = (0, 0, 2, cond e 1 0)
which_numbers (Err r) e = (number r.reason, r.zone, 0, cond e 1 0)

abbrev pub choice_numbers : Chosen → ℕ × ℕ × ℕ × ℕ
choice_numbers c = which_numbers c.which c.equal

-- as the table gives them
abbrev pub choice_told : Answer Which → Bool → ℕ × ℕ × ℕ × ℕ
choice_told (answered First) e = (0, 0, 1, cond e 1 0)
choice_told (answered Second) e = (0, 0, 2, cond e 1 0)
choice_told (refused n z) e = (n, z, 0, cond e 1 0)

-- the answer with its numbers, and the part handed back
pub record Chooses (a b : List ℕ) (c : Chosen) : Type 0 where
  pub which : c.which ≡ which_answer (copy_found a b)
  pub equal : c.equal ≡ same_bytes a b
  pub numbers : choice_numbers c ≡ choice_told (copy_found a b) (same_bytes a b)
  pub part : c.part.now ≡ handed_back a b

-- "a call that writes one over the other; it answers the source's refusal first, then 1 where lengths differ, and then writes nothing":
-- the bytes that the target is to have
abbrev pub copy_judged : List ℕ → List ℕ → Answer (List ℕ)
copy_judged source target = and_then (map_read source) (λ (ess : List (List Entry)). unless (eqb (length target) (length source)) 1 (answered source))

abbrev pub target_after : List ℕ → Answer (List ℕ) → List ℕ
target_after target (refused n z) = target
target_after target (answered bytes) = bytes

abbrev pub copy_answer : Answer (List ℕ) → Result (Unit {0}) Refusal
copy_answer (refused n z) = Err (refusal n z)
copy_answer (answered bytes) = Ok tt

-- the paper's numbers: refusal (0: accepted) and zone told
abbrev pub copy_numbers : Result (Unit {0}) Refusal → ℕ × ℕ
copy_numbers (Ok done) = (0, 0)
copy_numbers (Err r) = (number r.reason, r.zone)

-- as the table gives them
abbrev pub copy_told : Answer (List ℕ) → ℕ × ℕ
copy_told (refused n z) = (n, z)
copy_told (answered bytes) = (0, 0)

-- the answer with its numbers, and every byte of the target
pub record CopiesOver (source target : List ℕ) (r : Result (Unit {0}) Refusal) (after : List ℕ) : Type 0 where
  pub answer : r ≡ copy_answer (copy_judged source target)
  pub numbers : copy_numbers r ≡ copy_told (copy_judged source target)
  pub bytes : after ≡ target_after target (copy_judged source target)

-- "The map is stored twice, the second straight after the first, at the address of the middle zone's first bit."
abbrev pub first_copy : Geometry → ℕ
first_copy g = zone_from g (g.zones / 2) * g.unit

abbrev pub copies_of : Geometry → Addresses
copies_of g = record { first = first_copy g; second = first_copy g + g.zones * g.sector }

abbrev pub addresses_found : List ℕ → Answer Addresses
addresses_found m = and_then (map_read m) (λ (ess : List (List Entry)). answered (copies_of (geometry_of m)))

abbrev pub addresses_answer : Answer Addresses → Result Addresses Refusal
addresses_answer (refused n z) = Err (refusal n z)
addresses_answer (answered l) = Ok l

-- the paper's numbers: refusal (0: accepted), zone told, the two addresses
abbrev pub addresses_numbers : Result Addresses Refusal → ℕ × ℕ × ℕ × ℕ
addresses_numbers (Ok l) = (0, 0, l.first, l.second)
addresses_numbers (Err r) = (number r.reason, r.zone, 0, 0)

-- as the table gives them
abbrev pub addresses_told : Answer Addresses → ℕ × ℕ × ℕ × ℕ
addresses_told (refused n z) = (n, z, 0, 0)
addresses_told (answered l) = (0, 0, l.first, l.second)

-- the answer with its numbers
pub record TellsAddresses (m : List ℕ) (r : Result Addresses Refusal) : Type 0 where
  pub answer : r ≡ addresses_answer (addresses_found m)
  pub numbers : addresses_numbers r ≡ addresses_told (addresses_found m)
