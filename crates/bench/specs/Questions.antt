-- A question to a call, and the numbers that it answers: the paper's numbers of the answer, and what is lent as it is afterwards,
-- each by the definition that the call's contract cites. Assumes nothing.
use Rattle.std.specs.Prelude.{Bool, List, [], ◌∷◌, ◌++◌, ℕ, length}
use Rattle.geometry.specs.declared.Geometry.{Geometry}
use Rattle.geometry.specs.Answers.{record_of, record_numbers, start_of, start_numbers}
use Rattle.checks.specs.Cross.{changes}
use Rattle.model.specs.Answer.{Answer}
use Rattle.model.specs.Chain.{Pair}
use Rattle.model.specs.Check.{mend_read}
use Rattle.map.specs.Checked.{checked, check_numbers}
use Rattle.listing.specs.Listed.{object_found, free_found, list_answer, list_after, list_numbers}
use Rattle.address.specs.Address.{location_found, address_answer, address_numbers}
use Rattle.sweep.specs.Sweep.{Class, object_sweep, free_sweep, sweep_answer, sweep_numbers, image_after}
use Rattle.edits.specs.Edits.{Edit}
use Rattle.edits.specs.Judge.{Call, need}
use Rattle.edits.specs.Judge as call
use Rattle.edits.specs.Steps.{outcome, pairs_told, step}
use Rattle.place.specs.Placed.{place_numbers}
use Rattle.place.specs.Placed as placed
use Rattle.claim.specs.Claimed.{claim_numbers}
use Rattle.claim.specs.Claimed as claimed
use Rattle.copies.specs.Copies.{copy_found, handed_back, same_bytes, choice_told, copy_judged, target_after, copy_answer, copy_numbers}
use Rattle.copies.specs.Copies.{addresses_found, addresses_answer, addresses_numbers}
use Rattle.mended.specs.Mended.{mended, positions_found}
use Rattle.mend.specs.Mends.{mend_answer, mend_numbers, positions_answer, positions_numbers, positions_after}
use Rattle.formatted.specs.Drawn.{format_found, buffer_after, length_found}
use Rattle.format.specs.Formats.{format_answer, format_numbers, length_answer, length_numbers}

-- the calls with what they are handed: lists and images as they are lent; `counted` and `counted_free` are sweeps of so many bytes
pub data Question : Type 0 where
  record_read : List ℕ → Question
  check : List ℕ → Question
  list : List ℕ → ℕ → List ℕ → Question
  free : List ℕ → List ℕ → Question
  address : List ℕ → ℕ → ℕ → Question
  sweep_object : List ℕ → ℕ → ℕ → ℕ → List ℕ → Question
  sweep_free : List ℕ → ℕ → ℕ → List ℕ → Question
  counted : List ℕ → ℕ → ℕ → ℕ → Question
  counted_free : List ℕ → ℕ → ℕ → Question
  release : List ℕ → ℕ → List ℕ → Question
  place : List ℕ → ℕ → List ℕ → Question
  claim : List ℕ → ℕ → ℕ → List ℕ → Question
  choose : List ℕ → List ℕ → Question
  copy_over : List ℕ → List ℕ → Question
  copy_addresses : List ℕ → Question
  mend : List ℕ → Question
  mend_positions : List ℕ → List ℕ → Question
  format : ℕ → ℕ → ℕ → List ℕ → Question
  format_length : ℕ → ℕ → ℕ → Question
  -- the map after an edit
  after : List ℕ → Call → Question
  -- start zone, sizes and need of a geometry; what an edit of these zones does to their cross checks
  start : Geometry → ℕ → Question
  sizes : Geometry → Question
  bits_for : Geometry → ℕ → Question
  change : List Bool → Question

abbrev pub two : ℕ × ℕ → List ℕ
two n = n.0 ∷ n.1 ∷ []

abbrev pub three : ℕ × ℕ × ℕ → List ℕ
three n = n.0 ∷ n.1 ∷ n.2 ∷ []

abbrev pub four : ℕ × ℕ × ℕ × ℕ → List ℕ
four n = n.0 ∷ n.1 ∷ n.2 ∷ n.3 ∷ []

-- refusal, zone and pairs, and the lent list afterwards
abbrev pub listed : List ℕ → Answer (List Pair) → List ℕ
listed old found = three (list_numbers (list_answer found)) ++ list_after old found

-- the same of a claim, with the id before the pairs
abbrev pub claimed_list : List ℕ → Answer Edit → List ℕ
claimed_list old found = four (claim_numbers (claimed.claim_answer found)) ++ list_after old (pairs_told found)

-- refusal, zone and count of a stretch of n bytes
abbrev pub sweep_count : ℕ → ℕ → Answer Class → List ℕ
sweep_count first n found = three (sweep_numbers (sweep_answer first n found))

-- the same, and the lent stretch afterwards
abbrev pub swept : ℕ → ℕ → List ℕ → Answer Class → List ℕ
swept first fill old found = sweep_count first (length old) found ++ image_after first fill old found

abbrev pub answer : Question → List ℕ
answer (record_read m) = two (record_numbers (record_of m))
answer (check m) = two (check_numbers (checked m))
answer (list m id old) = listed old (object_found m id (length old))
answer (free m old) = listed old (free_found m (length old))
answer (address m n position) = four (address_numbers (address_answer (location_found m n position)))
answer (sweep_object m id first fill old) = swept first fill old (object_sweep m id first (length old))
answer (sweep_free m first fill old) = swept first fill old (free_sweep m first (length old))
answer (counted m id first n) = sweep_count first n (object_sweep m id first n)
answer (counted_free m first n) = sweep_count first n (free_sweep m first n)
answer (release m id old) = listed old (pairs_told (outcome m (call.release id (length old))))
answer (place m id l) = two (place_numbers (placed.place_answer (outcome m (call.place id l))))
answer (claim m size parent old) = claimed_list old (outcome m (call.claim size parent (length old)))
answer (choose a b) = four (choice_told (copy_found a b) (same_bytes a b)) ++ handed_back a b
answer (copy_over s t) = two (copy_numbers (copy_answer (copy_judged s t))) ++ target_after t (copy_judged s t)
answer (copy_addresses m) = four (addresses_numbers (addresses_answer (addresses_found m)))
answer (mend m) = two (mend_numbers (mend_answer (mend_read m))) ++ mended m
answer (mend_positions m old) = three (positions_numbers (positions_answer (positions_found m (length old)))) ++ positions_after old (positions_found m (length old))
answer (format logsector capacity idlen old) =
    let found = format_found logsector capacity idlen (length old) in
    two (format_numbers (format_answer found)) ++ buffer_after old found
answer (format_length logsector capacity idlen) = three (length_numbers (length_answer (length_found logsector capacity idlen)))
answer (after m c) = step m c
answer (start g id) = three (start_numbers (start_of g 1 id))
answer (sizes g) = g.bits ∷ g.shortest ∷ g.ids ∷ g.size ∷ []
answer (bits_for g size) = need g size ∷ []
answer (change touched) = changes touched
