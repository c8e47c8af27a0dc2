-- Which empty programs the contracts shut out (document 01, "Which empty programs each statement shuts out"): no call's contract can
-- be met by a program that refuses always, that gives one answer always or that writes nothing, nor a sweep's by one that writes
-- everywhere. The contracts are the promises of the calls themselves. Assumes nothing.
use Rattle.std.specs.Prelude.{◌≡◌, List, [], ℕ, ◌≤◌, length, drop, replicate, Result, Ok, Err}
use Rattle.geometry.specs.declared.Geometry.{Geometry}
use Rattle.geometry.specs.declared.Refusal.{Refusal}
use Rattle.geometry.specs.Answers.{number}
use Rattle.address.specs.declared.Location.{Location}
use Rattle.claim.specs.declared.Given.{Given}
use Rattle.copies.specs.declared.Addresses.{Addresses}
use Rattle.copies.specs.declared.Chosen.{Chosen}
use Rattle.map.specs.Checked.{Checks}
use Rattle.listing.specs.Listed.{object_found, free_found, Lists}
use Rattle.address.specs.Address.{Reaches}
use Rattle.sweep.specs.Sweep.{object_sweep, free_sweep, Sweeps}
use Rattle.release.specs.Released.{Releases}
use Rattle.place.specs.Placed.{Places}
use Rattle.claim.specs.Claimed.{Claims, claim_numbers}
use Rattle.copies.specs.Copies.{choice_numbers, Chooses, CopiesOver, TellsAddresses}
use Rattle.mend.specs.Mends.{Mending, ListsChanges}
use Rattle.format.specs.Formats.{Formatting, TellsLength}

-- a contract: of a map and what else a call is handed (H), what it answers (A) and what it leaves of what it is lent (L)
abbrev pub Contract : Type 0 → Type 0 → Type 0 → Type 1
Contract H A L = List ℕ → H → A → L → Type 0

-- some program meets the contract that refuses every map; that answers without reading the map; that leaves what `left` says
abbrev pub Refuses : {H A L : Type 0} → (Refusal → A) → Contract H A L → Type 0
Refuses {H} {A} {L} refusal c = (m : List ℕ) (h : H) → (r : Refusal) × (l : L) × c m h (refusal r) l

abbrev pub OneAnswer : {H A L : Type 0} → Contract H A L → Type 0
OneAnswer {H} {A} {L} c = (h : H) → (a : A) × ((m : List ℕ) → (l : L) × c m h a l)

abbrev pub Leaves : {H A L : Type 0} → (List ℕ → H → L) → Contract H A L → Type 0
Leaves {H} {A} {L} left c = (m : List ℕ) (h : H) → (a : A) × c m h a (left m h)

pub record NoEmptyAnswer {H A L : Type 0} (refusal : Refusal → A) (c : Contract H A L) : Type 0 where
  pub refuses : Refuses refusal c → ⊥
  pub one_answer : OneAnswer c → ⊥

-- The contracts. A list or a stretch that is lent comes last of what is handed in.
abbrev pub checks : Contract (Unit {0}) (Result Geometry Refusal) (Unit {0})
checks m h r l = Checks m r

abbrev pub lists : Contract (ℕ × List ℕ) (Result ℕ Refusal) (List ℕ)
lists m h r new = Lists (object_found m h.0 (length h.1)) h.1 r new

abbrev pub frees : Contract (List ℕ) (Result ℕ Refusal) (List ℕ)
frees m old r new = Lists (free_found m (length old)) old r new

abbrev pub reaches : Contract (ℕ × ℕ) (Result Location Refusal) (Unit {0})
reaches m h r l = Reaches m h.0 h.1 r

-- id, first address, fill
abbrev pub sweeps : Contract (ℕ × ℕ × ℕ × List ℕ) (Result ℕ Refusal) (List ℕ)
sweeps m h r new = Sweeps (object_sweep m h.0 h.1 (length h.3)) h.1 h.2 h.3 r new

abbrev pub sweeps_free : Contract (ℕ × ℕ × List ℕ) (Result ℕ Refusal) (List ℕ)
sweeps_free m h r new = Sweeps (free_sweep m h.0 (length h.2)) h.0 h.1 h.2 r new

-- a release leaves a map and a list: both, then each with the other among the answers
abbrev pub releases : Contract (ℕ × List ℕ) (Result ℕ Refusal) (List ℕ × List ℕ)
releases m h r l = Releases m h.0 h.1 r l.0 l.1

abbrev pub released_map : Contract (ℕ × List ℕ) (Result ℕ Refusal × List ℕ) (List ℕ)
released_map m h r after = Releases m h.0 h.1 r.0 after r.1

abbrev pub released_list : Contract (ℕ × List ℕ) (Result ℕ Refusal × List ℕ) (List ℕ)
released_list m h r new = Releases m h.0 h.1 r.0 r.1 new

abbrev pub places : Contract (ℕ × List ℕ) (Result (Unit {0}) Refusal) (List ℕ)
places m h r after = Places m h.0 h.1 r after

-- size, parent zone; a claim leaves a map and a list, as a release does
abbrev pub claims : Contract (ℕ × ℕ × List ℕ) (Result Given Refusal) (List ℕ × List ℕ)
claims m h r l = Claims m h.0 h.1 h.2 r l.0 l.1

abbrev pub claimed_map : Contract (ℕ × ℕ × List ℕ) (Result Given Refusal × List ℕ) (List ℕ)
claimed_map m h r after = Claims m h.0 h.1 h.2 r.0 after r.1

abbrev pub claimed_list : Contract (ℕ × ℕ × List ℕ) (Result Given Refusal × List ℕ) (List ℕ)
claimed_list m h r new = Claims m h.0 h.1 h.2 r.0 r.1 new

-- the numbers that a choice among two copies tells, and the part that it hands back
pub record ChoiceIs (a b : List ℕ) (told : ℕ × ℕ × ℕ × ℕ) (handed : List ℕ) : Type 0 where
  pub choice : Chosen
  pub chooses : Chooses a b choice
  pub numbers : choice_numbers choice ≡ told
  pub part : choice.part.now ≡ handed

-- the second copy is handed in with the first: refusal, zone and which are the answer; then the part handed back and the equality, each with
-- the other among the answers
abbrev pub chooses : Contract (List ℕ) (ℕ × ℕ × ℕ) (ℕ × List ℕ)
chooses a b r l = ChoiceIs a b (r.0, r.1, r.2, l.0) l.1

abbrev pub hands_back : Contract (List ℕ) (ℕ × ℕ × ℕ × ℕ) (List ℕ)
hands_back a b r part = ChoiceIs a b r part

abbrev pub tells_equal : Contract (List ℕ) (ℕ × ℕ × ℕ × List ℕ) ℕ
tells_equal a b r equal = ChoiceIs a b (r.0, r.1, r.2, equal) r.3

abbrev pub copies_over : Contract (List ℕ) (Result (Unit {0}) Refusal) (List ℕ)
copies_over source target r after = CopiesOver source target r after

abbrev pub locates : Contract (Unit {0}) (Result Addresses Refusal) (Unit {0})
locates m h r l = TellsAddresses m r

abbrev pub mends : Contract (Unit {0}) (Result (Unit {0}) Refusal) (List ℕ)
mends m h r after = Mending m r after

abbrev pub lists_changes : Contract (List ℕ) (Result ℕ Refusal) (List ℕ)
lists_changes m old r new = ListsChanges m old r new

-- log2secsize, capacity, idlen; the map is a buffer, whose bytes are of no account
abbrev pub formats : Contract (ℕ × ℕ × ℕ) (Result (Unit {0}) Refusal) (List ℕ)
formats old h r after = Formatting h.0 h.1 h.2 old r after

abbrev pub tells_length : ℕ × ℕ × ℕ → Result ℕ Refusal → Type 0
tells_length h r = TellsLength h.0 h.1 h.2 r

pub record EmptyPrograms : Type 0 where
  pub check : NoEmptyAnswer Err checks
  pub list : NoEmptyAnswer Err lists
  pub list_writes_nothing : Leaves (λ m h. h.1) lists → ⊥
  pub free : NoEmptyAnswer Err frees
  pub free_writes_nothing : Leaves (λ m old. old) frees → ⊥
  pub address : NoEmptyAnswer Err reaches
  pub sweep : NoEmptyAnswer Err sweeps
  pub sweep_writes_nothing : Leaves (λ m h. h.3) sweeps → ⊥
  pub sweep_writes_all : Leaves (λ m h. replicate (length h.3) h.2) sweeps → ⊥
  pub free_sweep_law : NoEmptyAnswer Err sweeps_free
  pub free_sweep_writes_nothing : Leaves (λ m h. h.2) sweeps_free → ⊥
  pub free_sweep_writes_all : Leaves (λ m h. replicate (length h.2) h.1) sweeps_free → ⊥
  pub release : NoEmptyAnswer Err releases
  pub release_edits_nothing : Leaves (λ m h. m) released_map → ⊥
  pub release_writes_nothing : Leaves (λ m h. h.1) released_list → ⊥
  -- place, which a version that does everything at release would fake, and claim
  pub place : NoEmptyAnswer Err places
  pub place_edits_nothing : Leaves (λ m h. m) places → ⊥
  pub claim : NoEmptyAnswer Err claims
  pub claim_edits_nothing : Leaves (λ m h. m) claimed_map → ⊥
  pub claim_writes_nothing : Leaves (λ m h. h.2) claimed_list → ⊥
  -- a claim that does the same whatever the parent zone is; one that never gives more than one pair
  pub claim_by_size : ((m : List ℕ) (size : ℕ) (old : List ℕ) → (a : Result Given Refusal) × (l : List ℕ × List ℕ) × ((parent : ℕ) → claims m (size, parent, old) a l)) → ⊥
  pub claim_one_pair : ((m : List ℕ) (h : ℕ × ℕ × List ℕ) → (a : Result Given Refusal) × (l : List ℕ × List ℕ) × claims m h a l × ((claim_numbers a).3 ≤ 1)) → ⊥
  -- the two copies: nothing handed back, always the first, always the second; never told equal, always told equal
  pub choose : NoEmptyAnswer (λ r. (number r.reason, r.zone, 0)) chooses
  pub choose_nothing : Leaves (λ a b. []) hands_back → ⊥
  pub choose_first : Leaves (λ a b. a) hands_back → ⊥
  pub choose_second : Leaves (λ a b. b) hands_back → ⊥
  pub never_equal : Leaves (λ a b. 0) tells_equal → ⊥
  pub always_equal : Leaves (λ a b. 1) tells_equal → ⊥
  -- one over the other: nothing written, or the source whatever it is
  pub copy : NoEmptyAnswer Err copies_over
  pub copy_writes_nothing : Leaves (λ source target. target) copies_over → ⊥
  pub copy_writes_always : Leaves (λ source target. source) copies_over → ⊥
  pub addresses : NoEmptyAnswer Err locates
  -- the mender: nothing written; a mender that leaves the bits alone and only sets check bytes; positions that are none or all
  pub mend : NoEmptyAnswer Err mends
  pub mend_writes_nothing : Leaves (λ m h. m) mends → ⊥
  pub mend_keeps_bits : ((m : List ℕ) (h : Unit {0}) → (a : Result (Unit {0}) Refusal) × (after : List ℕ) × mends m h a after × (drop 260 after ≡ drop 260 m)) → ⊥
  pub positions : NoEmptyAnswer Err lists_changes
  pub positions_written_never : Leaves (λ m old. old) lists_changes → ⊥
  pub positions_of_all : ((m old : List ℕ) → (a : Result ℕ Refusal) × (new : List ℕ) × lists_changes m old a new × (a ≡ Ok (length m))) → ⊥
  -- formatting: nothing written, only zeros, or the same whatever the disc is; a length that is never told, or always the same
  pub format : NoEmptyAnswer Err formats
  pub format_writes_nothing : Leaves (λ old h. old) formats → ⊥
  pub format_only_clears : Leaves (λ old h. replicate (length old) 0) formats → ⊥
  pub format_one_map : ((old : List ℕ) → (a : Result (Unit {0}) Refusal) × (after : List ℕ) × ((h : ℕ × ℕ × ℕ) → formats old h a after)) → ⊥
  pub length_never : ((h : ℕ × ℕ × ℕ) → (r : Refusal) × tells_length h (Err r)) → ⊥
  pub length_same : ((a : Result ℕ Refusal) × ((h : ℕ × ℕ × ℕ) → tells_length h a)) → ⊥
