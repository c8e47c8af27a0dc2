-- The rules that an accepted map keeps, as document 01 states them and in its order. Nothing here is computed: these are
-- the sentences to hold against the paper. `CheckIsTable` (Table.antt) shows that the check accepts a map exactly
-- when they hold.
-- Assumes nothing.
use Rattle.std.specs.Prelude.{◌≡◌, List, [], ◌∷◌, map, ℕ, ◌+◌, ◌*◌, ◌/◌, ◌<◌, ◌≤◌, length, get_or}
use Rattle.checks.specs.Words.{zone_check}
use Rattle.checks.specs.Cross.{cross_of, xor_sum}
use Rattle.geometry.specs.declared.Geometry.{Geometry}
use Rattle.geometry.specs.Record.{disc_record, geometry_of}
use Rattle.geometry.specs.Ranges.{RecordRules}
use Rattle.geometry.specs.Places.{first_bit, end_bit, disc_bit}
use Rattle.model.specs.Fragments.{Fragment, fragment_bits, Formed, InClusters}
use Rattle.model.specs.Chain.{pair, Holder, free, owned, Entry, onward, StartsAt, OnChain, LinksLand}
use Rattle.model.specs.Blocks.{blocks, block_at, free_link, link_in, alloc_bits}

-- "Fragments fill each zone's allocation bits exactly. Every length is a multiple of k." Broken: 6.
pub record FragmentRule (g : Geometry) (z : ℕ) (block : List ℕ) (fs : List Fragment) : Type 0 where
  pub fill : alloc_bits (first_bit z) (end_bit g) block ≡ fragment_bits g.idlen fs
  pub formed : Formed g.idlen fs
  pub clusters : InClusters g.cluster fs

-- the places on the zone's chain: FreeLink counts from block bit 8
abbrev pub Free : ℕ → List ℕ → List Fragment → ℕ → Type 0
Free z block fs a = OnChain (first_bit z) (onward 8 (link_in block)) fs a

-- "top bit set .. Each non-zero link lands on a fragment's start." Broken: 5.
pub record ChainRule (z : ℕ) (block : List ℕ) (fs : List Fragment) : Type 0 where
  pub top_bit : 32768 ≤ free_link block
  pub land : LinksLand (first_bit z) (onward 8 (link_in block)) fs

-- Broken: 7.
pub record OwnerRule (g : Geometry) (z : ℕ) (block : List ℕ) (fs : List Fragment) : Type 0 where
  -- "all others are owned by their id, which lies from 1 to P*nzones - 1"
  pub ids : (a : ℕ) (f : Fragment) → StartsAt (first_bit z) fs a f → (Free z block fs a → ⊥) → (1 ≤ f.id) × (f.id < g.ids * g.zones)
  -- "Every disc bit from disc_size div B onward is owned by 1": such a bit d of a fragment makes it object 1's
  pub disc_end : (a : ℕ) (f : Fragment) → StartsAt (first_bit z) fs a f → (d : ℕ) → g.end.0 ≤ d → disc_bit g z a ≤ d → d < disc_bit g z (a + f.len)
      → (Free z block fs a → ⊥) × (f.id ≡ 1)
  -- "The first fragment of zone (nzones div 2) is owned by 2."
  pub object_2 : z ≡ g.zones / 2 → (f : Fragment) × StartsAt (first_bit z) fs (first_bit z) f × (Free z block fs (first_bit z) → ⊥) × (f.id ≡ 2)

pub record ZoneRules (g : Geometry) (z : ℕ) (block : List ℕ) : Type 0 where
  pub fragments : List Fragment
  pub fragment_rule : FragmentRule g z block fragments
  pub chain_rule : ChainRule z block fragments
  pub owner_rule : OwnerRule g z block fragments

-- What is read of a zone is what stands there: an entry for each fragment, in order and at its place, and "Fragments on the chain are
-- free; all others are owned by their id".
abbrev pub HeldAs : Type 0 → Fragment → Holder → Type 0
HeldAs OnIt f free = OnIt
HeldAs OnIt f (owned id) = (OnIt → ⊥) × (id ≡ f.id)

abbrev pub EntriesOf : (ℕ → Type 0) → ℕ → List Fragment → List Entry → Type 0
EntriesOf OnIt at [] [] = Unit {0}
EntriesOf OnIt at [] (e ∷ es) = ⊥
EntriesOf OnIt at (f ∷ fs) [] = ⊥
EntriesOf OnIt at (f ∷ fs) (e ∷ es) = (e.at ≡ pair at f.len) × HeldAs (OnIt at) f e.holder × EntriesOf OnIt (at + f.len) fs es

pub record ReadAs (g : Geometry) (z : ℕ) (block : List ℕ) (es : List Entry) : Type 0 where
  pub rules : ZoneRules g z block
  pub entries : EntriesOf (Free z block rules.fragments) (first_bit z) rules.fragments es

-- "The check is .." of every block, and "All cross check bytes together exclusive-or to 255."
abbrev pub CheckRule : List ℕ → Type 0
CheckRule block = get_or block 0 0 ≡ zone_check block

abbrev pub CrossRule : List (List ℕ) → Type 0
CrossRule bs = xor_sum (map cross_of bs) ≡ 255

-- zone z's block of a map with geometry g
abbrev pub zone_block : Geometry → List ℕ → ℕ → List ℕ
zone_block g m z = block_at g.sector z m

pub record MapRules (m : List ℕ) : Type 0 where
  -- not "shorter than 64 bytes", and exactly nzones*S
  pub long : 64 ≤ length m
  pub record_rules : RecordRules (disc_record m)
  pub whole : length m ≡ (geometry_of m).zones * (geometry_of m).sector
  pub checks : (z : ℕ) → z < (geometry_of m).zones → CheckRule (zone_block (geometry_of m) m z)
  pub cross : CrossRule (blocks (geometry_of m).sector (geometry_of m).zones m)
  pub zones : (z : ℕ) → z < (geometry_of m).zones → ZoneRules (geometry_of m) z (zone_block (geometry_of m) m z)
