-- The maps that edits work on, and what the listing call shows of them (document 01, "Runs in demand 3"). Assumes nothing.
use Rattle.std.specs.Prelude.{◌≡◌, true, false, List, [], ◌⊎◌, ◌↔◌, ℕ, ◌<◌, ◌≤◌, length, get_or}
use Rattle.std.proofs.Math.Option.{none}
use Rattle.std.specs.Int.Bits.{bit_xor}
use Rattle.bits.specs.Bits.{byte_bits, Bytes}
use Rattle.checks.specs.Cross.{cross_of, changes}
use Rattle.geometry.specs.declared.Geometry.{Geometry}
use Rattle.geometry.specs.Record.{geometry_of}
use Rattle.geometry.specs.Places.{first_bit, end_bit, zone_of}
use Rattle.model.specs.Chain.{Pair, touching}
use Rattle.model.specs.Rules.{zone_block}
use Rattle.model.specs.Answer.{answered}
use Rattle.model.specs.Check.{map_read}
use Rattle.model.specs.Shown.{zones_of, listed_on, spans_on}
use Rattle.edits.specs.Edits.{Edit, takes, gives, pairs_in, edit_id, touched_zones}
use Rattle.edits.specs.Room.{In, InSome}

-- "an accepted map in which no two free fragments of a zone touch"
pub record Editable (m : List ℕ) : Type 0 where
  pub bytes : Bytes m
  pub accepted : map_read m ≡ answered (zones_of m)
  pub apart : touching 0 (zones_of m) ≡ none

-- the object that an edit names, and its pieces before and after
abbrev pub NamedMoved : List ℕ → Edit → List ℕ → Type 0
NamedMoved m (takes id qs) after = (listed_on m id ≡ qs) × (listed_on after id ≡ [])
NamedMoved m (gives id qs) after = (listed_on m id ≡ []) × (listed_on after id ≡ qs)

-- the pairs that an edit releases, and those that it gives
abbrev pub released_in : Edit → List Pair
released_in (takes id qs) = qs
released_in (gives id qs) = []

abbrev pub given_in : Edit → List Pair
given_in (takes id qs) = []
given_in (gives id qs) = qs

-- "An edit touches the zones in which its pairs lie."
abbrev pub TouchedBy : Geometry → List Pair → ℕ → Type 0
TouchedBy g qs z = (q : Pair) × In q qs × (zone_of g q.start ≡ z)

-- demand 2: "After an edit the map reads as the old one with only the named pieces moved between free and owned."
pub record ReadsAfter (m : List ℕ) (e : Edit) (after : List ℕ) : Type 0 where
  pub again : Editable after
  pub same_disc : geometry_of after ≡ geometry_of m
  pub moved : NamedMoved m e after
  pub others : (id : ℕ) → (id ≡ edit_id e → ⊥) → listed_on after id ≡ listed_on m id
  -- the free bits are the released ones and those free before, less the given ones
  pub free_bits : (d : ℕ) → InSome (spans_on after) d ↔ (InSome (released_in e) d ⊎ (InSome (spans_on m) d × (InSome (given_in e) d → ⊥)))
  pub untouched : (z : ℕ) → z < (geometry_of m).zones → (TouchedBy (geometry_of m) (pairs_in e) z → ⊥)
      → zone_block (geometry_of m) after z ≡ zone_block (geometry_of m) m z
  -- the cross checks change by the rule of `CheckLaws`, over the list of all zones that is true where the edit touches one
  pub all_zones : length (touched_zones (geometry_of m) (pairs_in e)) ≡ (geometry_of m).zones
  pub touched : (z : ℕ) → z < (geometry_of m).zones → get_or (touched_zones (geometry_of m) (pairs_in e)) z false ≡ true ↔ TouchedBy (geometry_of m) (pairs_in e) z
  pub cross : (z : ℕ) → z < (geometry_of m).zones
      → cross_of (zone_block (geometry_of m) after z)
      ≡ bit_xor (cross_of (zone_block (geometry_of m) m z)) (get_or (changes (touched_zones (geometry_of m) (pairs_in e))) z 0)
  -- "Each edit writes only the blocks of the zones it touches, and in them nothing outside check byte, FreeLink, cross check and
  -- allocation bits." The first half is `untouched`. Check byte, FreeLink and cross check are the block's first 32 bits.
  pub outside : (z : ℕ) → z < (geometry_of m).zones → (b : ℕ) → 32 ≤ b → (b < first_bit z) ⊎ (end_bit (geometry_of m) ≤ b)
      → get_or (byte_bits (zone_block (geometry_of m) after z)) b false ≡ get_or (byte_bits (zone_block (geometry_of m) m z)) b false
