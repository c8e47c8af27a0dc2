-- The table of refusals 1 to 7 (document 01, "Numbered refusals"): each line says when its number is given and which zone is
-- told, in the order "1 (under 64), 2, 1, 3 over all zones, 4; then zone by zone 6, 5, 7". `CheckIsTable` below
-- shows that the check answers r exactly when `Judged m r`. Assumes nothing.
use Rattle.std.specs.Prelude.{◌≡◌, Bool, false, List, [], ◌∷◌, ◌++◌, ℕ, ◌+◌, ◌-◌, ◌*◌, ◌%◌, ◌<◌, ◌≤◌, length, get_or, drop, replicate}
use Rattle.geometry.specs.declared.Geometry.{Geometry}
use Rattle.geometry.specs.Record.{disc_record, version_of, geometry_of}
use Rattle.geometry.specs.Ranges.{RecordRules}
use Rattle.geometry.specs.Accepted.{AcceptedGeometry}
use Rattle.geometry.specs.Places.{first_bit, end_bit}
use Rattle.model.specs.Answer.{Answer, refused, answered}
use Rattle.model.specs.Fragments.{Fragment, fragment_then, fragment_bits, Formed, InClusters}
use Rattle.model.specs.Chain.{Entry}
use Rattle.model.specs.Rules.{FragmentRule, ChainRule, OwnerRule, ZoneRules, ReadAs, CheckRule, CrossRule, zone_block, MapRules}
use Rattle.model.specs.Blocks.{alloc_bits}
use Rattle.model.specs.Check.{blocks_of, map_read, map_read0}

-- a zone's own fault: the first of 6, 5, 7 that applies
pub data ZoneFault (g : Geometry) (z : ℕ) (block : List ℕ) : ℕ → Type 0 where
  -- "under idlen+1 bits left, no closing bit before the zone's end, or length not a multiple of k"
  six : ((fs : List Fragment) → FragmentRule g z block fs → ⊥) → ZoneFault g z block 6
  -- "FreeLink top bit clear, or a link that lands on no fragment start"
  five : (fs : List Fragment) → FragmentRule g z block fs → (ChainRule z block fs → ⊥) → ZoneFault g z block 5
  -- "id, object 2 or disc-end rule broken"
  seven : (fs : List Fragment) → FragmentRule g z block fs → ChainRule z block fs → (OwnerRule g z block fs → ⊥) → ZoneFault g z block 7

-- 6 as the table has it. Up to some place the zone's bits are fragments by the rules, and with the bits that are left there
pub data SixLeft (idlen k : ℕ) (left : List Bool) : Type 0 where
  -- "under idlen+1 bits left",
  few_left : 0 < length left → length left < idlen + 1 → SixLeft idlen k left
  -- "no closing bit before the zone's end",
  not_closed : idlen + 1 ≤ length left → drop idlen left ≡ replicate (length left - idlen) false → SixLeft idlen k left
  -- "or length not a multiple of k"
  not_whole : (f : Fragment) (rest : List Bool) → left ≡ fragment_then idlen f rest → Formed idlen (f ∷ []) → (f.len % k ≡ 0 → ⊥) → SixLeft idlen k left

pub record SixCase (g : Geometry) (z : ℕ) (block : List ℕ) : Type 0 where
  pub passed : List Fragment
  pub left : List Bool
  pub fill : alloc_bits (first_bit z) (end_bit g) block ≡ fragment_bits g.idlen passed ++ left
  pub formed : Formed g.idlen passed
  pub clusters : InClusters g.cluster passed
  pub fault : SixLeft g.idlen g.cluster left

-- what comes before the zone checks: a record in its ranges, and a map of nzones*S bytes
pub record Measured (m : List ℕ) : Type 0 where
  pub long : 64 ≤ length m
  pub record_rules : RecordRules (disc_record m)
  pub whole : length m ≡ (geometry_of m).zones * (geometry_of m).sector

module _ (m : List ℕ) where
  abbrev pub CheckedBelow : ℕ → Type 0
  CheckedBelow n = (z : ℕ) → z < n → CheckRule (zone_block (geometry_of m) m z)

  abbrev pub RuledBelow : ℕ → Type 0
  RuledBelow n = (z : ℕ) → z < n → ZoneRules (geometry_of m) z (zone_block (geometry_of m) m z)

  pub data Judged : Answer (List (List Entry)) → Type 0 where
    -- 1: "map shorter than 64 bytes"
    short : length m < 64 → Judged (refused 1 0)
    -- 2: "record outside its ranges"
    outside : 64 ≤ length m → (RecordRules (disc_record m) → ⊥) → Judged (refused 2 0)
    -- 1: "or not nzones*S"
    other_length : 64 ≤ length m → RecordRules (disc_record m) → (length m ≡ (geometry_of m).zones * (geometry_of m).sector → ⊥) → Judged (refused 1 0)
    -- 3: "a zone check differs"; the lowest zone is told
    check_differs : Measured m → (z : ℕ) → z < (geometry_of m).zones → CheckedBelow z → (CheckRule (zone_block (geometry_of m) m z) → ⊥) → Judged (refused 3 z)
    -- 4: "cross checks don't give 255"
    cross_differs : Measured m → CheckedBelow (geometry_of m).zones → (CrossRule (blocks_of (geometry_of m) m) → ⊥) → Judged (refused 4 0)
    -- 6, 5, 7: the lowest zone that breaks a rule
    zone_fault : Measured m → CheckedBelow (geometry_of m).zones → CrossRule (blocks_of (geometry_of m) m)
        → (z n : ℕ) → z < (geometry_of m).zones → RuledBelow z → ZoneFault (geometry_of m) z (zone_block (geometry_of m) m z) n → Judged (refused n z)
    -- accepted: all rules hold, and what was read of each zone is what stands there
    kept : MapRules m → (ess : List (List Entry)) → length ess ≡ (geometry_of m).zones
        → ((z : ℕ) → z < (geometry_of m).zones → ReadAs (geometry_of m) z (zone_block (geometry_of m) m z) (get_or ess z [])) → Judged (answered ess)

-- The check accepts a map exactly when it keeps the rules, gives each refusal exactly when its line says so, and reads what is there.
pub record CheckIsTable : Type 0 where
  pub answer_is_judged : (m : List ℕ) → Judged m (map_read m)
  pub judged_is_answer : (m : List ℕ) (r : Answer (List (List Entry))) → Judged m r → map_read m ≡ r
  pub accepted_keeps_rules : (m : List ℕ) (ess : List (List Entry)) → map_read m ≡ answered ess → MapRules m
  pub rules_accepted : (m : List ℕ) → MapRules m → (ess : List (List Entry)) × (map_read m ≡ answered ess)
  -- 6 in the table's three cases is 6 as a zone's fault: no fragments fill its bits by the rules
  pub case_is_six : (g : Geometry) → AcceptedGeometry g → (z : ℕ) (block : List ℕ) → SixCase g z block → ZoneFault g z block 6
  pub six_is_case : (g : Geometry) → AcceptedGeometry g → (z : ℕ) (block : List ℕ) → ZoneFault g z block 6 → SixCase g z block
  -- "Take version 1 as E+ and 0 as what we have" (document 02, R-12): a map of version 0 reads as before
  pub version_0 : (m : List ℕ) → version_of m ≡ 0 → map_read m ≡ map_read0 m
