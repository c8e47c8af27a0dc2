-- When the mender's calls are refused, and with which number and zone: "the refusal that the map would get with those three ignored", 3, 4
-- and 9 (document 02, R-9). The lines are those of document 01's table, in its order. Assumes nothing.
use Rattle.std.specs.Prelude.{◌≡◌, List, [], ℕ, ◌*◌, ◌<◌, ◌≤◌, length, get_or}
use Rattle.geometry.specs.Record.{disc_record, geometry_of}
use Rattle.geometry.specs.Ranges.{RecordRules}
use Rattle.model.specs.Answer.{Answer, refused, answered}
use Rattle.model.specs.Chain.{Entry}
use Rattle.model.specs.Rules.{ReadAs, zone_block}
use Rattle.model.specs.Table.{ZoneFault, Measured, RuledBelow}
use Rattle.mended.specs.Mended.{changed_at}

-- "provided that the map is right in all other ways": what is left of `MapRules`
pub record MendRules (m : List ℕ) : Type 0 where
  pub measured : Measured m
  pub zones : RuledBelow m (geometry_of m).zones

module _ (m : List ℕ) where
  pub data MendJudged : Answer (List (List Entry)) → Type 0 where
    -- 1: "map shorter than 64 bytes"
    short : length m < 64 → MendJudged (refused 1 0)
    -- 2: "record outside its ranges"
    outside : 64 ≤ length m → (RecordRules (disc_record m) → ⊥) → MendJudged (refused 2 0)
    -- 1: "or not nzones*S"
    other_length : 64 ≤ length m → RecordRules (disc_record m) → (length m ≡ (geometry_of m).zones * (geometry_of m).sector → ⊥) → MendJudged (refused 1 0)
    -- 6, 5, 7: the lowest zone that breaks a rule
    zone_fault : Measured m → (z n : ℕ) → z < (geometry_of m).zones → RuledBelow m z → ZoneFault (geometry_of m) z (zone_block (geometry_of m) m z) n
        → MendJudged (refused n z)
    -- mended: what was read of each zone is what stands there
    right : MendRules m → (ess : List (List Entry)) → length ess ≡ (geometry_of m).zones
        → ((z : ℕ) → z < (geometry_of m).zones → ReadAs (geometry_of m) z (zone_block (geometry_of m) m z) (get_or ess z [])) → MendJudged (answered ess)

  -- "with the mender's refusals, then 17 if the list is too short": one entry for each position
  pub data PositionsJudged (room : ℕ) : Answer (List ℕ) → Type 0 where
    not_mended : (n z : ℕ) → MendJudged (refused n z) → PositionsJudged room (refused n z)
    too_few : MendRules m → room < length (changed_at m) → PositionsJudged room (refused 17 0)
    listed : MendRules m → length (changed_at m) ≤ room → PositionsJudged room (answered (changed_at m))
