-- What the table of the edits' refusals (`EditTable`) does not say of them: how a list is read, the test behind 12, a claim's need, the order in
-- which a claim tries the zones, how many bits it takes and in which list, and that 14 is never told. Assumes nothing.
use Rattle.std.specs.Prelude.{◌≡◌, true, List, ℕ, ◌+◌, ◌*◌, ◌%◌, ◌<◌, ◌≤◌, length}
use Rattle.bits.specs.Bits.{Bytes}
use Rattle.geometry.specs.declared.Geometry.{Geometry}
use Rattle.geometry.specs.Record.{geometry_of}
use Rattle.model.specs.Answer.{refused, answered}
use Rattle.model.specs.Chain.{Pair, numbers_of}
use Rattle.split.specs.Taken.{total}
use Rattle.edits.specs.Edits.{gives}
use Rattle.edits.specs.Judge.{Call, claim, pairs_from, list_fits, need}
use Rattle.edits.specs.Steps.{outcome}
use Rattle.edits.specs.Editable.{Editable}
use Rattle.runs.specs.ListRules.{ListRules}
use Rattle.runs.specs.ZonesTried.{ZonesTried}

-- What a claim takes: at least what it needs, and in whole clusters no more than what remains for the last hole may grow to, to m bits and then by
-- a leftover of less than m.
pub record ClaimedBits (g : Geometry) (size : ℕ) (qs : List Pair) : Type 0 where
  pub enough : need g size ≤ total qs
  pub no_more : total qs + 2 * g.cluster ≤ need g size + 2 * g.shortest

-- "Need = the larger of m and the size rounded up to clusters, in map bits": the least number of map bits that is at least m, in whole
-- clusters, and has room for the size
pub record NeedRules (g : Geometry) (size : ℕ) : Type 0 where
  pub long : g.shortest ≤ need g size
  pub clusters : need g size % g.cluster ≡ 0
  pub enough : size ≤ need g size * g.unit
  pub least : (n : ℕ) → g.shortest ≤ n → n % g.cluster ≡ 0 → size ≤ n * g.unit → need g size ≤ n

pub record EditRules : Type 0 where
  -- "A list handed in is read to its slice's end."
  pub all_read : (list : List ℕ) → length list % 2 ≡ 0 → numbers_of (pairs_from list) ≡ list
  pub need_rules : (m : List ℕ) → Editable m → (size : ℕ) → NeedRules (geometry_of m) size
  -- "tries it, then one below, one above, two below and so on, skipping zones that don't exist"
  pub zones_tried : (zones p : ℕ) → p < zones → ZonesTried zones p
  pub claimed_bits : (m : List ℕ) → Editable m → (size parent room id : ℕ) (qs : List Pair) → outcome m (claim size parent room) ≡ answered (gives id qs) → ClaimedBits (geometry_of m) size qs
  -- the list that a claim answers is one that a place takes
  pub claimed_list : (m : List ℕ) → Editable m → (size parent room id : ℕ) (qs : List Pair) → outcome m (claim size parent room) ≡ answered (gives id qs)
      → ListRules (geometry_of m) id (numbers_of qs)
  -- 12: the test of a list that is handed in passes exactly where it keeps the rules
  pub fits_gives_rules : (m : List ℕ) → Editable m → (id : ℕ) (list : List ℕ) → list_fits (geometry_of m) id list ≡ true → ListRules (geometry_of m) id list
  pub rules_give_fits : (m : List ℕ) → Editable m → (id : ℕ) (list : List ℕ) → ListRules (geometry_of m) id list → list_fits (geometry_of m) id list ≡ true
  -- 14: "no unused id (can't arise, since zone 0 is 480 bits short)". It is never told, whatever the bytes.
  pub never_fourteen : (m : List ℕ) → Bytes m → (c : Call) (z : ℕ) → outcome m c ≡ refused 14 z → ⊥
