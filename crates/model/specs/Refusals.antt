-- Refusals by lines, as document 01's table has them ("Numbered refusals"): a line has a number and says when it is given, and which zone
-- is told. "Order: 1 (under 64), 2, 1, 3 over all zones, 4; then zone by zone 6, 5, 7; then the rest in table order." The lines here are
-- those of the rest, 8 to 17; each call lists its own. Assumes nothing.
use Rattle.std.specs.Prelude.{◌≡◌, List, [], ◌∷◌, ◌⊎◌, ℕ, ◌*◌, ◌<◌, ◌≤◌, length}
use Rattle.geometry.specs.Record.{geometry_of}
use Rattle.model.specs.Answer.{Answer, refused, answered}
use Rattle.model.specs.Rules.{MapRules}
use Rattle.model.specs.Table.{Judged}
use Rattle.model.specs.Chain.{Pair}
use Rattle.model.specs.Shown.{listed_on}

-- a line of the table: its number, and that it is given, with this zone told
pub record Refusing : Type 1 where
  pub number : ℕ
  pub given : ℕ → Type 0

-- a line that tells zone 0
abbrev pub line : ℕ → Type 0 → Refusing
line n Given = record { number = n; given = λ z. (z ≡ 0) × Given }

-- What lines of several calls say.
-- 8: "id argument outside 1 (list ..), 2 (address) or 3 (sweep, edits) to P*nzones-1"
abbrev pub Outside : ℕ → List ℕ → ℕ → Type 0
Outside low m id = (low ≤ id) × (id < (geometry_of m).ids * (geometry_of m).zones) → ⊥

-- 10: "id not on the map (list, address, sweep, release)"; an object "is there if it has any" pieces
abbrev pub NotThere : List ℕ → ℕ → Type 0
NotThere m id = listed_on m id ≡ []

-- 17: "too few entries for the pairs", two for each
abbrev pub TooFew : ℕ → List Pair → Type 0
TooFew room qs = room < 2 * length qs

-- What lines say of a call's answer: the first that is given is the answer, and where none is, the answer is as `Otherwise` says.
abbrev pub LinesSay : {A : Type 0} → List Refusing → (Answer A → Type 0) → Answer A → Type 0
LinesSay [] Otherwise r = Otherwise r
LinesSay (l ∷ ls) Otherwise r =
    ((z : ℕ) × l.given z × (r ≡ refused l.number z)) ⊎ (((z : ℕ) → l.given z → ⊥) × LinesSay ls Otherwise r)

-- What the table says of it: a map that keeps the rules is judged by the call's own lines; any other is refused with 1 to 7.
pub data TableSays (m : List ℕ) {A : Type 0} (ls : List Refusing) (Otherwise : Answer A → Type 0) : Answer A → Type 0 where
  map_refused : (n z : ℕ) → Judged m (refused n z) → TableSays m ls Otherwise (refused n z)
  by_lines : (r : Answer A) → MapRules m → LinesSay ls Otherwise r → TableSays m ls Otherwise r

-- The same for a call whose value is named: where no line is given, the answer is a.
abbrev pub ByLines : {A : Type 0} → List Refusing → A → Answer A → Type 0
ByLines ls a = LinesSay ls (λ r. r ≡ answered a)

abbrev pub ByTable : List ℕ → {A : Type 0} → List Refusing → A → Answer A → Type 0
ByTable m ls a = TableSays m ls (λ r. r ≡ answered a)

-- a call answers what its lines say, and nothing else does
pub record Exactly {A : Type 0} (Says : Answer A → Type 0) (r : Answer A) : Type 0 where
  pub told : Says r
  pub only : (s : Answer A) → Says s → r ≡ s
