-- The fragments of a map as lines in disc bits, zone by zone, and those that remain for a walk. Assumes nothing.
use Rattle.std.specs.Prelude.{◌≡◌, List, [], ◌∷◌, ◌++◌, map, ℕ, zero, suc, ◌-◌, ◌<◌, ◌≤◌}
use Rattle.bits.specs.Bits.{byte_bits}
use Rattle.geometry.specs.declared.Geometry.{Geometry}
use Rattle.geometry.specs.Places.{first_bit, end_bit, disc_bit}
use Rattle.model.specs.Chain.{Entry}
use Rattle.model.specs.Rules.{zone_block}
use Rattle.fragment.specs.Reading.{read_from, CanRead, entries_some}
use Rattle.zone.specs.Lines.{entries_in, holder_number}
use Rattle.map.specs.Accepted.{ReadableFrom}
use Rattle.walk.specs.declared.Walk.{Walk}
use Rattle.walk.specs.declared.Line.{Line}
use Rattle.walk.specs.declared.Step.{Step}

abbrev pub line_of : Geometry → ℕ → Entry → Line
line_of g z e = record { zone = z; holder = holder_number e.holder; start = record { 0 = disc_bit g z e.at.start }; len = e.at.len }

-- of zone z, and of n zones from z on
abbrev pub lines_in : Geometry → List ℕ → ℕ → List Line
lines_in g m z = map (line_of g z) (entries_in g z (zone_block g m z))

abbrev pub lines_from : Geometry → List ℕ → ℕ → ℕ → List Line
lines_from g m z zero = []
lines_from g m z (suc n) = lines_in g m z ++ lines_from g m (suc z) n

-- of the walk's zone from its place on, and of n zones the first of which is that one
abbrev pub lines_here : Geometry → List ℕ → Walk → List Line
lines_here g m w = map (line_of g w.zone) (entries_some (read_from g.idlen w.at.0 (end_bit g) w.chain.0 (byte_bits (zone_block g m w.zone))))

abbrev pub lines_on : Geometry → List ℕ → Walk → ℕ → List Line
lines_on g m w zero = []
lines_on g m w (suc n) = lines_here g m w ++ lines_from g m (suc w.zone) n

-- what remains up to zone `to`
unfoldable pub remaining : List ℕ → Geometry → ℕ → Walk → List Line
remaining m g to w = lines_on g m w (to - w.zone)

-- after a fragment of a zone that keeps the rules: the rest of the zone can be read
pub record Passing (m : List ℕ) (g : Geometry) (w : Walk) : Type 0 where
  pub low : first_bit w.zone ≤ w.at.0
  pub high : w.at.0 ≤ end_bit g
  pub readable : CanRead (read_from g.idlen w.at.0 (end_bit g) w.chain.0 (byte_bits (zone_block g m w.zone)))

-- at a fragment, or past the last zone; this zone and all after it can be read
pub record Stands (m : List ℕ) (g : Geometry) (w : Walk) : Type 0 where
  pub ahead : ReadableFrom m g w.zone
  pub passing : w.zone < g.zones → Passing m g w
  pub inside : w.zone < g.zones → w.at.0 < end_bit g

-- the contracts: what remains from zone z on, that one line is passed, that a place is settled
pub record Starts (m : List ℕ) (g : Geometry) (z : ℕ) (w : Walk) : Type 0 where
  pub stands : Stands m g w
  pub all : (to : ℕ) → to ≤ g.zones → remaining m g to w ≡ lines_from g m z (to - z)

pub record Advances (m : List ℕ) (g : Geometry) (w : Walk) (r : Step) : Type 0 where
  pub stands : Stands m g r.after
  pub here : r.line.zone ≡ w.zone
  pub passed : (to : ℕ) → to ≤ g.zones → w.zone < to → remaining m g to w ≡ r.line ∷ remaining m g to r.after

pub record Settles (m : List ℕ) (g : Geometry) (w r : Walk) : Type 0 where
  pub stands : Stands m g r
  pub same : (to : ℕ) → to ≤ g.zones → w.zone < to → remaining m g to r ≡ remaining m g to w
