-- The free spans that lie ahead of a walk along the chains: those of its zone from its place on, and those of the zones after it. Assumes nothing.
use Rattle.std.specs.Prelude.{◌≡◌, Bool, true, Option, Some, None, IfSome, List, [], ◌∷◌, ◌++◌, ℕ, ◌+◌, ◌<◌, ◌≤◌}
use Rattle.bits.specs.Bits.{byte_bits}
use Rattle.geometry.specs.declared.Geometry.{Geometry}
use Rattle.geometry.specs.Places.{first_bit, end_bit}
use Rattle.model.specs.Chain.{Pair, pair, Entry}
use Rattle.model.specs.Check.{every, id_fits}
use Rattle.model.specs.Rules.{zone_block}
use Rattle.fragment.specs.Reading.{read_from, CanRead, entries_some}
use Rattle.map.specs.Accepted.{ReadableFrom}
use Rattle.walk.specs.HeldBy.{held_by, in_disc_bits, held_between}
use Rattle.chain.specs.declared.FreeWalk.{FreeWalk}
use Rattle.chain.specs.declared.iter.Span.{Span}

-- the entries of a zone's bits from `at` on, where the chain leads next to `next`
abbrev pub entries_at : Geometry → List Bool → ℕ → ℕ → List Entry
entries_at g bits at next = entries_some (read_from g.idlen at (end_bit g) next bits)

-- they can be read, and every owner has an id: no fragment that is owned has the number of free space
pub record ReadsAt (g : Geometry) (bits : List Bool) (at next : ℕ) : Type 0 where
  pub readable : CanRead (read_from g.idlen at (end_bit g) next bits)
  pub owners : every (id_fits g) (entries_at g bits at next) ≡ true

-- the free spans of the walk's zone, in block bits, and all that lie ahead, in disc bits; none past the last zone
abbrev pub spans_here : Geometry → List ℕ → FreeWalk → List Pair
spans_here g m w = held_by 0 (entries_at g (byte_bits (zone_block g m w.zone)) w.at.0 w.at.0)

unfoldable pub free_ahead : List ℕ → Geometry → Option FreeWalk → List Pair
free_ahead m g None = []
free_ahead m g (Some w) = in_disc_bits g w.zone (spans_here g m w) ++ held_between g 0 m (w.zone + 1) g.zones

-- at a free fragment: the chain has led to its start; its zone and all after it can be read
pub record StandsFree (m : List ℕ) (g : Geometry) (w : FreeWalk) : Type 0 where
  pub ahead : ReadableFrom m g w.zone
  pub zone : w.zone < g.zones
  pub low : first_bit w.zone ≤ w.at.0
  pub inside : w.at.0 < end_bit g
  pub reads : ReadsAt g (byte_bits (zone_block g m w.zone)) w.at.0 w.at.0

-- the contracts: all free spans from zone z on lie ahead, and one of them is passed
pub record FreeStarts (m : List ℕ) (g : Geometry) (z : ℕ) (w : Option FreeWalk) : Type 0 where
  pub stands : IfSome w (StandsFree m g)
  pub all : free_ahead m g w ≡ held_between g 0 m z g.zones

pub record FreeAdvances (m : List ℕ) (g : Geometry) (w : FreeWalk) (span : Span) (after : Option FreeWalk) : Type 0 where
  pub stands : IfSome after (StandsFree m g)
  pub passed : free_ahead m g (Some w) ≡ pair span.start.0 span.len ∷ free_ahead m g after

-- some spans are passed over, all of which end at bit d or before it; how many is a matter of time, not of an answer
abbrev pub EndBy : ℕ → List Pair → Type 0
EndBy d [] = Unit {0}
EndBy d (q ∷ qs) = (q.start + q.len ≤ d) × EndBy d qs

pub record PassesTo (m : List ℕ) (g : Geometry) (d : ℕ) (w r : FreeWalk) : Type 0 where
  pub stands : StandsFree m g r
  pub spans : List Pair
  pub passed : free_ahead m g (Some w) ≡ spans ++ free_ahead m g (Some r)
  pub before : EndBy d spans
