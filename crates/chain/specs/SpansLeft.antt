-- The free spans that an iterator over them has left. Assumes nothing.
use Rattle.std.specs.Prelude.{◌≡◌, List, ◌++◌, ℕ}
use Rattle.geometry.specs.declared.Geometry.{Geometry}
use Rattle.geometry.specs.Places.{zone_of}
use Rattle.model.specs.Chain.{Pair, pair}
use Rattle.walk.specs.HeldBy.{held_between}
use Rattle.chain.specs.declared.iter.Span.{Span}
use Rattle.chain.specs.declared.iter.Spans.{Spans}
use Rattle.chain.specs.FreeAhead.{free_ahead, EndBy}

-- a span as a pair, and all that are left
abbrev pub span_pair : Span → Pair
span_pair s = pair s.start.0 s.len

unfoldable pub spans_left : Spans → List Pair
spans_left it = free_ahead it.map.now it.geometry it.at

-- The contract: of the spans from the zone of bit d on, all are left but some at the front, which end at the bit or before it. How many those
-- are is a matter of time, not of an answer.
pub record LeftFrom (m : List ℕ) (g : Geometry) (d : ℕ) (it : Spans) : Type 0 where
  pub spans : List Pair
  pub passed : held_between g 0 m (zone_of g d) g.zones ≡ spans ++ spans_left it
  pub before : EndBy d spans
