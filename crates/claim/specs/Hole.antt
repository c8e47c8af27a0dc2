-- A hole that was looked for, or none (document 01, "Claim"; document 02, R-8). Assumes nothing.
use Rattle.std.specs.Prelude.{Option, Some, None}
use Rattle.std.proofs.Math.Option as math
use Rattle.std.proofs.Math.Option.{none, some}
use Rattle.model.specs.Chain.{Pair}
use Rattle.chain.specs.declared.iter.Span.{Span}

abbrev pub span_of : Pair → Span
span_of q = record { start = record { 0 = q.start }; len = q.len }

abbrev pub hole_of : math.Option Pair → Option Span
hole_of none = None
hole_of (some q) = Some (span_of q)
