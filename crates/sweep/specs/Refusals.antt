-- The lines of document 01's table for the two sweeps ("Numbered refusals"), in its order; the sentences of 8 and 10 stand in
-- `model/Refusals`. `SweepLaws` has that the sweeps answer them and nothing else. Assumes nothing.
use Rattle.std.specs.Prelude.{List, [], ◌∷◌, ℕ, ◌+◌, ◌<◌}
use Rattle.geometry.specs.Record.{geometry_of}
use Rattle.model.specs.Shown.{zones_of, spans_on}
use Rattle.model.specs.Refusals.{Refusing, line, Outside, NotThere}
use Rattle.sweep.specs.Sweep.{Class, object_spans}

-- 16: "stretch ending past disc_size", an empty one too
abbrev pub EndsPast : List ℕ → ℕ → ℕ → Type 0
EndsPast m first n = (geometry_of m).size < first + n

abbrev pub object_sweep_lines : List ℕ → ℕ → ℕ → ℕ → List Refusing
object_sweep_lines m id first n =
    line 8 (Outside 3 m id)
    ∷ line 10 (NotThere m id)
    ∷ line 16 (EndsPast m first n)
    ∷ []

abbrev pub free_sweep_lines : List ℕ → ℕ → ℕ → List Refusing
free_sweep_lines m first n =
    line 16 (EndsPast m first n)
    ∷ []

-- the class: an object's pairs, or the free spans
abbrev pub object_class_on : List ℕ → ℕ → Class
object_class_on m id = record { unit = (geometry_of m).unit; pairs = object_spans (geometry_of m) id (zones_of m) }

abbrev pub free_class_on : List ℕ → Class
free_class_on m = record { unit = (geometry_of m).unit; pairs = spans_on m }
