-- The lines of document 01's table for the two listing calls ("Numbered refusals"), in its order; their sentences stand in
-- `model/Refusals`. They speak of the lists that an accepted map shows; `ListingLaws` has that the calls answer them and nothing else. Assumes nothing.
use Rattle.std.specs.Prelude.{List, [], ◌∷◌, ℕ}
use Rattle.model.specs.Shown.{listed_on, spans_on}
use Rattle.model.specs.Refusals.{Refusing, line, Outside, NotThere, TooFew}

abbrev pub list_lines : List ℕ → ℕ → ℕ → List Refusing
list_lines m id room =
    line 8 (Outside 1 m id)
    ∷ line 10 (NotThere m id)
    ∷ line 17 (TooFew room (listed_on m id))
    ∷ []

abbrev pub free_lines : List ℕ → ℕ → List Refusing
free_lines m room =
    line 17 (TooFew room (spans_on m))
    ∷ []
