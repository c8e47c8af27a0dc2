-- What the listing calls answer, and what they leave in the lent list (document 01, "The calls", refusals 8, 10, 17).
-- Assumes nothing.
use Rattle.std.specs.Prelude.{◌≡◌, List, [], ◌∷◌, ◌++◌, ℕ, ◌*◌, leb, length, drop, Result, Ok, Err}
use Rattle.geometry.specs.declared.Geometry.{Geometry}
use Rattle.geometry.specs.declared.Refusal.{Refusal}
use Rattle.geometry.specs.Record.{geometry_of}
use Rattle.geometry.specs.Places.{id_from}
use Rattle.geometry.specs.Answers.{number, refusal}
use Rattle.model.specs.Chain.{Pair, Entry, numbers_of}
use Rattle.model.specs.Answer.{Answer, refused, answered, unless, and_then}
use Rattle.model.specs.Check.{map_read}
use Rattle.model.specs.Pieces.{pieces_of_zones, object_pairs, free_spans}

-- 17: "too few entries for the pairs"
abbrev pub with_room : ℕ → List Pair → Answer (List Pair)
with_room room qs = unless (leb (2 * length qs) room) 17 (answered qs)

-- 10: "id not on the map"
abbrev pub present : List Pair → Answer (List Pair)
present [] = refused 10 0
present (q ∷ qs) = answered (q ∷ qs)

-- an object's pieces in object order
abbrev pub object_read : Geometry → ℕ → ℕ → List (List Entry) → Answer (List Pair)
object_read g id room ess = unless (id_from 1 g id) 8 (and_then (present (object_pairs g id (pieces_of_zones g 0 ess))) (with_room room))

abbrev pub object_found : List ℕ → ℕ → ℕ → Answer (List Pair)
object_found m id room = and_then (map_read m) (object_read (geometry_of m) id room)

-- the free spans
abbrev pub free_found : List ℕ → ℕ → Answer (List Pair)
free_found m room = and_then (map_read m) (λ (ess : List (List Entry)). with_room room (free_spans (geometry_of m) 0 ess))

-- the answer: how many pairs
abbrev pub list_answer : Answer (List Pair) → Result ℕ Refusal
list_answer (answered qs) = Ok (length qs)
list_answer (refused n z) = Err (refusal n z)

-- "Entries past the last pair are untouched"; a refusal writes nothing
abbrev pub list_after : List ℕ → Answer (List Pair) → List ℕ
list_after old (answered qs) = numbers_of qs ++ drop (2 * length qs) old
list_after old (refused n z) = old

-- the paper's numbers: refusal (0: accepted), zone told, pairs
abbrev pub list_numbers : Result ℕ Refusal → ℕ × ℕ × ℕ
list_numbers (Ok n) = (0, 0, n)
list_numbers (Err r) = (number r.reason, r.zone, 0)

-- as the table gives them for what is found
abbrev pub list_told : Answer (List Pair) → ℕ × ℕ × ℕ
list_told (refused n z) = (n, z, 0)
list_told (answered qs) = (0, 0, length qs)

-- the answer with its numbers, and every entry of the lent list
pub record Lists (found : Answer (List Pair)) (old : List ℕ) (r : Result ℕ Refusal) (new : List ℕ) : Type 0 where
  pub answer : r ≡ list_answer found
  pub numbers : list_numbers r ≡ list_told found
  pub list : new ≡ list_after old found
