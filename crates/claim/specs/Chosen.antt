-- What the steps of a choice find (document 02, R-8): the first hole that is taken, the list of what is taken, and the choice with its list. Assumes
-- nothing.
use Rattle.std.specs.Prelude.{◌≡◌, cond, List, [], ◌∷◌, ℕ, suc, ◌<◌, ◌≤◌, leb, length}
use Rattle.std.proofs.Math.Option.{Option, none, some}
use Rattle.geometry.specs.declared.Geometry.{Geometry}
use Rattle.model.specs.Answer.{Answer}
use Rattle.model.specs.Chain.{Pair, pair}
use Rattle.model.specs.Shown.{pieces_on}
use Rattle.split.specs.Taken.{total, by_size, cut, take_from}
use Rattle.split.specs.Threshold.{at_least, first_longest}
use Rattle.listing.specs.Listed.{with_room, list_after, Lists}
use Rattle.holes.specs.Passes.{holes_on}
use Rattle.edits.specs.Edits.{Edit}
use Rattle.edits.specs.Judge.{first_hole, holes_near, in_object_order}
use Rattle.edits.specs.Steps.{pairs_told}
use Rattle.std.specs.Prelude.{Result}
use Rattle.geometry.specs.declared.Refusal.{Refusal}
use Rattle.claim.specs.declared.Given.{Given}
use Rattle.claim.specs.Claimed.{claim_answer}

-- the nearest hole that is long enough; or, if there is none and all together have enough bits, the first one of the longest
abbrev pub largest_or : ℕ → List Pair → Option Pair → Option Pair
largest_or need hs (some h) = some h
largest_or need hs none = cond (leb need (total hs)) (some (first_longest (pair 0 0) hs)) none

abbrev pub first_taken : Geometry → List ℕ → ℕ → ℕ → Option Pair
first_taken g m need parent = largest_or need (holes_on g m) (first_hole need (holes_near g (pieces_on g m) parent))

-- what is taken where that is h: of h alone if it is long enough, or else of all holes, the largest first
abbrev pub taken_first : ℕ → ℕ → Pair → List Pair → Option (List Pair)
taken_first m need h hs = cond (leb need h.len) (some (cut m need h ∷ [])) (take_from m need (by_size hs))

-- all holes together have enough bits, and none is longer than `longest`
pub record SeveralTaken (hs : List Pair) (need longest : ℕ) : Type 0 where
  pub some_bits : 0 < need
  pub enough : need ≤ total hs
  pub longest_is : at_least (suc longest) hs ≡ 0

-- what is taken, listed in object order for an id
pub record ListsTaken (o : Option (List Pair)) (g : Geometry) (id : ℕ) (old : List ℕ) (r : Result ℕ Refusal) (new : List ℕ) : Type 0 where
  pub taken : List Pair
  pub taken_is : o ≡ some taken
  pub lists : Lists (with_room (length old) (in_object_order g id taken)) old r new

-- the id and how many pairs are to be given, with their list, or the refusal
pub record Chooses (o : Answer Edit) (old : List ℕ) (r : Result Given Refusal) (new : List ℕ) : Type 0 where
  pub answer : r ≡ claim_answer o
  pub list : new ≡ list_after old (pairs_told o)
