-- What the pieces of a pick come to, one by one: their number, and what is on a side. They are no more than the holes, which are few.
use mathlib.Core.Path.{◌≡◌}
use mathlib.Core.Bool.{Bool}
use mathlib.Core.List.{List, [], ◌∷◌, ◌++◌}
use Prim.Native.Nat.{ℕ, ◌+◌, ◌<◌, ◌≤◌}
use native.Mathlib.Omega.{arith}
use lib.ListN.{length}
use mir.Val.{bool_byte}
use Rattle.std.specs.Prelude.{Option, Some, None}
use Rattle.std.specs.Option.{is_some}
use Rattle.bits.proofs.Tests.{by_test}
use Rattle.geometry.specs.declared.Geometry.{Geometry}
use Rattle.model.specs.Chain.{Pair, pair}
use Rattle.model.specs.Pieces.{keep}
use Rattle.map.specs.Accepted.{AcceptedMap}
use Rattle.walk.specs.HeldBy.{pair_if}
use Rattle.listing.proofs.Ascend.{held_few}
use Rattle.split.specs.Threshold.{wanted, pick_from, rest_after}
use Rattle.holes.specs.Passes.{holes_on, piece_if}

-- a piece, or none, before the others
pub piece_counted : (d : ℕ) (p : Option ℕ) (qs : List Pair) → length (piece_if d p ++ qs) ≡ bool_byte (is_some p) + length qs
piece_counted d None qs = omega arith
piece_counted d (Some n) qs = omega arith

pub keep_turn : (side : Pair → Bool) (d n : ℕ) (qs : List Pair) → keep side (pair d n ∷ qs) ≡ pair_if (side (pair d n)) d n ++ keep side qs
keep_turn side d n qs = by_test (side (pair d n)) (λ h. rw h) (λ h. rw h)

pub picked_few : (m t rest : ℕ) (hs : List Pair) → length (pick_from m t rest hs) ≤ length hs
picked_few m t rest [] = omega arith
picked_few m t rest (h ∷ hs) =
    let l = picked_few m t (rest_after t rest h.len) hs in
    by_test (wanted t rest h.len) (λ e. rw e (omega arith)) (λ e. rw e (omega arith))

pub holes_few : {m : List ℕ} {g : Geometry} → AcceptedMap m g → length (holes_on g m) < 44695552
holes_few {m} {g} a = omega (arith, held_few a 0 0 g.zones (omega arith), a.readable.numbers.zones_high)

-- for a count of the pieces
pub ruleset counting = (piece_counted, picked_few, holes_few)
