-- The owned pieces of a map and its free spans, as the calls list them (document 01, "The calls", "Object order").
-- Assumes nothing.
use Rattle.std.specs.Prelude.{Bool, cond, not, List, [], ◌∷◌, ◌++◌, map, ℕ, suc, ◌+◌, ◌<◌, ◌≤◌, eqb, leb}
use Rattle.geometry.specs.declared.Geometry.{Geometry}
use Rattle.geometry.specs.Places.{disc_bit, zone_of, start_zone}
use Rattle.model.specs.Chain.{Pair, Holder, free, owned, Entry}

-- a fragment that is owned
pub record Piece : Type 0 where
  pub at : Pair
  pub owner : ℕ

-- those that pass a test, in their order
abbrev pub keep {ℓ} : {A : Type ℓ} → (A → Bool) → List A → List A
keep t [] = []
keep t (x ∷ xs) = cond (t x) (x ∷ keep t xs) (keep t xs)

-- the owned entries of a zone, in block bits
abbrev pub owned_if : Holder → Pair → List Piece → List Piece
owned_if free q ps = ps
owned_if (owned id) q ps = record { at = q; owner = id } ∷ ps

abbrev pub owned_of : List Entry → List Piece
owned_of [] = []
owned_of (e ∷ es) = owned_if e.holder e.at (owned_of es)

-- and in disc bits
abbrev pub to_disc : Geometry → ℕ → Pair → Pair
to_disc g z q = record { start = disc_bit g z q.start; len = q.len }

abbrev pub piece_to_disc : Geometry → ℕ → Piece → Piece
piece_to_disc g z p = record { at = to_disc g z p.at; owner = p.owner }

-- the pieces of the zones from z on: one list, ascending by disc bit
abbrev pub pieces_of_zones : Geometry → ℕ → List (List Entry) → List Piece
pieces_of_zones g z [] = []
pieces_of_zones g z (es ∷ ess) = map (piece_to_disc g z) (owned_of es) ++ pieces_of_zones g (suc z) ess

-- an object's pieces, ascending
abbrev pub is_of : ℕ → Piece → Bool
is_of id p = eqb p.owner id

abbrev pub pieces_of : ℕ → List Piece → List Piece
pieces_of id ps = keep (is_of id) ps

-- "take all its fragments [of the start zone] in ascending order, then later zones, then from zone 0"
abbrev pub late : Geometry → ℕ → Piece → Bool
late g id p = leb (start_zone g id) (zone_of g p.at.start)

abbrev pub rotate {ℓ} : {A : Type ℓ} → (A → Bool) → List A → List A
rotate t l = keep t l ++ keep (λ x. not (t x)) l

abbrev pub object_pairs : Geometry → ℕ → List Piece → List Pair
object_pairs g id ps = map (λ p. p.at) (rotate (late g id) (pieces_of id ps))

-- "take all its fragments in ascending order, then later zones, then from zone 0", said of two pairs: p comes before q where the
-- start zone is `start`. Of two from that zone on, or two of the zones before it, p ends at or before q's start.
pub data InObjectOrder (g : Geometry) (start : ℕ) (p q : Pair) : Type 0 where
  wrapped : start ≤ zone_of g p.start → zone_of g q.start < start → InObjectOrder g start p q
  both_late : start ≤ zone_of g p.start → start ≤ zone_of g q.start → p.start + p.len ≤ q.start → InObjectOrder g start p q
  both_early : zone_of g p.start < start → zone_of g q.start < start → p.start + p.len ≤ q.start → InObjectOrder g start p q

-- "Free spans ascend, one pair for each free fragment."
abbrev pub free_if : Holder → Pair → List Pair → List Pair
free_if free q qs = q ∷ qs
free_if (owned id) q qs = qs

abbrev pub free_of : List Entry → List Pair
free_of [] = []
free_of (e ∷ es) = free_if e.holder e.at (free_of es)

abbrev pub free_spans : Geometry → ℕ → List (List Entry) → List Pair
free_spans g z [] = []
free_spans g z (es ∷ ess) = map (to_disc g z) (free_of es) ++ free_spans g (suc z) ess
