-- A run's edits: which of them cancel, and the cross checks that they leave (document 01, "Runs in demand 3"). Assumes nothing.
use Rattle.std.specs.Prelude.{List, [], ◌∷◌, ◌++◌, ℕ}
use Rattle.geometry.specs.declared.Geometry.{Geometry}
use Rattle.model.specs.Chain.{Pair}
use Rattle.edits.specs.Edits.{Edit, takes, gives, pairs_in, crossed}

-- "Two neighbouring accepted calls cancel if the second releases the number that the first placed or claimed, or if the first
-- is a release and the second, a place or a claim, gives the same pairs to the same number."
pub data Cancel : Edit → Edit → Type 0 where
  released : (id : ℕ) (ps qs : List Pair) → Cancel (gives id ps) (takes id qs)
  restored : (id : ℕ) (ps : List Pair) → Cancel (takes id ps) (gives id ps)

-- "striking out cancelling neighbours again and again can leave nothing"
pub data Undone : List Edit → Type 0 where
  nothing : Undone []
  strike : (before : List Edit) {a b : Edit} (rest : List Edit) → Cancel a b → Undone (before ++ rest) → Undone (before ++ a ∷ b ∷ rest)

-- "each cross check is the starting one exclusive-ored with what the rule above gives its zone at each accepted call"
abbrev pub cross_run : Geometry → List Edit → List ℕ → List ℕ
cross_run g [] cs = cs
cross_run g (e ∷ es) cs = cross_run g es (crossed g (pairs_in e) cs)
