-- The order in which a claim tries the zones (document 02, R-6): every zone exactly once, by its distance from the parent zone, of two at the same
-- distance the lower first. Assumes nothing.
use Rattle.std.specs.Prelude.{◌≡◌, cond, List, [], ◌∷◌, ◌⊎◌, ◌↔◌, ℕ, suc, ◌+◌, ◌-◌, ◌<◌, eqb}
use Rattle.edits.specs.Near.{zones_near}
use Rattle.edits.specs.Room.{In, Earlier}

-- how far zone z is from zone p
abbrev pub distance : ℕ → ℕ → ℕ
distance p z = (p - z) + (z - p)

-- "tries it, then one below, one above, two below and so on": zone y comes before zone z
abbrev pub Nearer : ℕ → ℕ → ℕ → Type 0
Nearer p y z = (distance p y < distance p z) ⊎ ((distance p y ≡ distance p z) × (y < z))

-- how often a zone stands in a list
abbrev pub times : ℕ → List ℕ → ℕ
times z [] = 0
times z (x ∷ xs) = cond (eqb x z) (suc (times z xs)) (times z xs)

-- of so many zones, near zone p
pub record ZonesTried (zones p : ℕ) : Type 0 where
  pub once : (z : ℕ) → z < zones → times z (zones_near zones p) ≡ 1
  -- "skipping zones that don't exist"
  pub no_other : (z : ℕ) → In z (zones_near zones p) → z < zones
  pub in_order : (y z : ℕ) → y < zones → z < zones → Earlier y z (zones_near zones p) ↔ Nearer p y z
