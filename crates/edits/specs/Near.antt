-- The zones of a disc in the order in which a claim tries them (document 02, R-6). Assumes nothing.
use Rattle.std.specs.Prelude.{Bool, cond, ◌&&◌, List, [], ◌∷◌, ◌++◌, ℕ, zero, suc, ◌+◌, ◌-◌, ltb, leb}

-- a zone, if it is there
abbrev pub zone_if : Bool → ℕ → List ℕ
zone_if b z = cond b (z ∷ []) []

-- at distance d from the parent zone p: "one below, one above", "skipping zones that don't exist"; at distance 0 the parent alone
abbrev pub zones_at : ℕ → ℕ → ℕ → List ℕ
zones_at zones p d = zone_if (leb d p) (p - d) ++ zone_if (ltb 0 d && ltb (p + d) zones) (p + d)

-- at n distances from d on
abbrev pub zones_from : ℕ → ℕ → ℕ → ℕ → List ℕ
zones_from zones p d zero = []
zones_from zones p d (suc n) = zones_at zones p d ++ zones_from zones p (suc d) n

-- "tries it, then one below, one above, two below and so on": of so many zones none is that far from another
abbrev pub zones_near : ℕ → ℕ → List ℕ
zones_near zones p = zones_from zones p 0 zones
