-- The entries of a list: which stand in it and in which order; and of stretches of bits, which bits lie in them. Assumes nothing.
use Rattle.std.specs.Prelude.{◌≡◌, List, [], ◌∷◌, ◌⊎◌, ℕ}
use Rattle.model.specs.Chain.{Pair, Within}

-- an entry of a list
abbrev pub In : {A : Type 0} → A → List A → Type 0
In h [] = ⊥
In h (x ∷ xs) = (h ≡ x) ⊎ In h xs

-- q stands before p in a list
abbrev pub Earlier : {A : Type 0} → A → A → List A → Type 0
Earlier q p [] = ⊥
Earlier q p (x ∷ xs) = ((q ≡ x) × In p xs) ⊎ Earlier q p xs

-- bit d lies in one of the stretches
abbrev pub InSome : List Pair → ℕ → Type 0
InSome qs d = (q : Pair) × In q qs × Within q d

-- no bit lies in both
abbrev pub ShareNone : Pair → Pair → Type 0
ShareNone q p = (d : ℕ) → Within q d → Within p d → ⊥
