-- The same of the holes as they stand on the map, without sorting them. The threshold is the greatest length such that the holes of at least that
-- length have enough bits together: longer holes go whole, and of those just as long, from the lowest on, as many as the rest asks for, the last
-- of them cut. Assumes nothing.
use Rattle.std.specs.Prelude.{Bool, cond, ◌&&◌, ◌||◌, List, [], ◌∷◌, ℕ, suc, ◌+◌, ◌-◌, ◌<◌, ◌≤◌, eqb, ltb, leb}
use Rattle.model.specs.Chain.{Pair}
use Rattle.split.specs.Taken.{cut}

-- the bits of the holes of at least t bits
abbrev pub at_least : ℕ → List Pair → ℕ
at_least t [] = 0
at_least t (h ∷ hs) = cond (leb t h.len) (h.len + at_least t hs) (at_least t hs)

-- t is the greatest length whose holes, with all longer ones, have at least `need` bits
pub record IsThreshold (need : ℕ) (hs : List Pair) (t : ℕ) : Type 0 where
  pub enough : need ≤ at_least t hs
  pub longer_not : at_least (suc t) hs < need

-- Whether a hole of n bits is taken, where the holes of t bits are to give `rest` bits; what is taken of it; and the rest after it.
abbrev pub wanted : ℕ → ℕ → ℕ → Bool
wanted t rest n = ltb t n || (eqb n t && ltb 0 rest)

abbrev pub part : ℕ → ℕ → ℕ → Pair → Pair
part m t rest h = cond (ltb t h.len) h (cut m rest h)

abbrev pub rest_after : ℕ → ℕ → ℕ → ℕ
rest_after t rest n = cond (eqb n t) (rest - t) rest

abbrev pub pick_from : ℕ → ℕ → ℕ → List Pair → List Pair
pick_from m t rest [] = []
pick_from m t rest (h ∷ hs) =
    cond (wanted t rest h.len) (part m t rest h ∷ pick_from m t (rest_after t rest h.len) hs) (pick_from m t (rest_after t rest h.len) hs)

-- what is taken of the holes, in their order: the holes of t bits give what the longer ones leave
abbrev pub picked : ℕ → ℕ → ℕ → List Pair → List Pair
picked m need t hs = pick_from m t (need - at_least (suc t) hs) hs

-- the first one of the longest, of h and the holes after it
abbrev pub longer : Pair → Pair → Pair
longer h x = cond (ltb h.len x.len) x h

abbrev pub first_longest : Pair → List Pair → Pair
first_longest h [] = h
first_longest h (x ∷ xs) = first_longest (longer h x) xs
