-- What is taken of holes for so many bits (document 02, R-8): "take holes largest first, the lower disc bit first among equals: whole while it's no
-- longer than what remains, then from the start of the last one what remains (at least m), or all of it if a leftover of 1 to m-1 bits would
-- result". A hole is a stretch of free bits. Assumes nothing.
use Rattle.std.specs.Prelude.{Bool, cond, ◌&&◌, ◌||◌, List, [], ◌∷◌, ℕ, ◌+◌, ◌-◌, max, eqb, ltb, leb}
use Rattle.std.proofs.Math.Option.{Option, none, some}
use Rattle.model.specs.Chain.{Pair, pair, before}

-- the bits of all together
abbrev pub total : List Pair → ℕ
total [] = 0
total (h ∷ hs) = h.len + total hs

-- stretches in an order, by which of two goes before the other
abbrev pub put_by : (Pair → Pair → Bool) → Pair → List Pair → List Pair
put_by t h [] = h ∷ []
put_by t h (x ∷ xs) = cond (t h x) (h ∷ x ∷ xs) (x ∷ put_by t h xs)

abbrev pub sort_by : (Pair → Pair → Bool) → List Pair → List Pair
sort_by t [] = []
sort_by t (h ∷ hs) = put_by t h (sort_by t hs)

-- "largest first, the lower disc bit first among equals"
abbrev pub leads : Pair → Pair → Bool
leads h x = ltb x.len h.len || (eqb h.len x.len && ltb h.start x.start)

abbrev pub by_size : List Pair → List Pair
by_size hs = sort_by leads hs

-- ascending
abbrev pub lower : Pair → Pair → Bool
lower q x = ltb q.start x.start

abbrev pub by_start : List Pair → List Pair
by_start qs = sort_by lower qs

-- "from the start of the last one what remains (at least m), or all of it if a leftover of 1 to m-1 bits would result": of n bits, and of a hole
abbrev pub cut_bits : ℕ → ℕ → ℕ → ℕ
cut_bits m remains n = cond (ltb n (max remains m + m)) n (max remains m)

abbrev pub cut : ℕ → ℕ → Pair → Pair
cut m remains h = pair h.start (cut_bits m remains h.len)

-- "whole while it's no longer than what remains", and then the last one; none where the holes end while something remains
abbrev pub take_from : ℕ → ℕ → List Pair → Option (List Pair)
take_from m remains [] = cond (eqb remains 0) (some []) none
take_from m remains (h ∷ hs) =
    cond (eqb remains 0) (some [])
    (cond (leb h.len remains) (before h (take_from m (remains - h.len) hs)) (some (cut m remains h ∷ [])))
