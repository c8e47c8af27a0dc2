-- The words of a list of bytes added up plainly: no carry is taken off the sum. What the code adds up before it takes off the carries. Assumes
-- nothing.
use Rattle.std.specs.Prelude.{ℕ, ◌+◌, List, [], ◌∷◌}

unfoldable pub sum_of : List ℕ → ℕ
sum_of [] = 0
sum_of (w ∷ ws) = sum_of ws + w
