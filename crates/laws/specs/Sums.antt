-- The sum of a list's numbers: checksums, counts and places are sums.
-- Assumes nothing.
use Rattle.std.specs.Prelude.{ℕ, ◌+◌, List, [], ◌∷◌}

unfoldable pub sum_all : List ℕ → ℕ
sum_all [] = 0
sum_all (n ∷ rest) = n + sum_all rest
