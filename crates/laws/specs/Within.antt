-- Whether every number of a list is at most a given one, and the first that is not: the tests of words and of rows.
-- Assumes nothing.
use Rattle.std.specs.Prelude.{ℕ, List, [], ◌∷◌, Bool, true, leb, ltb, length, get_or}
use Rattle.laws.specs.Pick.{both}
use Rattle.laws.specs.Lists.{first_of}

unfoldable pub within : ℕ → List ℕ → Bool
within most [] = true
within most (a ∷ l) = both (leb a most) (within most l)

-- the index of the first that is above it; how many there are, where none is
abbrev pub first_row_above : ℕ → List ℕ → ℕ
first_row_above most l = first_of (length l) (λ k. ltb most (get_or l k 0))
