-- Lists given by a rule; the first number that passes a test, how many do, and whether all do.
-- Assumes nothing.
use Rattle.std.specs.Prelude.{ℕ, zero, suc, ◌+◌, Bool, true, List, [], ◌∷◌}
use Rattle.laws.specs.Pick.{pick, both}

-- f at 0, 1 and so on: n in all
unfoldable pub tabulate : {A : Type 0} → ℕ → (ℕ → A) → List A
tabulate zero f = []
tabulate (suc n) f = f 0 ∷ tabulate n (λ k. f (suc k))

-- the first number below n that passes the test, or n where none does
unfoldable pub first_of : ℕ → (ℕ → Bool) → ℕ
first_of zero test = 0
first_of (suc n) test = pick (test 0) 0 (suc (first_of n (λ k. test (suc k))))

-- how many numbers below n pass the test
unfoldable pub count_of : ℕ → (ℕ → Bool) → ℕ
count_of zero test = 0
count_of (suc n) test = pick (test n) 1 0 + count_of n test

-- the test passes at each number below n
abbrev pub upto : ℕ → (ℕ → Bool) → Bool
upto zero test = true
upto (suc n) test = both (test n) (upto n test)
