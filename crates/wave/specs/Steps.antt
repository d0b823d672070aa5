-- Not part of the account: what the private functions are told to write and to answer. proofs/Within joins it to the levels of specs/Wave.
-- Assumes nothing.
use Rattle.std.specs.Prelude.{ℕ, ◌+◌, ◌-◌, min, List, ◌++◌, ltb, replicate, ◌≡◌}
use Rattle.laws.specs.Pick.{pick}
use Rattle.laws.specs.Sums.{sum_all}
use Rattle.wave.specs.declared.Pair.{Pair}
use Rattle.wave.specs.Wave.{sub_period, added, wave}

-- the level of clock i of a sub-period that is high for its first x clocks
abbrev pub level_below : ℕ → ℕ → ℕ
level_below i x = pick (ltb i x) 1 0

-- how many clocks of sub-period n are high: no more than it has
abbrev pub high_in : Pair → ℕ → ℕ
high_in q n = min (q.coarse + added q.fine n) sub_period

-- the n levels from clock i on of a sub-period that is high for its first x clocks
unfoldable pub pulse : ℕ → ℕ → ℕ → List ℕ
pulse i x n = replicate (min (x - i) n) 1 ++ replicate (n - (x - i)) 0

-- l are the n levels from position a on, and r is how many of them are high
abbrev pub Lays : Pair → ℕ → ℕ → ℕ → List ℕ → Type 0
Lays q a n r l = (r ≡ sum_all (wave q a n)) × (l ≡ wave q a n)
