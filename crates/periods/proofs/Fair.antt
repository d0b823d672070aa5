-- What every fine half adds to every run of sub-periods, from a test that antt computes: its share, but for less than one clock.
-- Assumes nothing.
use Prim.Native.Nat.{ℕ, zero, suc, ◌+◌, ◌-◌, ◌*◌, ◌^◌, ◌<◌}
use mathlib.Core.Path.{◌≡◌, refl}
use mathlib.Core.Bool.{Bool, true}
use lib.Dec.{ltb, eqb}
use lib.Count.{count_trailing_zeros}
use borrow.Author.Tests.{eqb-true, ltb-true}
use Rattle.laws.specs.Pick.{both}
use Rattle.laws.proofs.Both.{both_parts}
use Rattle.laws.specs.Lists.{upto}
use Rattle.laws.proofs.Tests.{upto_at}
use Rattle.wave.specs.Wave.{sub_periods, added}
use Rattle.dac.specs.Running.{halves}

-- what is added to m sub-periods from a on
unfoldable pub added_to : ℕ → ℕ → ℕ → ℕ
added_to fine a zero = 0
added_to fine a (suc m) = added fine a + added_to fine (suc a) m

near : ℕ → ℕ → Bool
near a b = both (ltb a (b + sub_periods)) (ltb b (a + sub_periods))

-- both bounds, from the test
near_by : (a b : ℕ) → near a b ≡ true → (a < b + sub_periods) × (b < a + sub_periods)
unfolding near
near_by a b e =
    let parts = both_parts (ltb a (b + sub_periods)) (ltb b (a + sub_periods)) e in
    (ltb-true a (b + sub_periods) parts.0, ltb-true b (a + sub_periods) parts.1)

-- The test of one fine half: all it adds to a period is itself, and to run j of 2 ^ k sub-periods its share but for less than one clock.
fair : ℕ → ℕ → ℕ → Bool
fair fine k j = near (sub_periods * added_to fine (2 ^ k * j) (2 ^ k)) (2 ^ k * fine)

all_fair : ℕ → Bool
all_fair fine = upto 7 (λ k. upto (2 ^ (7 - k)) (λ j. fair fine k j))

right : ℕ → Bool
right fine = both (eqb (added_to fine 0 sub_periods) fine) (all_fair fine)

all_right : upto halves right ≡ true
unfolding right all_fair fair near added_to added count_trailing_zeros
all_right = refl

module _ (fine : ℕ) (fits : fine < halves) where
  this : right fine ≡ true
  this = upto_at halves right all_right fine fits

  pub added_all : added_to fine 0 sub_periods ≡ fine
  unfolding right
  added_all = eqb-true (added_to fine 0 sub_periods) fine (both_parts (eqb (added_to fine 0 sub_periods) fine) (all_fair fine) this).0

  module _ (k j : ℕ) (hk : k < 7) (hj : j < 2 ^ (7 - k)) where
    here : fair fine k j ≡ true
    unfolding right all_fair
    here =
        let all = (both_parts (eqb (added_to fine 0 sub_periods) fine) (all_fair fine) this).1 in
        upto_at (2 ^ (7 - k)) (λ i. fair fine k i) (upto_at 7 (λ m. upto (2 ^ (7 - m)) (λ i. fair fine m i)) all k hk) j hj

    pub run_below : sub_periods * added_to fine (2 ^ k * j) (2 ^ k) < 2 ^ k * fine + sub_periods
    unfolding fair
    run_below = (near_by (sub_periods * added_to fine (2 ^ k * j) (2 ^ k)) (2 ^ k * fine) here).0

    pub run_above : 2 ^ k * fine < sub_periods * added_to fine (2 ^ k * j) (2 ^ k) + sub_periods
    unfolding fair
    run_above = (near_by (sub_periods * added_to fine (2 ^ k * j) (2 ^ k)) (2 ^ k * fine) here).1
