-- The high clocks of a period of one pair, counted: of a sub-period, then of a run of sub-periods, then the shares that demand 3 asks for.
-- Assumes nothing.
use Prim.Native.Nat.{ℕ, zero, suc, ◌+◌, ◌-◌, ◌*◌, ◌/◌, ◌%◌, ◌^◌, ◌<◌, ◌≤◌}
use mathlib.Core.Path.{◌≡◌, refl, sym, ap, ap₂, ◌∙◌}
use mathlib.Core.Bool.{Bool, true, false}
use native.Mathlib.Nat.{zero-add, add-zero, zero-mul, suc-mul, mul-suc, mul-add, mul_left_comm, mul-le-mul_left}
use native.Mathlib.Omega.{arith}
use lib.Dec.{ltb, eqb}
use lib.ListN.{take, drop}
use lib.Pow.{pow-add}
use lib.Seq.{take_at, drop_at}
use Rattle.laws.specs.Pick.{pick}
use Rattle.laws.specs.Sums.{sum_all}
use Rattle.wave.specs.declared.Pair.{Pair}
use Rattle.wave.specs.Wave.{period, sub_period, sub_periods, added, level, wave}
use Rattle.dac.specs.Running.{halves, counts}
use Rattle.wave.specs.Steps.{pulse}
use Rattle.periods.specs.Demand.{highs, high_clocks, run_of, Shares}
use Rattle.periods.proofs.Fair.{added_to, added_all, run_below, run_above}
use Rattle.wave.proofs.Fine.{added_le}
use Rattle.wave.proofs.Within.{length_wave, wave_add, sum_wave_add, within_sub, sum_pulse}

-- a level is 1 or 0, so the high ones are counted by their sum
highs_sum : (q : Pair) (a n : ℕ) → highs (wave q a n) ≡ sum_all (wave q a n)
unfolding wave highs sum_all level
highs_sum q a zero = refl
highs_sum q a (suc n) = ap₂ ◌+◌ (go (ltb (a % sub_period) (q.coarse + added q.fine (a / sub_period)))) (highs_sum q (suc a) n)
  where
    go : (b : Bool) → ◌≡◌ {A = ℕ} (pick (eqb (pick b 1 0) 1) 1 0) (pick b 1 0)
    go true = refl
    go false = refl

module _ (q : Pair) (coarse_fits : q.coarse < halves) where
  -- a sub-period is high for its coarse clocks and the added one
  sub_period_law : (s : ℕ) → sum_all (wave q (sub_period * s) sub_period) ≡ q.coarse + added q.fine s
  sub_period_law s =
      let e = within_sub q s sub_period 0 (omega arith) in
      let here : wave q (sub_period * s) sub_period ≡ pulse 0 (q.coarse + added q.fine s) sub_period =
      ap (λ (a : ℕ). wave q a sub_period) (sym (add-zero (sub_period * s))) ∙ e in
      omega (arith, ap sum_all here, sum_pulse 0 (q.coarse + added q.fine s) sub_period, added_le q.fine s)

  no_clocks : (a : ℕ) → sum_all (wave q a 0) ≡ 0
  unfolding wave sum_all
  no_clocks a = refl

  -- r sub-periods from s on
  sub_periods_law : (s r : ℕ) → sum_all (wave q (sub_period * s) (sub_period * r)) ≡ r * q.coarse + added_to q.fine s r
  unfolding added_to
  sub_periods_law s zero = omega (arith, zero-mul q.coarse, no_clocks (sub_period * s))
  sub_periods_law s (suc r) =
      let more : sub_period * suc r ≡ sub_period + sub_period * r = omega arith in
      let next : sub_period * s + sub_period ≡ sub_period * suc s = omega arith in
      let split : sum_all (wave q (sub_period * s) (sub_period * suc r)) ≡ sum_all (wave q (sub_period * s) sub_period) + sum_all (wave q (sub_period * suc s) (sub_period * r)) =
      ap (λ (n : ℕ). sum_all (wave q (sub_period * s) n)) more ∙ sum_wave_add q (sub_period * s) sub_period (sub_period * r)
      ∙ ap (λ (a : ℕ). sum_all (wave q (sub_period * s) sub_period) + sum_all (wave q a (sub_period * r))) next in
      omega (arith, split, sub_period_law s, sub_periods_law (suc s) r, suc-mul r q.coarse)

-- a part of a wave is a wave
part : (q : Pair) (s m n : ℕ) → s + m ≤ n → take m (drop s (wave q 0 n)) ≡ wave q s m
part q s m n h =
    let e : n ≡ s + (m + (n - (s + m))) = omega arith in
    ap (λ (x : ℕ). take m (drop s (wave q 0 x))) e
    ∙ rw (wave_add q 0 s (m + (n - (s + m))), drop_at (wave q 0 s) (wave q (0 + s) (m + (n - (s + m)))) s (length_wave q 0 s), wave_add q (0 + s) m (n - (s + m)))
    (take_at (wave q (0 + s) m) (wave q (0 + s + m) (n - (s + m))) m (length_wave q (0 + s) m) ∙ ap (λ (x : ℕ). wave q x m) (zero-add s))

-- run j of 2 ^ k sub-periods lies within the period
inside : (k j : ℕ) → k < 7 → j < 2 ^ (7 - k) → sub_period * (2 ^ k * j) + sub_period * 2 ^ k ≤ period
inside k j hk hj =
    let seven : k + (7 - k) ≡ 7 = omega arith in
    let one : 2 ^ k * suc j ≤ 2 ^ k * 2 ^ (7 - k) = mul-le-mul_left (2 ^ k) hj in
    let all : 2 ^ k * 2 ^ (7 - k) ≡ sub_periods = sym (pow-add 2 k (7 - k)) ∙ ap (λ (n : ℕ). 2 ^ n) seven in
    omega (arith, mul-suc (2 ^ k) j)

module _ (q : Pair) (coarse_fits : q.coarse < halves) (fine_fits : q.fine < halves) where
  -- T of a period are high, and of its first clocks no more
  pub sum_period : sum_all (wave q 0 period) ≡ high_clocks q
  sum_period = omega (arith, sub_periods_law q coarse_fits 0 sub_periods, added_all q.fine fine_fits)

  pub sum_first : (n : ℕ) → n ≤ period → sum_all (wave q 0 n) < counts
  sum_first n h =
      let whole : n + (period - n) ≡ period = omega arith in
      let all : sum_all (wave q 0 (n + (period - n))) ≡ sum_all (wave q 0 period) = ap (λ (m : ℕ). sum_all (wave q 0 m)) whole in
      omega (arith, all, sum_wave_add q 0 n (period - n), sum_period)

  exact : highs (wave q 0 period) ≡ high_clocks q
  exact = highs_sum q 0 period ∙ sum_period

  -- what a run has, and what is asked for it
  in_run : (k j : ℕ) → k < 7 → j < 2 ^ (7 - k) → highs (run_of (2 ^ k) j (wave q 0 period)) ≡ 2 ^ k * q.coarse + added_to q.fine (2 ^ k * j) (2 ^ k)
  in_run k j hk hj =
      ap highs (part q (sub_period * (2 ^ k * j)) (sub_period * 2 ^ k) period (inside k j hk hj))
      ∙ highs_sum q (sub_period * (2 ^ k * j)) (sub_period * 2 ^ k) ∙ sub_periods_law q coarse_fits (2 ^ k * j) (2 ^ k)

  asked : (r : ℕ) → r * high_clocks q ≡ sub_periods * (r * q.coarse) + r * q.fine
  asked r = mul-add r (sub_periods * q.coarse) q.fine ∙ ap (λ (n : ℕ). n + r * q.fine) (mul_left_comm r sub_periods q.coarse)

  pub shares : Shares (high_clocks q) (wave q 0 period)
  shares = record {
    long = length_wave q 0 period;
    exact = exact;
    below = λ k j hk hj. omega (arith, in_run k j hk hj, asked (2 ^ k), run_below q.fine fine_fits k j hk hj);
    above = λ k j hk hj. omega (arith, in_run k j hk hj, asked (2 ^ k), run_above q.fine fine_fits k j hk hj);
  }

-- Pairs that put out the same period are the same pair: both halves agree.
pub one_pair : (p q : Pair) → p.coarse < halves → p.fine < halves → q.coarse < halves → q.fine < halves → wave p 0 period ≡ wave q 0 period → p ≡ q
one_pair p q pc pf qc qf e =
    let same : high_clocks p ≡ high_clocks q = sym (sum_period p pc pf) ∙ ap sum_all e ∙ sum_period q qc qf in
    let c : p.coarse ≡ q.coarse = omega arith in
    let f : p.fine ≡ q.fine = omega arith in
    λ i. record { coarse = c i; fine = f i }
