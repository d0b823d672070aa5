-- Which fine bit serves a sub-period, read from a count of trailing zeros at any width: a law of numbers, and the account's `added` by it.
-- Assumes nothing.
use Rattle.std.proofs.Common.{ℕ, zero, suc, ◌-◌, ◌/◌, ◌%◌, ◌^◌, ◌<◌, ◌≤◌, suc-le-suc, ◌≡◌, refl, sym, ap, ◌∙◌, Bool, true, false, not-suc-le-zero, pow-suc, arith, eqb, eq-eqb, ne_eqb}
use Rattle.std.specs.Int.Count.{count_trailing_zeros, under}
use Rattle.laws.specs.Pick.{pick}
use Rattle.wave.specs.Wave.{sub_periods, added, bit}

-- A number of k bits that is not 0 ends in as many zero bits at every width from k on, and in fewer than k.
pub zeros_at : (k w n : ℕ) → 0 < n → n < 2 ^ k → k ≤ w → (count_trailing_zeros w n ≡ count_trailing_zeros k n) × (count_trailing_zeros k n < k)
unfolding count_trailing_zeros
zeros_at zero w n some low wide = omega arith
zeros_at (suc k) zero n some low wide = absurd (not-suc-le-zero wide)
zeros_at (suc k) (suc w) n some low wide =
    go (λ e. zeros_at k w (n / 2) (omega arith) (omega (arith, pow-suc 2 k)) (omega arith)) (n % 2) refl
  where
    go : (n % 2 ≡ 0 → (count_trailing_zeros w (n / 2) ≡ count_trailing_zeros k (n / 2)) × (count_trailing_zeros k (n / 2) < k))
        → (d : ℕ) → n % 2 ≡ d → (under d (count_trailing_zeros w (n / 2)) ≡ under d (count_trailing_zeros k (n / 2))) × (under d (count_trailing_zeros k (n / 2)) < suc k)
    go even zero e = (ap suc (even e).0, suc-le-suc (even e).1)
    go even (suc d) e = (refl, omega arith)

-- So of a sub-period that is not 0, the bit 6 less its count, at any width from 7 on, is the account's.
pub served : (w n : ℕ) → 0 < n → n < sub_periods → 7 ≤ w → (fine b : ℕ) → b ≡ 6 - count_trailing_zeros w n → bit fine b ≡ added fine n
unfolding added
served w n some low wide fine b e =
    ap (bit fine) (e ∙ ap (λ (z : ℕ). 6 - z) (zeros_at 7 w n some low wide).0)
    ∙ sym (ap (λ (t : Bool). pick t 0 (bit fine (6 - count_trailing_zeros 7 n))) (ne_eqb n 0 (λ z. omega arith)))

pub none_at_0 : (fine n : ℕ) → n ≡ 0 → added fine n ≡ 0
unfolding added
none_at_0 fine n e = ap (λ (t : Bool). pick t 0 (bit fine (6 - count_trailing_zeros 7 n))) (eq-eqb n 0 e)

-- a sub-period gets one clock or none
pub added_le : (fine n : ℕ) → added fine n ≤ 1
unfolding added
added_le fine n = go (eqb n 0)
  where
    go : (t : Bool) → pick t 0 (bit fine (6 - count_trailing_zeros 7 n)) ≤ 1
    go true = omega arith
    go false = omega arith
