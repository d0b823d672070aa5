-- Painting dots from x on: one more, some more of one byte, and cut where the line ends.
-- Assumes nothing.
use mathlib.Core.Path.{◌≡◌, sym, ap, ◌∙◌}
use mathlib.Core.Logic.{⊎_elim}
use Prim.Native.Nat.{ℕ, ◌+◌, ◌-◌, ◌<◌, ◌≤◌}
use native.Mathlib.Nat.{add-sub_cancel_left}
use native.Mathlib.Omega.{arith}
use Rattle.laws.specs.Placing.{patched}
use Rattle.laws.proofs.Scan.{split}
use Rattle.laws.proofs.Placing.{span_in, span_before, span_after}

module _ (x : ℕ) (shows : ℕ → ℕ) where
  pub patched_out : (n k a : ℕ) → x + n ≤ k → patched x n shows k a ≡ a
  unfolding patched
  patched_out n k a le = simp (span_after x n k le)

  patched_in : (n k a : ℕ) → x ≤ k → k < x + n → patched x n shows k a ≡ shows (k - x)
  unfolding patched
  patched_in n k a le lt = simp (span_in x n k le lt)

  patched_before : (n k a : ℕ) → k < x → patched x n shows k a ≡ a
  unfolding patched
  patched_before n k a lt = simp (span_before x n k lt)

  pub patched_none : (k a : ℕ) → patched x 0 shows k a ≡ a
  patched_none k a = ⊎_elim (λ h. patched_out 0 k a (omega arith)) (λ h. patched_before 0 k a h) (split x k)

  -- dot i is painted
  pub patched_here : (i a : ℕ) → shows i ≡ patched x (i + 1) shows (x + i) a
  patched_here i a = ap shows (sym (add-sub_cancel_left x i)) ∙ sym (patched_in (i + 1) (x + i) a (omega arith) (omega arith))

  -- the others are as before it
  pub patched_other : (i k a : ℕ) → (k ≡ x + i → ⊥) → patched x i shows k a ≡ patched x (i + 1) shows k a
  patched_other i k a ne =
      ⊎_elim
      (λ h. ⊎_elim
      (λ r. patched_out i k a r ∙ sym (patched_out (i + 1) k a (omega (arith, ne))))
      (λ r. patched_in i k a h r ∙ sym (patched_in (i + 1) k a h (omega arith)))
      (split (x + i) k))
      (λ h. patched_before i k a h ∙ sym (patched_before (i + 1) k a h))
      (split x k)

  -- a dot within n dots does not tell n from more: what lies beyond the line's end is cut
  pub patched_cut : (n m k a : ℕ) → n ≤ m → k < x + n → patched x n shows k a ≡ patched x m shows k a
  patched_cut n m k a le lt =
      ⊎_elim
      (λ h. patched_in n k a h lt ∙ sym (patched_in m k a h (omega arith)))
      (λ h. patched_before n k a h ∙ sym (patched_before m k a h))
      (split x k)

  -- n dots of one byte after m dots
  pub patched_more : (m n byte k a : ℕ) → ((d : ℕ) → m ≤ d → d < m + n → byte ≡ shows d) → patched (x + m) n (λ d. byte) k (patched x m shows k a) ≡ patched x (m + n) shows k a
  unfolding patched
  patched_more m n byte k a same =
      ⊎_elim
      (λ (at : x + m ≤ k). ⊎_elim
      (λ (after : x + m + n ≤ k). simp (span_after (x + m) n k after, span_after x m k at, span_after x (m + n) k (omega arith)))
      (λ (within : k < x + m + n). simp (span_in (x + m) n k at within, span_in x (m + n) k (omega arith) (omega arith)) (same (k - x) (omega arith) (omega arith)))
      (split (x + m + n) k))
      (λ (before : k < x + m). simp (span_before (x + m) n k before)
      (⊎_elim
      (λ (at : x ≤ k). simp (span_in x m k at before, span_in x (m + n) k at (omega arith)))
      (λ (left : k < x). simp (span_before x m k left, span_before x (m + n) k left))
      (split x k)))
      (split (x + m) k)
