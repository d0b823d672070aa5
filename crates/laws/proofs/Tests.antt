-- Tests that antt computes, and the laws that turn one into its rule: a test passed at every number below n holds at each of them. And what a test
-- in the code, turned about, tells of the account's.
-- Assumes nothing.
use Prim.Native.Nat.{ℕ, zero, suc, ◌<◌}
use mathlib.Core.Path.{◌≡◌, refl, sym, ap, ◌∙◌}
use mathlib.Core.Bool.{Bool, true, false, not}
use native.Mathlib.Nat.{not-suc-le-zero}
use native.Mathlib.Omega.{arith}
use native.Mathlib.Decide.{ℕ_discrete}
use borrow.Author.Tests.{not-true, not-false}
use Rattle.laws.specs.Lists.{upto}
use Rattle.laws.proofs.Both.{both_parts}

pub upto_at : (n : ℕ) (f : ℕ → Bool) → upto n f ≡ true → (k : ℕ) → k < n → f k ≡ true
upto_at zero f e k h = absurd (not-suc-le-zero h)
upto_at (suc n) f e k h = let parts = both_parts (f n) (upto n f) e in go (λ l. upto_at n f parts.1 k l) parts.0 (ℕ_discrete k n)
  where
    go : (k < n → f k ≡ true) → f n ≡ true → Dec (k ≡ n) → f k ≡ true
    go rest last (yes d) = ap f d ∙ last
    go rest last (no d) = rest (omega arith)

pub upto_all : (n : ℕ) (f : ℕ → Bool) → ((k : ℕ) → k < n → f k ≡ true) → upto n f ≡ true
upto_all zero f h = refl
upto_all (suc n) f h = rw (h n (omega arith)) (upto_all n f (λ k l. h k (omega arith)))

-- what `!f(..)` tells of the test that f answers by
pub test_holds : (r t : Bool) → r ≡ t → not r ≡ false → t ≡ true
test_holds r t answers left = sym answers ∙ not-false _ left

pub test_fails : (r t : Bool) → r ≡ t → not r ≡ true → t ≡ false
test_fails r t answers taken = sym answers ∙ not-true _ taken
