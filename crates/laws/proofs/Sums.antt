-- Laws of sums, each by induction on the list or on the number of places: one number more at the end, two rules added, and how many places a
-- span has.
-- Assumes nothing.
use mathlib.Core.Path.{◌≡◌, refl, sym, ◌∙◌, ap}
use mathlib.Core.List.{List, [], ◌∷◌, ◌++◌, map}
use Prim.Native.Nat.{ℕ, zero, suc, ◌+◌, ◌-◌, ◌*◌, ◌<◌, ◌≤◌, min}
use native.Mathlib.Nat.{zero-mul, suc-mul}
use native.Mathlib.Numerals.{add-one}
use native.Mathlib.Decide.{dec_lt}
use native.Mathlib.Omega.{arith}
use lib.ListN.{length, get_or, take, replicate}
use lib.Seq.{take-suc}
use Rattle.laws.specs.Pick.{pick}
use Rattle.laws.specs.Lists.{tabulate}
use Rattle.laws.specs.Placing.{span_has}
use Rattle.laws.specs.Sums.{sum_all}
use Rattle.laws.proofs.Lists.{tabulate_more}
use Rattle.laws.proofs.Placing.{span_in, span_before, span_after}

-- two lists, and one number more at the end
pub sum_append : (k l : List ℕ) → sum_all (k ++ l) ≡ sum_all k + sum_all l
unfolding sum_all
sum_append [] l = omega arith
sum_append (a ∷ k) l = omega (arith, sum_append k l)

pub sum_last : (l : List ℕ) (b : ℕ) → sum_all (l ++ (b ∷ [])) ≡ sum_all l + b
unfolding sum_all
sum_last l b = omega (arith, sum_append l (b ∷ []))

-- one number so many times
pub sum_same : (n b : ℕ) → sum_all (replicate n b) ≡ n * b
unfolding sum_all
sum_same zero b = sym (zero-mul b)
sum_same (suc n) b = omega (arith, sum_same n b, suc-mul n b)

module _ {A : Type 0} (f : A → ℕ) where
  map_last : (l : List A) (a : A) → sum_all (map f (l ++ (a ∷ []))) ≡ sum_all (map f l) + f a
  unfolding sum_all
  map_last [] a = omega arith
  map_last (b ∷ l) a = omega (arith, map_last l a)

  -- a list up to place k, and one element further
  pub sum_take : (d : A) (l : List A) (k : ℕ) → k < length l → sum_all (map f (take (k + 1) l)) ≡ sum_all (map f (take k l)) + f (get_or l k d)
  sum_take d l k h = rw (add-one k, take-suc l k d h) (map_last (take k l) (get_or l k d))

-- numbers given by a rule: one more
pub sum_tabulate : (n : ℕ) (f : ℕ → ℕ) → sum_all (tabulate (n + 1) f) ≡ sum_all (tabulate n f) + f n
sum_tabulate n f = ap sum_all (tabulate_more n f) ∙ sum_last (tabulate n f) (f n)

-- two rules, and the rule that is 0 everywhere
pub sum_both : (n : ℕ) (f g : ℕ → ℕ) → sum_all (tabulate n (λ a. f a + g a)) ≡ sum_all (tabulate n f) + sum_all (tabulate n g)
unfolding sum_all tabulate
sum_both zero f g = omega arith
sum_both (suc n) f g = omega (arith, sum_both n (λ k. f (suc k)) (λ k. g (suc k)))

pub sum_none : (n : ℕ) → sum_all (tabulate n (λ a. 0)) ≡ 0
unfolding sum_all tabulate
sum_none zero = refl
sum_none (suc n) = omega (arith, sum_none n)

-- how many of the places below m a span has
span_below : (x n m : ℕ) → sum_all (tabulate m (λ k. pick (span_has x n k) 1 0)) ≡ min m (x + n) - min m x
unfolding sum_all tabulate
span_below x n zero = omega arith
span_below x n (suc m) =
    ap (λ i. sum_all (tabulate i (λ k. pick (span_has x n k) 1 0))) (add_one_back m)
    ∙ sum_tabulate m (λ k. pick (span_has x n k) 1 0) ∙ go (span_below x n m) (dec_lt m x) (dec_lt m (x + n))
  where
    add_one_back : (m : ℕ) → suc m ≡ m + 1
    add_one_back m = omega arith

    go : sum_all (tabulate m (λ k. pick (span_has x n k) 1 0)) ≡ min m (x + n) - min m x → Dec (m < x) → Dec (m < x + n)
        → sum_all (tabulate m (λ k. pick (span_has x n k) 1 0)) + pick (span_has x n m) 1 0 ≡ min (suc m) (x + n) - min (suc m) x
    go ih (yes l) d = rw (ih, span_before x n m l) (omega arith)
    go ih (no l) (yes d) = rw (ih, span_in x n m (omega arith) d) (omega arith)
    go ih (no l) (no d) = rw (ih, span_after x n m (omega arith)) (omega arith)

pub sum_span : (x n m : ℕ) → x + n ≤ m → sum_all (tabulate m (λ k. pick (span_has x n k) 1 0)) ≡ n
sum_span x n m le = span_below x n m ∙ omega arith
