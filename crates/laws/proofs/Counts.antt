-- Laws of how many numbers below n pass a test, each by induction on n: each count below the last is reached; more numbers pass a weaker test; and
-- numbers that are told apart by values below b are at most b.
-- Assumes nothing.
use Prim.Native.Nat.{ℕ, zero, suc, ◌+◌, ◌<◌, ◌≤◌}
use mathlib.Core.Path.{◌≡◌, refl, sym, ◌∙◌}
use mathlib.Core.Bool.{Bool, true, false, not, false≢true}
use native.Mathlib.Nat.{not-suc-le-zero}
use native.Mathlib.Numerals.{add-one}
use native.Mathlib.Decide.{ℕ_discrete}
use native.Mathlib.Omega.{arith}
use borrow.Author.Tests.{eqb-true, eqb-false}
use lib.Dec.{eqb}
use Rattle.laws.specs.Pick.{pick, both}
use Rattle.laws.specs.Lists.{count_of}
use Rattle.laws.proofs.Both.{both_parts}

-- a test at one number, as it is counted
one_most : (b : Bool) → pick b 1 0 ≤ 1
one_most true = omega arith
one_most false = omega arith

module _ (test : ℕ → Bool) where
  pub count_more : (n : ℕ) → count_of (n + 1) test ≡ pick (test n) 1 0 + count_of n test
  unfolding count_of
  count_more n = rw (add-one n)

  pub count_most : (n : ℕ) → count_of n test ≤ n
  unfolding count_of
  count_most zero = omega arith
  count_most (suc n) = omega (arith, count_most n, one_most (test n))

  pub count_before : (m n : ℕ) → m ≤ n → count_of m test ≤ count_of n test
  unfolding count_of
  count_before m zero le = let none : m ≡ 0 = omega arith in rw none (omega arith)
  count_before m (suc n) le = go (ℕ_discrete m (suc n)) (λ l. count_before m n l)
    where
      go : Dec (m ≡ suc n) → (m ≤ n → count_of m test ≤ count_of n test) → count_of m test ≤ pick (test n) 1 0 + count_of n test
      go (yes d) ih = rw d (omega arith)
      go (no d) ih = omega (arith, ih (omega arith))

  -- a number that passes is counted after it
  pub count_after : (m n : ℕ) → m < n → test m ≡ true → count_of m test < count_of n test
  count_after m n lt here =
      let up = count_before (m + 1) n (omega arith) in
      let step : count_of (m + 1) test ≡ 1 + count_of m test = count_more m ∙ rw here in
      omega (arith, up, step)

-- where count c is reached below n: at a number that passes, with c before it
pub record Reached (test : ℕ → Bool) (n c : ℕ) : Type 0 where
  pub at : ℕ
  pub below : at < n
  pub passes : test at ≡ true
  pub count : count_of at test ≡ c

pub count_at : (test : ℕ → Bool) (n c : ℕ) → c < count_of n test → Reached test n c
unfolding count_of
count_at test zero c h = absurd (not-suc-le-zero h)
count_at test (suc n) c h = go (test n) refl h (λ l. count_at test n c l) (ℕ_discrete (count_of n test) c)
  where
    later : Reached test n c → Reached test (suc n) c
    later r = record { at = r.at; below = let l = r.below in omega arith; passes = r.passes; count = r.count }

    go : (b : Bool) → test n ≡ b → c < pick b 1 0 + count_of n test → (c < count_of n test → Reached test n c) → Dec (count_of n test ≡ c) → Reached test (suc n) c
    go true e l ih (yes d) = record { at = n; below = omega arith; passes = e; count = d }
    go true e l ih (no d) = later (ih (omega arith))
    go false e l ih d = later (ih (omega arith))

-- a test that passes wherever another does
pub count_weaker : (test test' : ℕ → Bool) (n : ℕ) → ((k : ℕ) → k < n → test k ≡ true → test' k ≡ true) → count_of n test ≤ count_of n test'
unfolding count_of
count_weaker test test' zero h = omega arith
count_weaker test test' (suc n) h =
    go (test n) (test' n) (h n (omega arith)) (count_weaker test test' n (λ k l. h k (omega arith)))
  where
    go : (b b' : Bool) → (b ≡ true → b' ≡ true) → count_of n test ≤ count_of n test' → pick b 1 0 + count_of n test ≤ pick b' 1 0 + count_of n test'
    go true true i le = omega (arith, le)
    go true false i le = absurd (false≢true (i refl))
    go false b' i le = omega (arith, le)

-- numbers that pass and have different values: without those of one value there is one fewer at most
abbrev without : (ℕ → ℕ) → ℕ → (ℕ → Bool) → ℕ → Bool
without f b test k = both (test k) (not (eqb (f k) b))

-- no number below n that passes has value b
abbrev Free : (ℕ → ℕ) → ℕ → (ℕ → Bool) → ℕ → Type 0
Free f b test n = (k : ℕ) → k < n → test k ≡ true → f k ≡ b → ⊥

without_free : (f : ℕ → ℕ) (b : ℕ) (test : ℕ → Bool) (n : ℕ) → Free f b test n → count_of n test ≤ count_of n (without f b test)
without_free f b test n free = count_weaker test (without f b test) n (λ k l passes. go k (free k l passes) passes (eqb (f k) b) refl)
  where
    go : (k : ℕ) → (f k ≡ b → ⊥) → test k ≡ true → (t : Bool) → eqb (f k) b ≡ t → without f b test k ≡ true
    go k other passes true e = absurd (other (eqb-true (f k) b e))
    go k other passes false e = rw (passes, e)

-- values tell the numbers that pass apart
abbrev pub Apart : (ℕ → ℕ) → (ℕ → Bool) → ℕ → Type 0
Apart f test n = (k m : ℕ) → k < m → m < n → test k ≡ true → test m ≡ true → f k ≡ f m → ⊥

without_one : (f : ℕ → ℕ) (b : ℕ) (test : ℕ → Bool) (n : ℕ) → Apart f test n → count_of n test ≤ 1 + count_of n (without f b test)
unfolding count_of
without_one f b test zero apart = omega arith
without_one f b test (suc n) apart =
    go (test n) refl (eqb (f n) b) refl (without_one f b test n (λ k m l h. apart k m l (omega arith)))
  where
    go : (t : Bool) → test n ≡ t → (v : Bool) → eqb (f n) b ≡ v → count_of n test ≤ 1 + count_of n (without f b test)
        → pick t 1 0 + count_of n test ≤ 1 + (pick (both t (not v)) 1 0 + count_of n (without f b test))
    go true e true v ih =
        let rest = without_free f b test n (λ k l passes here. apart k n l (omega arith) passes e (here ∙ sym (eqb-true (f n) b v))) in
        omega (arith, rest)
    go true e false v ih = omega (arith, ih)
    go false e v w ih = omega (arith, ih)

-- a test that never passes
pub count_none : (test : ℕ → Bool) (n : ℕ) → ((k : ℕ) → k < n → test k ≡ true → ⊥) → count_of n test ≡ 0
unfolding count_of
count_none test zero h = refl
count_none test (suc n) h = go (test n) refl (count_none test n (λ k l. h k (omega arith)))
  where
    go : (t : Bool) → test n ≡ t → count_of n test ≡ 0 → pick t 1 0 + count_of n test ≡ 0
    go true e ih = absurd (h n (omega arith) e)
    go false e ih = omega (arith, ih)

other_value : (a b : ℕ) → (t : Bool) → eqb a b ≡ t → not t ≡ true → a ≡ b → ⊥
other_value a b true q e same = false≢true e
other_value a b false q e same = eqb-false a b q same

-- of numbers that values below b tell apart there are at most b
pub count_apart : (f : ℕ → ℕ) (b : ℕ) (test : ℕ → Bool) (n : ℕ) → ((k : ℕ) → k < n → test k ≡ true → f k < b) → Apart f test n → count_of n test ≤ b
count_apart f zero test n small apart = omega (arith, count_none test n (λ k l passes. not-suc-le-zero (small k l passes)))
count_apart f (suc b) test n small apart =
    let passes : (k : ℕ) → without f b test k ≡ true → test k ≡ true = λ k e. (both_parts (test k) (not (eqb (f k) b)) e).0 in
    let other : (k : ℕ) → without f b test k ≡ true → f k ≡ b → ⊥ = λ k e. other_value (f k) b (eqb (f k) b) refl (both_parts (test k) (not (eqb (f k) b)) e).1 in
    let fewer = count_apart f b (without f b test) n
    (λ k l e. let lt = small k l (passes k e) in omega (arith, lt, other k e))
    (λ k m l h e e'. apart k m l h (passes k e) (passes m e')) in
    omega (arith, fewer, without_one f b test n apart)
