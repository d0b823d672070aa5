-- Laws of lists given by a rule and of the first number that passes a test, and the one argument for every loop that fills a list from
-- its front: what is done has the rule's values, what is left is as it was.
-- Assumes nothing.
use mathlib.Core.Path.{◌≡◌, refl, sym, ◌∙◌, ap}
use mathlib.Core.Bool.{Bool, true, false}
use mathlib.Core.List.{List, [], ◌∷◌, ◌++◌, map}
use Prim.Native.Nat.{ℕ, zero, suc, ◌+◌, ◌-◌, ◌<◌, ◌≤◌}
use native.Mathlib.Nat.{le_of_suc-le-suc, not-suc-le-zero}
use native.Mathlib.Decide.{ℕ_discrete, dec_lt}
use native.Mathlib.Numerals.{add-one}
use native.Mathlib.Omega.{arith}
use lib.ListN.{length, get_or, set, take, drop, replicate, length-append, length-drop, length-set, get_or-append, length-map, get_or-map}
use lib.Seq.{ext_get_or, get_or-set_same, get_or-set_other, get_or-append-add, get_or-drop}
use Rattle.laws.specs.Pick.{pick}
use Rattle.laws.specs.Lists.{tabulate, first_of}

pub length_tabulate : {A : Type 0} (n : ℕ) (f : ℕ → A) → length (tabulate n f) ≡ n
unfolding tabulate
length_tabulate zero f = refl
length_tabulate (suc n) f = ap suc (length_tabulate n (λ k. f (suc k)))

pub get_or_tabulate : {A : Type 0} (n : ℕ) (f : ℕ → A) (k : ℕ) (d : A) → k < n → get_or (tabulate n f) k d ≡ f k
unfolding tabulate
get_or_tabulate zero f k d h = absurd (not-suc-le-zero h)
get_or_tabulate (suc n) f zero d h = refl
get_or_tabulate (suc n) f (suc k) d h = get_or_tabulate n (λ k. f (suc k)) k d (le_of_suc-le-suc h)

-- a list is given by a rule where each of its elements is
pub is_tabulate : {A : Type 0} (d : A) (n : ℕ) (f : ℕ → A) (l : List A) → length l ≡ n → ((k : ℕ) → k < n → get_or l k d ≡ f k) → l ≡ tabulate n f
is_tabulate d n f l e h =
    ext_get_or d l (tabulate n f) (e ∙ sym (length_tabulate n f)) (λ i g. h i (omega arith) ∙ sym (get_or_tabulate n f i d (omega arith)))

pub tabulate_same : {A : Type 0} (n : ℕ) (f g : ℕ → A) → ((k : ℕ) → k < n → f k ≡ g k) → tabulate n f ≡ tabulate n g
unfolding tabulate
tabulate_same zero f g h = refl
tabulate_same (suc n) f g h =
    ap (λ a. a ∷ tabulate n (λ k. f (suc k))) (h 0 (omega arith)) ∙ ap (λ l. g 0 ∷ l) (tabulate_same n (λ k. f (suc k)) (λ k. g (suc k)) (λ k l. h (suc k) (omega arith)))

-- a list cut at a smaller length
pub tabulate_cut : {A : Type 0} (m n : ℕ) (f : ℕ → A) → m ≤ n → take m (tabulate n f) ≡ tabulate m f
unfolding tabulate
tabulate_cut zero n f le = refl
tabulate_cut (suc m) zero f le = absurd (omega arith)
tabulate_cut (suc m) (suc n) f le = ap (λ l. f 0 ∷ l) (tabulate_cut m n (λ k. f (suc k)) (omega arith))

pub take_map : {A B : Type 0} (f : A → B) (k : ℕ) (l : List A) → take k (map f l) ≡ map f (take k l)
take_map f zero l = refl
take_map f (suc k) [] = refl
take_map {B = B} f (suc k) (a ∷ l) = ap (λ (t : List B). f a ∷ t) (take_map f k l)

pub tabulate_constant : {A : Type 0} (a : A) (n : ℕ) → replicate n a ≡ tabulate n (λ k. a)
unfolding tabulate
tabulate_constant a zero = refl
tabulate_constant a (suc n) = ap (λ l. a ∷ l) (tabulate_constant a n)

-- the first that passes: none below it does, and it does itself unless it is n
pub first_is : (n : ℕ) (test : ℕ → Bool) (k : ℕ) → k < n → ((j : ℕ) → j < k → test j ≡ false) → test k ≡ true → first_of n test ≡ k
unfolding first_of
first_is zero test k h before at = absurd (not-suc-le-zero h)
first_is (suc n) test zero h before at = rw at
first_is (suc n) test (suc k) h before at =
    rw (before 0 (omega arith)) (ap suc (first_is n (λ k. test (suc k)) k (le_of_suc-le-suc h) (λ j l. before (suc j) (omega arith)) at))

pub first_none : (n : ℕ) (test : ℕ → Bool) → ((j : ℕ) → j < n → test j ≡ false) → first_of n test ≡ n
unfolding first_of
first_none zero test before = refl
first_none (suc n) test before = rw (before 0 (omega arith)) (ap suc (first_none n (λ k. test (suc k)) (λ j l. before (suc j) (omega arith))))

pub first_most : (n : ℕ) (test : ℕ → Bool) → first_of n test ≤ n
unfolding first_of
first_most zero test = omega arith
first_most (suc n) test = go (test 0) (first_most n (λ k. test (suc k)))
  where
    go : (b : Bool) → first_of n (λ k. test (suc k)) ≤ n → pick b 0 (suc (first_of n (λ k. test (suc k)))) ≤ suc n
    go true h = omega arith
    go false h = omega arith

pub first_before : (n : ℕ) (test : ℕ → Bool) (j : ℕ) → j < first_of n test → test j ≡ false
unfolding first_of
first_before zero test j h = absurd (not-suc-le-zero h)
first_before (suc n) test j h = go (first_before n (λ k. test (suc k))) (test 0) refl j h
  where
    go : ((j : ℕ) → j < first_of n (λ k. test (suc k)) → test (suc j) ≡ false) → (b : Bool) → test 0 ≡ b
        → (j : ℕ) → j < pick b 0 (suc (first_of n (λ k. test (suc k)))) → test j ≡ false
    go rest true e j h = absurd (not-suc-le-zero h)
    go rest false e zero h = e
    go rest false e (suc j) h = rest j (le_of_suc-le-suc h)

pub first_same : (n : ℕ) (test test' : ℕ → Bool) → ((k : ℕ) → k < n → test k ≡ test' k) → first_of n test ≡ first_of n test'
unfolding first_of
first_same zero test test' h = refl
first_same (suc n) test test' h =
    rw (h 0 (omega arith), first_same n (λ k. test (suc k)) (λ k. test' (suc k)) (λ k l. h (suc k) (omega arith)))

-- l is l₀ with the rule's values at its first i places
pub record Filled (f : ℕ → ℕ) (i : ℕ) (l l₀ : List ℕ) : Type 0 where
  pub size : length l ≡ length l₀
  pub done : (k : ℕ) → k < i → get_or l k 0 ≡ f k
  pub left : (k : ℕ) → i ≤ k → get_or l k 0 ≡ get_or l₀ k 0

module _ (f : ℕ → ℕ) where
  pub filled_none : (l : List ℕ) → Filled f 0 l l
  filled_none l = record { size = refl; done = λ k h. absurd (not-suc-le-zero h); left = λ k h. refl }

  pub filled_more : (i : ℕ) (l l₀ : List ℕ) (v : ℕ) → i < length l₀ → v ≡ f i → Filled f i l l₀ → Filled f (i + 1) (set l i v) l₀
  filled_more i l l₀ v h e g =
      record {
        size = length-set l i v ∙ g.size;
        done = λ k m. go k m (ℕ_discrete k i);
        left = λ k m. get_or-set_other l i k v 0 (omega arith) ∙ g.left k (omega arith);
      }
    where
      go : (k : ℕ) → k < i + 1 → Dec (k ≡ i) → get_or (set l i v) k 0 ≡ f k
      go k m (yes d) = ap (λ n. get_or (set l i v) n 0) d ∙ get_or-set_same l i v 0 (omega (arith, g.size)) ∙ e ∙ ap f (sym d)
      go k m (no d) = get_or-set_other l i k v 0 d ∙ g.done k (omega arith)

  pub filled_all : (n i : ℕ) (l l₀ : List ℕ) → i ≡ n → n ≤ length l₀ → Filled f i l l₀ → l ≡ tabulate n f ++ drop n l₀
  filled_all n i l l₀ at h g =
      ext_get_or 0 l (tabulate n f ++ drop n l₀)
      (g.size ∙ simp (length-append, length-drop, length_tabulate) (omega arith))
      (λ k m. go k m (dec_lt k n))
    where
      go : (k : ℕ) → k < length l → Dec (k < n) → get_or l k 0 ≡ get_or (tabulate n f ++ drop n l₀) k 0
      go k m (yes d) =
          g.done k (omega arith) ∙ sym (get_or-append (tabulate n f) (drop n l₀) 0 k (omega (arith, length_tabulate n f)) ∙ get_or_tabulate n f k 0 d)
      go k m (no d) =
          let e : k ≡ length (tabulate n f) + (k - n) = omega (arith, length_tabulate n f) in
          let e' : n + (k - n) ≡ k = omega arith in
          g.left k (omega arith)
          ∙ sym (ap (λ i. get_or (tabulate n f ++ drop n l₀) i 0) e ∙ get_or-append-add (tabulate n f) (drop n l₀) (k - n) 0
          ∙ get_or-drop n l₀ (k - n) 0 ∙ ap (λ i. get_or l₀ i 0) e')

-- each of a list's numbers, by what it was
pub filled_map : (f : ℕ → ℕ) → f 0 ≡ 0 → (i : ℕ) (l l₀ : List ℕ) → i ≡ length l₀ → Filled (λ k. f (get_or l₀ k 0)) i l l₀ → l ≡ map f l₀
filled_map f z i l l₀ e g =
    ext_get_or 0 l (map f l₀)
    (g.size ∙ sym (length-map l₀ f))
    (λ k h. g.done k (omega (arith, g.size)) ∙ sym (ap (λ (d : ℕ). get_or (map f l₀) k d) (sym z) ∙ get_or-map f l₀ k 0))

-- one element more
pub tabulate_more : {A : Type 0} (i : ℕ) (f : ℕ → A) → tabulate (i + 1) f ≡ tabulate i f ++ (f i ∷ [])
unfolding tabulate
tabulate_more {A} i f = rw (add-one i) (go i f)
  where
    go : (i : ℕ) (f : ℕ → A) → tabulate (suc i) f ≡ tabulate i f ++ (f i ∷ [])
    go zero f = refl
    go (suc i) f = ap (λ (l : List A). f 0 ∷ l) (go i (λ k. f (suc k)))

-- the first that passes does pass
pub first_at : (n : ℕ) (test : ℕ → Bool) → first_of n test < n → test (first_of n test) ≡ true
unfolding first_of
first_at zero test h = absurd (not-suc-le-zero h)
first_at (suc n) test h = go (first_at n (λ k. test (suc k))) (test 0) refl h
  where
    go : (first_of n (λ k. test (suc k)) < n → test (suc (first_of n (λ k. test (suc k)))) ≡ true) → (b : Bool) → test 0 ≡ b
        → pick b 0 (suc (first_of n (λ k. test (suc k)))) < suc n → test (pick b 0 (suc (first_of n (λ k. test (suc k))))) ≡ true
    go ih true e h = e
    go ih false e h = ih (le_of_suc-le-suc h)
