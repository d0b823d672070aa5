-- Laws of stores one after the other and of lists put together from parts: the texts of a list's elements, stored in turn, are the text
-- of the whole list, stored at once.
-- Assumes nothing.
use Rattle.std.proofs.Common.{◌≡◌, ℕ, zero, suc, ◌+◌, ◌*◌, List, [], ◌∷◌, ◌++◌, length, set, sym, refl, ap, ◌∙◌, append_assoc, append-nil, add-zero, mul-zero, mul-suc, arith, length-append}
use mathlib.Core.List.{flat_map}
use lib.Seq.{sets}
use Rattle.laws.specs.Lists.{tabulate}
use Rattle.laws.proofs.Lists.{tabulate_more}

pub sets_append : (t : List ℕ) (at : ℕ) (a b : List ℕ) → sets t at (a ++ b) ≡ sets (sets t at a) (at + length a) b
sets_append t at [] b = rw (add-zero at)
sets_append t at (x ∷ a) b = sets_append (set t at x) (suc at) a b ∙ ap (λ n. sets (sets (set t at x) (suc at) a) n b) (omega arith)

module _ {A : Type 0} (g : A → List ℕ) where
  pub flat_append : (xs ys : List A) → flat_map g (xs ++ ys) ≡ flat_map g xs ++ flat_map g ys
  unfolding flat_map
  flat_append [] ys = refl
  flat_append (x ∷ xs) ys = ap (λ (l : List ℕ). g x ++ l) (flat_append xs ys) ∙ sym (append_assoc (g x) (flat_map g xs) (flat_map g ys))

  pub flat_one : (x : A) → flat_map g (x ∷ []) ≡ g x
  unfolding flat_map
  flat_one x = append-nil (g x)

  -- parts of one width
  module _ (w : ℕ) (f : ℕ → A) (same : (k : ℕ) → length (g (f k)) ≡ w) where
    pub flat_length : (i : ℕ) → length (flat_map g (tabulate i f)) ≡ w * i
    unfolding flat_map tabulate
    flat_length i = go i f same
      where
        go : (i : ℕ) (f : ℕ → A) → ((k : ℕ) → length (g (f k)) ≡ w) → length (flat_map g (tabulate i f)) ≡ w * i
        go zero f same = sym (mul-zero w)
        go (suc i) f same =
            length-append (g (f 0)) (flat_map g (tabulate i (λ k. f (suc k)))) ∙ omega (arith, same 0, go i (λ k. f (suc k)) (λ k. same (suc k)), mul-suc w i)

    -- one part more
    pub sets_more : (t : List ℕ) (at i place : ℕ) → place ≡ at + w * i
        → sets (sets t at (flat_map g (tabulate i f))) place (g (f i)) ≡ sets t at (flat_map g (tabulate (i + 1) f))
    sets_more t at i place e =
        ap (λ n. sets (sets t at (flat_map g (tabulate i f))) n (g (f i))) (e ∙ ap (λ n. at + n) (sym (flat_length i)))
        ∙ sym (sets_append t at (flat_map g (tabulate i f)) (g (f i)))
        ∙ ap (sets t at) (sym (ap (flat_map g) (tabulate_more i f) ∙ flat_append (tabulate i f) (f i ∷ []) ∙ ap (λ (l : List ℕ). flat_map g (tabulate i f) ++ l) (flat_one (f i))))
