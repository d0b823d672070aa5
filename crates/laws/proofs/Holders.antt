-- Who of a list has a place, and what is shown there: none of them, the same of each, and one at the most.
-- Assumes nothing.
use mathlib.Core.Path.{◌≡◌, refl}
use mathlib.Core.Bool.{Bool, true, false, true≢false}
use mathlib.Core.List.{List, [], ◌∷◌}
use Prim.Native.Nat.{ℕ, ◌+◌}
use native.Mathlib.Omega.{arith}
use Rattle.laws.specs.Pick.{pick, either}
use Rattle.laws.specs.Lines.{first_shown, any_of, holders}

module _ {A : Type 0} (has : A → Bool) where
  -- none has the place
  pub first_of_none : (shows : A → ℕ) (cs : List A) (other : ℕ) → any_of has cs ≡ false → first_shown has shows cs other ≡ other
  unfolding first_shown any_of
  first_of_none shows [] other e = refl
  first_of_none shows (c ∷ cs) other e = go (has c) (first_of_none shows cs other) e
    where
      go : (t : Bool) → (any_of has cs ≡ false → first_shown has shows cs other ≡ other) → either t (any_of has cs) ≡ false → pick t (shows c) (first_shown has shows cs other) ≡ other
      go true rest e = absurd (true≢false e)
      go false rest e = rest e

  -- the first of the list does not have it
  pub first_past : (shows : A → ℕ) (c : A) (cs : List A) (other : ℕ) → has c ≡ false → first_shown has shows (c ∷ cs) other ≡ first_shown has shows cs other
  unfolding first_shown
  first_past shows c cs other away = rw away

  pub holders_of_none : (cs : List A) → any_of has cs ≡ false → holders has cs ≡ 0
  unfolding holders any_of
  holders_of_none [] e = refl
  holders_of_none (c ∷ cs) e = go (has c) (holders_of_none cs) e
    where
      go : (t : Bool) → (any_of has cs ≡ false → holders has cs ≡ 0) → either t (any_of has cs) ≡ false → pick t 1 0 + holders has cs ≡ 0
      go true rest e = absurd (true≢false e)
      go false rest e = omega (arith, rest e)

  -- each shows the same
  pub first_alike_shown : (shows shows' : A → ℕ) (cs : List A) (other : ℕ) → ((c : A) → shows c ≡ shows' c) → first_shown has shows cs other ≡ first_shown has shows' cs other
  unfolding first_shown
  first_alike_shown shows shows' [] other same = refl
  first_alike_shown shows shows' (c ∷ cs) other same = rw (same c, first_alike_shown shows shows' cs other same)
