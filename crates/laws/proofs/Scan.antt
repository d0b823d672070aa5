-- A list is within a bound where no number above it is found first; two numbers one way or the other; and what the bits of two say of each.
-- Assumes nothing.
use Prim.Native.Nat.compare
use Prim.Native.Nat.{ℕ, ◌<◌, ◌≤◌}
use mathlib.Core.Path.{◌≡◌, refl}
use mathlib.Core.Bool.{Bool, true, false}
use mathlib.Core.Logic.{◌⊎◌, inl, inr, ⊎_elim}
use mathlib.Core.List.{List, [], ◌∷◌}
use native.Mathlib.Omega.{arith}
use borrow.Author.Tests.{le-leb, lt-leb, le-ltb, lt-ltb, leb-true, leb-false, ne_eqb}
use lib.Bits.{bit_or, or_add_and, and_le_l, and_le_r}
use lib.Dec.{leb, eqb}
use lib.ListN.{length}
use Rattle.laws.specs.Lists.{first_of}
use Rattle.laws.specs.Within.{within, first_row_above}

split_by : (a b : ℕ) (t : Bool) → leb a b ≡ t → (a ≤ b) ⊎ (b < a)
split_by a b true e = inl (leb-true a b e)
split_by a b false e = inr (leb-false a b e)

pub split : (a b : ℕ) → (a ≤ b) ⊎ (b < a)
split a b = split_by a b (leb a b) refl

-- none is above the bound where the search comes to the end
pub within_first : (most : ℕ) (l : List ℕ) → within most l ≡ eqb (first_row_above most l) (length l)
unfolding within first_of
within_first most [] = refl
within_first most (a ∷ l) =
    ⊎_elim (λ h. rw (le-leb a most h, le-ltb most a h, compare.suc-suc (first_row_above most l) (length l)) (within_first most l)) (λ h. rw (lt-leb a most h, lt-ltb most a h, ne_eqb 0 (length (a ∷ l)) (omega arith))) (split a most)

-- the bits of two numbers together are at least each of them
pub or_above : (a b most : ℕ) → bit_or a b ≤ most → (a ≤ most) × (b ≤ most)
or_above a b most le = (omega (arith, or_add_and a b, and_le_r a b), omega (arith, or_add_and a b, and_le_l a b))
