-- What the claim says at one row of its table, in numbers. The case takes the claim for its argument, so that one with another number there is
-- refused with it.
-- Assumes nothing.
use Prim.Native.Nat.{ℕ}
use mathlib.Core.Path.{◌≡◌, refl, sym, ◌∙◌, ap}
use mathlib.Core.List.{List, [], ◌∷◌}
use lib.ListN.{get_or}
use Rattle.worked.specs.Examples.{high_in, answer, Examples}

-- row 7: of the pair 1 and 3, its T, the high clocks of 32 sub-periods from sub-period 32 on, and 128 times their share
row_answer : answer (high_in 1 3 32 32) ≡ 131 ∷ 33 ∷ 4192 ∷ []
unfolding answer
row_answer = refl

pub examples_case : Examples → ◌≡◌ {A = List ℕ} (131 ∷ 33 ∷ 4192 ∷ []) (131 ∷ 33 ∷ 4192 ∷ [])
examples_case claim = sym row_answer ∙ ap (λ (rows : List (List ℕ)). get_or rows 7 []) claim
