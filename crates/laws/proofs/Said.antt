-- What a call says is what it has to say where number, place and value are: three facts of numbers, so that a wrong answer is refused by
-- the one that fails.
-- Assumes nothing.
use mathlib.Core.Path.{◌≡◌, ◌∙◌, ap}
use Prim.Native.Nat.{ℕ}
use Rattle.laws.specs.Said.{Said}

-- where the same is said the numbers are the same
pub number_of : {s s' : Said} → s ≡ s' → s.number ≡ s'.number
number_of e = ap (λ (s : Said). s.number) e

pub said_by : {s t v : Said} → t ≡ v → s.number ≡ t.number → s.place ≡ t.place → s.value ≡ t.value → s ≡ v
said_by {s} {t} e number place value =
    ap (λ (n : ℕ). record { number = n; place = s.place; value = s.value }) number
    ∙ ap (λ (n : ℕ). record { number = t.number; place = n; value = s.value }) place
    ∙ ap (λ (n : ℕ). record { number = t.number; place = t.place; value = n }) value ∙ e
