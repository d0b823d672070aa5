-- Lines of dots: a line painted over, and who of several has a place.
-- Assumes nothing.
use Rattle.std.specs.Prelude.{ℕ, suc, ◌+◌, List, [], ◌∷◌, Bool, false}
use Rattle.laws.specs.Pick.{pick, either}

-- each dot of a line by its place, counted from b, and by what it was
unfoldable pub overlay_from : (ℕ → ℕ → ℕ) → ℕ → List ℕ → List ℕ
overlay_from f b [] = []
overlay_from f b (a ∷ l) = f b a ∷ overlay_from f (suc b) l

abbrev pub overlay : (ℕ → ℕ → ℕ) → List ℕ → List ℕ
overlay f l = overlay_from f 0 l

-- what the first of the list that has the place shows there; `other` where none has it
unfoldable pub first_shown : {A : Type 0} → (A → Bool) → (A → ℕ) → List A → ℕ → ℕ
first_shown has shows [] other = other
first_shown has shows (c ∷ cs) other = pick (has c) (shows c) (first_shown has shows cs other)

-- whether one of the list has it
unfoldable pub any_of : {A : Type 0} → (A → Bool) → List A → Bool
any_of has [] = false
any_of has (c ∷ cs) = either (has c) (any_of has cs)

-- how many of the list have the place
unfoldable pub holders : {A : Type 0} → (A → Bool) → List A → ℕ
holders has [] = 0
holders has (c ∷ cs) = pick (has c) 1 0 + holders has cs
