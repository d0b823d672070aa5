-- Two tests at once: each holds where both do, and both fail where one does; a test that cannot hold fails; and a choice by a test. By cases of the tests.
-- Assumes nothing.
use mathlib.Core.Path.{◌≡◌, refl, sym, ap, ◌∙◌}
use mathlib.Core.Bool.{Bool, true, false, false≢true}
use Rattle.laws.specs.Pick.{pick, both, either}

pub both_parts : (s t : Bool) → both s t ≡ true → (s ≡ true) × (t ≡ true)
both_parts true t e = (refl, e)
both_parts false t e = absurd (false≢true e)

pub none_left : (s t : Bool) → s ≡ false → both s t ≡ false
none_left true t e = absurd (false≢true (sym e))
none_left false t e = refl

pub both_none : (s : Bool) → both s false ≡ false
both_none true = refl
both_none false = refl

pub none_right : (s t : Bool) → t ≡ false → both s t ≡ false
none_right s t e = ap (both s) e ∙ both_none s

-- the second matters only where the first holds
pub both_where : (s t u : Bool) → (s ≡ true → t ≡ u) → both s t ≡ both s u
both_where true t u same = same refl
both_where false t u same = refl

pub either_none : (s : Bool) → either s false ≡ s
either_none true = refl
either_none false = refl

pub fails_unless : (t : Bool) → (t ≡ true → ⊥) → t ≡ false
fails_unless true none = absurd (none refl)
fails_unless false none = refl

-- tests that hold together are one
pub same_tests : (s t : Bool) → (s ≡ true → t ≡ true) → (t ≡ true → s ≡ true) → s ≡ t
same_tests true t to from = sym (to refl)
same_tests false true to from = from refl
same_tests false false to from = refl

-- what is chosen matters only where the test holds
pub pick_where : {A : Type 0} (t : Bool) (a b c : A) → (t ≡ true → a ≡ b) → pick t a c ≡ pick t b c
pick_where true a b c same = same refl
pick_where false a b c same = refl

-- a choice between what a test makes of both answers is what it makes of the test's
pub pick_of : {A : Type 0} (f : Bool → A) (t : Bool) → pick t (f true) (f false) ≡ f t
pick_of f true = refl
pick_of f false = refl
