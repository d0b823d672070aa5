-- What the answer of `font::whole` tells of the rows, and of an account that judges them first.
-- Assumes nothing.
use Rattle.std.proofs.Common.{◌≡◌, Bool, true, false, eqb, List, ℕ, suc, not, length, ap, arith, Ok, Err, refl}
use Rattle.laws.specs.Pick.{pick}
use Rattle.laws.specs.Said.{Said, accepted, refused}
use Rattle.laws.specs.Within.{within, first_row_above}
use Rattle.font.specs.Font.{font_rows, most_row}
use Rattle.font.specs.declared.FontError.{FontError}
use Rattle.font.specs.declared.FontError.TheVariants.{Length, Row}
use Rattle.font.specs.Whole.{answer_of, said}

-- the choices, over any tests and places
by_tests : (t u : Bool) (place : ℕ) → accepted 0 ≡ pick (not t) (refused 4 0) (pick (not u) (refused 18 place) (accepted 0)) → (t ≡ true) × (u ≡ true)
by_tests true true place e = (refl, refl)
by_tests true false place e = absurd (omega (arith, ap (λ (s : Said). s.number) e))
by_tests false u place e = absurd (omega (arith, ap (λ (s : Said). s.number) e))

refused_by : (n k : ℕ) (t u : Bool) (place : ℕ) (next : Said) → refused (suc n) k ≡ pick (not t) (refused 4 0) (pick (not u) (refused 18 place) (accepted 0)) → refused (suc n) k ≡ pick (not t) (refused 4 0) (pick (not u) (refused 18 place) next)
refused_by n k true true place next e = absurd (omega (arith, ap (λ (s : Said). s.number) e))
refused_by n k true false place next e = e
refused_by n k false u place next e = e

-- an account that judges the rows first, and then says something else
abbrev or_next : List ℕ → Said → Said
or_next rows next = pick (not (eqb (length rows) font_rows)) (refused 4 0) (pick (not (within most_row rows)) (refused 18 (first_row_above most_row rows)) next)

module _ (rows : List ℕ) where
  -- accepted: both tests hold
  pub whole_rows : said (Ok tt) ≡ answer_of rows → eqb (length rows) font_rows ≡ true
  unfolding answer_of
  whole_rows e = (by_tests _ _ _ e).0

  pub whole_within : said (Ok tt) ≡ answer_of rows → within most_row rows ≡ true
  unfolding answer_of
  whole_within e = (by_tests _ _ _ e).1

  -- refused: the same is answered before all that comes next
  pub whole_refused : (error : FontError) (next : Said) → said (Err error) ≡ answer_of rows → said (Err error) ≡ or_next rows next
  unfolding answer_of
  whole_refused Length next e = refused_by 3 0 _ _ _ next e
  whole_refused (Row row) next e = refused_by 17 row _ _ _ next e
