-- What is refused of a font: document 01, 'Numbers for bad input', 4, and 18 by M-102, which has its place after it. Painter and writer refuse a font by these.
-- Assumes nothing.
use Rattle.std.specs.Prelude.{ℕ, List, not, eqb, length, Result}
use Rattle.laws.specs.Pick.{pick}
use Rattle.laws.specs.Said.{Said, accepted, refused}
use Rattle.laws.specs.Within.{within, first_row_above}
use Rattle.answer.specs.Told.{said_of}
use Rattle.font.specs.Font.{font_rows, most_row}
use Rattle.font.specs.declared.FontError.{FontError}
use Rattle.font.specs.declared.FontError.TheVariants.{Length, Row}

-- what is answered of rows that are to be a font. The place of 18 is the index of the first row above 4095
unfoldable pub answer_of : List ℕ → Said
answer_of rows = pick (not (eqb (length rows) font_rows)) (refused 4 0) (pick (not (within most_row rows)) (refused 18 (first_row_above most_row rows)) (accepted 0))

-- the documents' number and place for each case
abbrev pub number_of : FontError → ℕ
number_of Length = 4
number_of (Row row) = 18

abbrev pub place_of : FontError → ℕ
place_of Length = 0
place_of (Row row) = row

abbrev pub said : Result (Unit {0}) FontError → Said
said = said_of (λ _. 0) number_of place_of
