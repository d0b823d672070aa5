-- The line that `fontcheck` prints: document 01, 'The character image', last paragraph. The text's image is turned into a font; the line
-- tells the count of bytes, or the number and the place of whichever step refused.
-- Assumes nothing.
use Rattle.std.specs.Prelude.{◌≡◌, ℕ, zero, suc, ◌+◌, ◌/◌, ◌%◌, List, [], ◌∷◌, ◌++◌, Result, eqb, ltb}
use Rattle.laws.specs.Pick.{pick}
use Rattle.laws.specs.Said.{Said}
use Rattle.font.specs.Font.{font_rows}
use Rattle.image.specs.Image.{image_bytes}
use Rattle.image.specs.Image.{answer_of as turning, number_of as turning_number, place_of as turning_place}
use Rattle.ihex.specs.Lines.{LF}
use Rattle.ihex.specs.Reading.{image_in}
use Rattle.ihex.specs.Reading.{answer_of as reading, table_number as reading_number, table_place as reading_place}
use Rattle.answer.specs.Told.{said_of}
use Rattle.ihex.specs.declared.ReadError.{ReadError}
use Rattle.image.specs.declared.NotAFont.{NotAFont}
use Rattle.fontline.specs.declared.NoFont.{NoFont}
use Rattle.fontline.specs.declared.NoFont.TheVariants.{Text, Image}

-- what the two steps say: the first that refuses, else the count that reading gives
unfoldable pub checked : List ℕ → Said
checked text =
    let read = reading text image_bytes in
    let turned = turning (image_in text) font_rows in
    pick (eqb read.number 0) (pick (eqb turned.number 0) read turned) read

-- the digits of a number of at most so many, before a tail
unfoldable pub digits_before : ℕ → ℕ → List ℕ → List ℕ
digits_before zero n tail = tail
digits_before (suc places) n tail = pick (ltb n 10) ((48 + n) ∷ tail) (digits_before places (n / 10) ((48 + n % 10) ∷ tail))

-- a number in decimal, before a tail: ten digits are enough for the numbers of an answer
abbrev pub decimal : ℕ → List ℕ → List ℕ
decimal n tail = digits_before 10 n tail

-- "cells 62 bytes ", "refused " and " at "
abbrev pub cells_bytes : List ℕ
cells_bytes = 99 ∷ (101 ∷ (108 ∷ (108 ∷ (115 ∷ (32 ∷ (54 ∷ (50 ∷ (32 ∷ (98 ∷ (121 ∷ (116 ∷ (101 ∷ (115 ∷ (32 ∷ []))))))))))))))

abbrev pub refused_word : List ℕ
refused_word = 114 ∷ (101 ∷ (102 ∷ (117 ∷ (115 ∷ (101 ∷ (100 ∷ (32 ∷ [])))))))

abbrev pub at_word : List ℕ
at_word = 32 ∷ (97 ∷ (116 ∷ (32 ∷ [])))

-- the line for what was said
unfoldable pub line_for : Said → List ℕ
line_for s =
    pick (eqb s.number 0) (cells_bytes ++ decimal s.value (LF ∷ []))
    (refused_word ++ decimal s.number (at_word ++ decimal s.place (LF ∷ [])))

-- the documents' number and place for each refusal, and what is said of what was checked
abbrev pub number_of : NoFont → ℕ
number_of (Text refusal) = reading_number refusal
number_of (Image refusal) = turning_number refusal

abbrev pub place_of : NoFont → ℕ
place_of (Text refusal) = reading_place refusal
place_of (Image refusal) = turning_place refusal

abbrev pub said : Result ℕ NoFont → Said
said = said_of (λ count. count) number_of place_of

-- the refusal that `?` makes of the first step's, and of the second's
abbrev pub IsText : ReadError → NoFont → Type 0
IsText refusal no_font = no_font ≡ Text refusal

abbrev pub IsImage : NotAFont → NoFont → Type 0
IsImage refusal no_font = no_font ≡ Image refusal
