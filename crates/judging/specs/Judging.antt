-- What a paint call is refused for: document 01, 'Numbers for bad input', 1 to 6, and 18 by M-102, which has its place after 4.
-- Assumes nothing.
use Rattle.std.specs.Prelude.{ℕ, List, Bool, not, leb, ltb, eqb, length, Result}
use Rattle.laws.specs.Pick.{pick, both}
use Rattle.laws.specs.Said.{Said, accepted, refused}
use Rattle.laws.specs.Within.{within, first_row_above}
use Rattle.font.specs.Font.{font_rows, most_row}
use Rattle.answer.specs.Told.{said_of}
use Rattle.font.specs.declared.FontError.{FontError}
use Rattle.font.specs.Whole.{number_of as font_number_of, place_of as font_place_of}
use Rattle.units.specs.declared.Dots.{Dots}
use Rattle.units.specs.declared.Lines.{Lines}
use Rattle.judging.specs.declared.Settings.{Settings}
use Rattle.judging.specs.declared.PaintError.{PaintError}
use Rattle.judging.specs.declared.PaintError.TheVariants.{Setting, ReservedRatio, Words, Font, OffScreen, NoRoom}

-- the words of a screen, the largest word, line and width
abbrev pub word_count : ℕ
word_count = 64

abbrev pub most_word : ℕ
most_word = 1023

abbrev pub most_line : ℕ
most_line = 1023

abbrev pub most_width : ℕ
most_width = 1024

-- the largest mode and colour, h or v, ratio and frequency; the largest ratio is reserved
abbrev pub most_mode : ℕ
most_mode = 3

abbrev pub most_colour : ℕ
most_colour = 7

abbrev pub most_place : ℕ
most_place = 63

abbrev pub most_ratio : ℕ
most_ratio = 3

abbrev pub most_frequency : ℕ
most_frequency = 3

-- what the table asks of each argument
abbrev pub in_range : Settings → Bool
in_range s =
    both (leb s.mode most_mode)
    (both (leb s.colour most_colour)
    (both (leb s.h most_place)
    (both (leb s.v most_place)
    (both (leb s.ratio most_ratio) (leb s.frequency most_frequency)))))

abbrev pub all_are_words : List ℕ → Bool
all_are_words words = both (eqb (length words) word_count) (within most_word words)

abbrev pub on_screen : Lines → Dots → Bool
on_screen line width = both (leb line.0 most_line) (leb width.0 most_width)

-- what the call answers: the first number that applies, whatever the display's switch says. The place of 18 is the index of the font's first row above 4095
unfoldable pub answer_of : List ℕ → List ℕ → Settings → Lines → Dots → ℕ → Said
answer_of words font s line width room =
    pick (not (in_range s))
    (refused 1 0)
    (pick (eqb s.ratio most_ratio)
    (refused 2 0)
    (pick (not (all_are_words words))
    (refused 3 0)
    (pick (not (eqb (length font) font_rows))
    (refused 4 0)
    (pick (not (within most_row font))
    (refused 18 (first_row_above most_row font))
    (pick (not (on_screen line width))
    (refused 5 0)
    (pick (ltb room width.0) (refused 6 0) (accepted 0)))))))

-- a font that is refused refuses the call
abbrev pub of_font : FontError → PaintError
of_font = Font

-- the documents' number and place for each case
abbrev pub number_of : PaintError → ℕ
number_of Setting = 1
number_of ReservedRatio = 2
number_of Words = 3
number_of (Font error) = font_number_of error
number_of OffScreen = 5
number_of NoRoom = 6

abbrev pub place_of : PaintError → ℕ
place_of (Font error) = font_place_of error
place_of Setting = 0
place_of ReservedRatio = 0
place_of Words = 0
place_of OffScreen = 0
place_of NoRoom = 0

abbrev pub said : Result (Unit {0}) PaintError → Said
said = said_of (λ _. 0) number_of place_of
