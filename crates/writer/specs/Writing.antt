-- Writing a font: document 01, 'The character image', third paragraph, and numbers 4 and 6 of its table, with 18 between them by M-102.
-- Assumes nothing.
use Rattle.std.specs.Prelude.{ℕ, not, List, ◌++◌, length, drop, ◌==◌, nat_lt, Result}
use Rattle.laws.specs.Pick.{pick}
use Rattle.laws.specs.Said.{Said, accepted, refused}
use Rattle.laws.specs.Within.{within, first_row_above}
use Rattle.font.specs.Font.{font_rows, most_row}
use Rattle.answer.specs.Told.{said_of}
use Rattle.font.specs.declared.FontError.{FontError}
use Rattle.font.specs.Whole.{number_of as font_number_of, place_of as font_place_of}
use Rattle.image.specs.Image.{image_of}
use Rattle.writer.specs.Text.{text_of, text_bytes}
use Rattle.writer.specs.declared.WriteError.{WriteError}
use Rattle.writer.specs.declared.WriteError.TheVariants.{Font, NoRoom}

-- what writing a font answers, given room for so many bytes. The place of 18 is the index of the first row above 4095
unfoldable pub answer_of : List ℕ → ℕ → Said
answer_of font room =
    pick (not (length font == font_rows))
    (refused 4 0)
    (pick (not (within most_row font)) (refused 18 (first_row_above most_row font)) (pick (nat_lt room text_bytes) (refused 6 0) (accepted 0)))

-- what it leaves in the room: the text of the font's image and the bytes after it; a refusal leaves what was there
unfoldable pub left_of : List ℕ → List ℕ → List ℕ
left_of font room = pick ((answer_of font (length room)).number == 0) (text_of (image_of font) ++ drop text_bytes room) room

-- a font that is refused refuses the call
abbrev pub of_font : FontError → WriteError
of_font = Font

-- the documents' number and place for each case
abbrev pub number_of : WriteError → ℕ
number_of (Font error) = font_number_of error
number_of NoRoom = 6

abbrev pub place_of : WriteError → ℕ
place_of (Font error) = font_place_of error
place_of NoRoom = 0

abbrev pub said : Result (Unit {0}) WriteError → Said
said = said_of (λ _. 0) number_of place_of
