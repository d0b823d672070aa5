-- What a call of the packer answers and leaves: document 02, M-100, with its numbers 16, 17 and 6.
-- Assumes nothing.
use Rattle.std.specs.Prelude.{ℕ, ◌%◌, Bool, not, List, ◌++◌, length, drop, Result, ◌==◌, nat_le, nat_lt}
use Rattle.laws.specs.Pick.{pick, both}
use Rattle.laws.specs.Said.{Said, accepted, refused}
use Rattle.laws.specs.Within.{within}
use Rattle.font.specs.Font.{font_cells, rows_of_cell, font_rows, most_row}
use Rattle.answer.specs.Told.{said_of}
use Rattle.packer.specs.declared.PackError.{PackError}
use Rattle.packer.specs.declared.PackError.TheVariants.{NotGlyphs, TooManyPatterns, NoRoom}
use Rattle.packer.specs.Glyphs.{most_glyphs, glyphs_in, patterns_in, packed_font, packed_cells}

-- whole glyphs, 256 at most
unfoldable pub all_whole : List ℕ → Bool
all_whole glyphs = both (length glyphs % rows_of_cell == 0) (nat_le (glyphs_in glyphs) most_glyphs)

-- and no row above 4095
unfoldable pub are_glyphs : List ℕ → Bool
are_glyphs glyphs = both (all_whole glyphs) (within most_row glyphs)

-- room for the rows of a font, and for a cell's number for each glyph
abbrev pub room_for : List ℕ → ℕ → ℕ → Bool
room_for glyphs rows places = both (nat_le font_rows rows) (nat_le (glyphs_in glyphs) places)

-- what the call answers: the first number that applies, or how many cells the glyphs take
unfoldable pub answer_of : List ℕ → ℕ → ℕ → Said
answer_of glyphs rows places =
    pick (not (are_glyphs glyphs))
    (refused 16 0)
    (pick (nat_lt font_cells (patterns_in glyphs))
    (refused 17 0)
    (pick (not (room_for glyphs rows places)) (refused 6 0) (accepted (patterns_in glyphs))))

-- the number for each case of refusal, which has no place
abbrev pub number_of : PackError → ℕ
number_of NotGlyphs = 16
number_of TooManyPatterns = 17
number_of NoRoom = 6

-- what is said of an outcome: how many cells, or the number
abbrev pub said : Result ℕ PackError → Said
said = said_of (λ n. n) number_of (λ _. 0)

-- whether the call is accepted, with these lent
abbrev pub packs : List ℕ → List ℕ → List ℕ → Bool
packs glyphs font cells = (answer_of glyphs (length font) (length cells)).number == 0

-- what the call leaves: the font and the cells, each before what was past it, or all as it was
unfoldable pub font_left : List ℕ → List ℕ → List ℕ → List ℕ
font_left glyphs font cells = pick (packs glyphs font cells) (packed_font glyphs ++ drop font_rows font) font

unfoldable pub cells_left : List ℕ → List ℕ → List ℕ → List ℕ
cells_left glyphs font cells = pick (packs glyphs font cells) (packed_cells glyphs ++ drop (glyphs_in glyphs) cells) cells
