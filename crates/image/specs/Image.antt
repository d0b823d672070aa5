-- The image of a font, and the font of an image: document 01, 'The character image', first paragraph, and number 13 of its table.
-- A font is a list of 62 times 18 rows of 12 bits, row l of cell c at place 18c + l. Its image has two halves of 4,096 bytes: a row's low
-- 8 bits stand in the first, its high 4 in the second, in a byte whose four upper bits are set; the cells lie 32 bytes apart in each half.
-- Assumes nothing.
use Rattle.std.specs.Prelude.{ℕ, ◌+◌, ◌*◌, ◌/◌, ◌%◌, Bool, List, Result, ltb, eqb, length, get_or}
use Rattle.laws.specs.Pick.{pick, both}
use Rattle.laws.specs.Said.{Said, accepted, refused}
use Rattle.font.specs.Font.{font_cells, rows_of_cell, font_rows, row_of}
use Rattle.laws.specs.Lists.{tabulate, first_of}
use Rattle.answer.specs.Told.{said_of}
use Rattle.image.specs.declared.NotAFont.{NotAFont}

abbrev pub image_bytes : ℕ
image_bytes = 8192

abbrev pub half_bytes : ℕ
half_bytes = 4096

-- how far apart the cells lie in a half
abbrev pub stride : ℕ
stride = 32

-- a byte that holds nothing, FF, and the four upper bits of one that holds four bits of a row, F0
abbrev pub unused : ℕ
unused = 255

abbrev pub upper_bits : ℕ
upper_bits = 240

-- the cell, and the row of that cell, whose bits an address can hold
abbrev pub cell_at : ℕ → ℕ
cell_at address = address % half_bytes / stride

abbrev pub row_at : ℕ → ℕ
row_at address = address % stride

-- whether it does: there is such a row
abbrev pub has_row : ℕ → Bool
has_row address = both (ltb (cell_at address) font_cells) (ltb (row_at address) rows_of_cell)

-- what an address holds of a row: its low 8 bits, or its high 4 under four set bits
unfoldable pub half_at : ℕ → ℕ → ℕ
half_at address row = pick (ltb address half_bytes) (row % 256) (upper_bits + row / 256)

-- the byte of a font's image at an address
unfoldable pub due_at : List ℕ → ℕ → ℕ
due_at font address = pick (has_row address) (half_at address (row_of font (cell_at address) (row_at address))) unused

-- the image of a font
abbrev pub image_of : List ℕ → List ℕ
image_of font = tabulate image_bytes (due_at font)

-- where in the first half row i of the font has its low bits
abbrev pub low_at : ℕ → ℕ
low_at i = stride * (i / rows_of_cell) + i % rows_of_cell

-- row i of the font of an image
unfoldable pub row_in : List ℕ → ℕ → ℕ
row_in image i = get_or image (low_at i) 0 + 256 * (get_or image (half_bytes + low_at i) 0 % 16)

-- the font of an image
abbrev pub font_of : List ℕ → List ℕ
font_of image = tabulate font_rows (row_in image)

-- the least byte that has every bit set that must be set at an address, whatever the font: all eight, or the upper four, or none
unfoldable pub least_at : ℕ → ℕ
least_at address = pick (has_row address) (pick (ltb address half_bytes) 0 upper_bits) unused

-- whether such a bit is missing
abbrev pub lacks_at : List ℕ → ℕ → Bool
lacks_at image address = ltb (get_or image address 0) (least_at address)

-- the lowest address at which one is missing
abbrev pub first_lacking : List ℕ → ℕ
first_lacking image = first_of image_bytes (lacks_at image)

-- number 13: what turning an image into a font answers, given room for so many rows
unfoldable pub answer_of : List ℕ → ℕ → Said
answer_of image room =
    pick (both (eqb (length image) image_bytes) (eqb room font_rows))
    (pick (ltb (first_lacking image) image_bytes) (refused 13 (first_lacking image)) (accepted 0))
    (refused 13 0)

-- what it leaves in the room for the font: a refusal leaves what was there
unfoldable pub left_of : List ℕ → List ℕ → List ℕ
left_of image font = pick (eqb (answer_of image (length font)).number 0) (font_of image) font

-- document 01's number and place of a refusal, and what is said of each case
abbrev pub number_of : NotAFont → ℕ
number_of refusal = 13

abbrev pub place_of : NotAFont → ℕ
place_of refusal = refusal.0

abbrev pub said : Result (Unit {0}) NotAFont → Said
said = said_of (λ turned. 0) number_of place_of
