-- A font: document 01, 'The character image' and 'From words to dots'. 62 cells, each of 18 rows from the top down, each row 12 dots
-- from the left, kept as one number whose bit 11 is the leftmost dot.
-- Assumes nothing.
use Rattle.std.specs.Prelude.{ℕ, ◌+◌, ◌-◌, ◌*◌, ◌/◌, ◌%◌, ◌^◌, List, Bool, eqb, length, get_or, Option, Some, None}
use Rattle.laws.specs.Pick.{pick, both}
use Rattle.laws.specs.Within.{within, first_row_above}

abbrev pub font_cells : ℕ
font_cells = 62

-- the height and the width of a cell
abbrev pub rows_of_cell : ℕ
rows_of_cell = 18

abbrev pub cell_columns : ℕ
cell_columns = 12

abbrev pub font_rows : ℕ
font_rows = font_cells * rows_of_cell

-- the largest number of 12 bits
abbrev pub most_row : ℕ
most_row = 2 ^ cell_columns - 1

-- 1,116 rows, none above 4095
unfoldable pub is_font : List ℕ → Bool
is_font rows = both (eqb (length rows) font_rows) (within most_row rows)

-- row l of cell c
abbrev pub row_of : List ℕ → ℕ → ℕ → ℕ
row_of font c l = get_or font (rows_of_cell * c + l) 0

-- whether a row's dot in column j is set
abbrev pub bit_set : ℕ → ℕ → Bool
bit_set row j = eqb (row / 2 ^ (cell_columns - 1 - j) % 2) 1

-- whether cell c has the dot in row l, column j
abbrev pub font_dot : List ℕ → ℕ → ℕ → ℕ → Bool
font_dot font c l j = bit_set (row_of font c l) j

-- the place of the first number above the given one, where there is one
abbrev pub first_above : ℕ → List ℕ → Option ℕ
first_above most numbers = pick (within most numbers) None (Some (first_row_above most numbers))
