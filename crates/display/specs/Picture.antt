-- What a screen shows at a dot: document 01, 'From words to dots', and the shadow of M-101. The table of modes and blinking are `Modes` of crate modes.
-- Assumes nothing.
use Rattle.std.specs.Prelude.{ℕ, ◌-◌, ◌/◌, List, Bool, true, false}
use Rattle.laws.specs.Pick.{pick, both}
use Rattle.laws.specs.Lines.{first_shown, any_of}
use Rattle.laws.specs.Placing.{span_has, cell_has}
use Rattle.font.specs.Font.{rows_of_cell, cell_columns}
use Rattle.modes.specs.Modes.{in_colour, ground_byte}
use Rattle.display.specs.declared.View.{View}
use Rattle.display.specs.Cells.{Shown, character, space, Cell}

-- how characters are drawn: whether a character has the dot in a row and a column
abbrev pub Drawn : Type 0
Drawn = ℕ → ℕ → ℕ → Bool

-- a character shows its dots, unless it blinks and is out of its lit part
abbrev pub steady_or : Bool → Bool → Bool
steady_or true lit = lit
steady_or false lit = true

-- whether a character's dot in a row and a column is lit
abbrev pub lit_at : Drawn → View → ℕ → Bool → ℕ → ℕ → Bool
lit_at dots v code blink l j = both (steady_or blink v.lit) (dots code l j)

-- whether the cell has dot k of the line
abbrev pub has : View → ℕ → Cell → Bool
has v k c = cell_has cell_columns rows_of_cell c.left.0 c.top.0 c.size v.line.0 k

-- the row and the column of a cell, counted from its top and its left side on: a cell of size s shows each dot of its character s dots wide and s lines high
abbrev pub row_in : View → Cell → ℕ
row_in v c = (v.line.0 - c.top.0) / c.size

abbrev pub column_in : ℕ → Cell → ℕ
column_in k c = (k - c.left.0) / c.size

-- whether a cell throws its shadow on dot k of the line: where the dot of its character one row above and one column to the left is lit. It falls on the cell's rows but the
-- first, 1 to 17: nothing falls on row 0, and nothing below the cell. It falls on columns 1 to 12: column 12 lies beside the cell, and is the first column of the next cell of
-- the row, or of what comes after the row.
unfoldable pub shadow_of : Drawn → View → ℕ → Cell → Shown → Bool
shadow_of dots v k c (character colour code blink) =
    both (span_has 1 (rows_of_cell - 1) (row_in v c)) (both (span_has 1 cell_columns (column_in k c)) (lit_at dots v code blink (row_in v c - 1) (column_in k c - 1)))
shadow_of dots v k c space = false

abbrev pub throws : Drawn → View → ℕ → Cell → Bool
throws dots v k c = shadow_of dots v k c c.shows

-- dot k of the line in a cell that has it, in a shadow or not
unfoldable pub shown_dot : Drawn → View → Bool → ℕ → Cell → Shown → ℕ
shown_dot dots v shaded k c (character colour code blink) =
    pick (lit_at dots v code blink (row_in v c) (column_in k c)) (in_colour colour) (ground_byte v.mode true shaded c.background)
shown_dot dots v shaded k c space = ground_byte v.mode true shaded c.background

abbrev pub cell_dot : Drawn → View → Bool → ℕ → Cell → ℕ
cell_dot dots v shaded k c = shown_dot dots v shaded k c c.shows

-- dot k of the line where a shadow falls on it or none does: what the cell that has it shows, else what is outside every cell
abbrev pub shaded_dot : Drawn → View → ℕ → List Cell → ℕ → Bool → ℕ
shaded_dot dots v start cs k shaded = first_shown (has v k) (cell_dot dots v shaded k) cs (ground_byte v.mode false shaded start)

-- dot k of the line: in a shadow where one of the cells throws it there
unfoldable pub dot_at : Drawn → View → ℕ → List Cell → ℕ → ℕ
dot_at dots v start cs k = shaded_dot dots v start cs k (any_of (throws dots v k) cs)
