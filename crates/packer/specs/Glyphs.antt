-- Drawn glyphs, their patterns, and the cells that they get: document 02, M-100.
-- Glyphs are lent as rows, 18 each, and lie as the cells of a font do: `row_of glyphs g l` is row l of glyph g, `font_dot glyphs g l j` its dot in
-- column j. Glyphs that agree in every dot are one pattern, and a pattern has one cell.
-- Assumes nothing.
use Rattle.std.specs.Prelude.{◌≡◌, ℕ, ◌/◌, ◌%◌, ◌<◌, Bool, List, length, ◌==◌, nat_eq, nat_lt}
use Rattle.std.specs.Bool.{beq as agree}
use Rattle.laws.specs.Pick.{pick}
use Rattle.laws.specs.Lists.{tabulate, first_of, count_of, upto}
use Rattle.font.specs.Font.{rows_of_cell, cell_columns, font_rows, row_of, font_dot}

-- the most glyphs that are packed
abbrev pub most_glyphs : ℕ
most_glyphs = 256

-- how many glyphs these rows are
abbrev pub glyphs_in : List ℕ → ℕ
glyphs_in glyphs = length glyphs / rows_of_cell

-- two glyphs are of one pattern: each of their 216 dots agrees
unfoldable pub same_pattern : List ℕ → ℕ → ℕ → Bool
same_pattern glyphs g h = upto rows_of_cell (λ l. upto cell_columns (λ j. agree (font_dot glyphs g l j) (font_dot glyphs h l j)))

-- the same as a statement, dot by dot
abbrev pub SameDots : List ℕ → ℕ → ℕ → Type 0
SameDots glyphs g h = (l j : ℕ) → l < rows_of_cell → j < cell_columns → font_dot glyphs g l j ≡ font_dot glyphs h l j

-- the first glyph of g's pattern: one before g, or else g itself
unfoldable pub first_like : List ℕ → ℕ → ℕ
first_like glyphs g = first_of g (same_pattern glyphs g)

-- whether a pattern appears first with glyph g
abbrev pub is_first : List ℕ → ℕ → Bool
is_first glyphs g = first_like glyphs g == g

-- how many patterns appear among the glyphs before g
unfoldable pub patterns_before : List ℕ → ℕ → ℕ
patterns_before glyphs g = count_of g (is_first glyphs)

-- how many patterns there are
abbrev pub patterns_in : List ℕ → ℕ
patterns_in glyphs = patterns_before glyphs (glyphs_in glyphs)

-- the cell of glyph g: as many patterns as appear before its own does
unfoldable pub cell_for : List ℕ → ℕ → ℕ
cell_for glyphs g = patterns_before glyphs (first_like glyphs g)

-- the first glyph whose cell is c
unfoldable pub first_in : List ℕ → ℕ → ℕ
first_in glyphs c = first_of (glyphs_in glyphs) (λ g. nat_eq (cell_for glyphs g) c)

-- row l of cell c: its pattern's, and 0 in a cell that is left over
unfoldable pub packed_row : List ℕ → ℕ → ℕ → ℕ
packed_row glyphs c l = pick (nat_lt c (patterns_in glyphs)) (row_of glyphs (first_in glyphs c) l) 0

-- the font, and each glyph's cell
abbrev pub packed_font : List ℕ → List ℕ
packed_font glyphs = tabulate font_rows (λ i. packed_row glyphs (i / rows_of_cell) (i % rows_of_cell))

abbrev pub packed_cells : List ℕ → List ℕ
packed_cells glyphs = tabulate (glyphs_in glyphs) (cell_for glyphs)
