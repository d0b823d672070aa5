-- The cells of a screen: document 01, 'From words to dots', first paragraph and the place of the first cell.
-- A screen is a list of kinds: those of its words, or of items that name glyphs.
-- It is read from the first on with a pen, which has the place, the size and the background of what comes next. Each character and each space
-- takes a cell there. The list of cells is all that a screen's dots depend on.
-- Assumes nothing.
use Rattle.std.specs.Prelude.{ℕ, ◌+◌, ◌*◌, List, [], ◌∷◌, ◌++◌, Bool, true, false}
use Rattle.laws.specs.Pick.{pick}
use Rattle.font.specs.Font.{rows_of_cell, cell_columns}
use Rattle.units.specs.declared.Dots.{Dots}
use Rattle.units.specs.declared.Lines.{Lines}
use Rattle.display.specs.declared.Pen.{Pen}
use Rattle.display.specs.declared.Placed.{Placed}
use Rattle.display.specs.declared.Kind.{Kind}
use Rattle.display.specs.declared.Kind.TheVariants.{Character, Space, Return, End}

-- what a cell shows: a character in a colour, blinking or not, or nothing
pub data Shown : Type 0 where
  character : ℕ → ℕ → Bool → Shown
  space : Shown

pub record Cell : Type 0 where
  pub left : Dots
  pub top : Lines
  pub size : ℕ
  pub background : ℕ
  pub shows : Shown

-- a word of this kind where the pen is
abbrev pub placed_at : Pen → Kind → Placed
placed_at p kind = record { x = p.x; y = p.y; size = p.size; kind = kind }

-- the cell of a word of this kind: none for a return and an end. `before` is the background before it; a space has its own.
unfoldable pub kind_cell : Dots → Lines → ℕ → ℕ → Kind → List Cell
kind_cell x y size before (Character colour code blink) =
    record { left = x; top = y; size = size; background = before; shows = character colour code blink } ∷ []
kind_cell x y size before (Space own) = record { left = x; top = y; size = size; background = own; shows = space } ∷ []
kind_cell x y size before (Return next spacing) = []
kind_cell x y size before End = []

abbrev pub cell_of : Placed → ℕ → List Cell
cell_of c before = kind_cell c.x c.y c.size before c.kind

-- the next cell of the row, with the background from there on
abbrev pub right_of : Pen → ℕ → Pen
right_of p back = record { x = record { 0 = p.x.0 + cell_columns * p.size }; y = p.y; size = p.size; background = back }

-- the first line of the next row
abbrev pub below_row : Lines → ℕ → Lines → Lines
below_row y size spacing = record { 0 = y.0 + rows_of_cell * size + spacing.0 }

-- the start of a row
abbrev pub row_pen : Dots → Lines → ℕ → ℕ → Pen
row_pen left y size back = record { x = left; y = y; size = size; background = back }

-- the pen after a word of this kind, in a screen whose rows start at `left`
unfoldable pub after_word : Dots → Kind → Pen → Pen
after_word left (Character colour code blink) p = right_of p p.background
after_word left (Space own) p = right_of p own
after_word left (Return next spacing) p = row_pen left (below_row p.y p.size spacing) next p.background
after_word left End p = p

-- reading stops at an end
abbrev pub goes_on : Kind → Bool
goes_on End = false
goes_on (Character colour code blink) = true
goes_on (Space own) = true
goes_on (Return next spacing) = true

-- the cells of words of these kinds, the first of which stands at the pen
unfoldable pub cells_from : Dots → List Kind → Pen → List Cell
cells_from left [] p = []
cells_from left (kind ∷ kinds) p =
    cell_of (placed_at p kind) p.background ++ pick (goes_on kind) (cells_from left kinds (after_word left kind p)) []

-- the cells of a screen: the first row has size 1, and cells that no space precedes have the starting background
abbrev pub cells : Dots → Lines → ℕ → List Kind → List Cell
cells left top start kinds = cells_from left kinds (row_pen left top 1 start)
