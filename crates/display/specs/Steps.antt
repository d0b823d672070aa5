-- What the painter's own steps do, for the contracts of its private functions: no part of the account. proofs/Walk.antt joins it to the
-- account's list of cells.
-- Assumes nothing.
use Rattle.std.specs.Prelude.{ℕ, ◌+◌, ◌-◌, ◌*◌, ◌/◌, ◌%◌, ◌≤◌, ◌<◌, ◌≡◌, List, [], ◌∷◌, Bool, true, false, eqb, ltb, length, get_or}
use Rattle.laws.specs.Pick.{pick, both, either}
use Rattle.laws.specs.Lines.{first_shown, any_of}
use Rattle.laws.specs.Placing.{span_has}
use Rattle.font.specs.Font.{font_cells, font_rows, rows_of_cell, cell_columns, row_of, bit_set}
use Rattle.units.specs.declared.Dots.{Dots}
use Rattle.modes.specs.Modes.{in_colour, black, ground_byte}
use Rattle.judging.specs.declared.Settings.{Settings}
use Rattle.judging.specs.Judging.{word_count, most_colour, most_place, most_frequency}
use Rattle.display.specs.declared.Kind.{Kind}
use Rattle.display.specs.declared.Kind.TheVariants.{Character, Space, Return, End}
use Rattle.stretch.specs.declared.Row.{Row}
use Rattle.stretch.specs.declared.Ink.{Ink}
use Rattle.display.specs.declared.Pen.{Pen}
use Rattle.display.specs.declared.View.{View}
use Rattle.display.specs.declared.Placed.{Placed}
use Rattle.display.specs.Cells.{Cell, kind_cell, cells_from}
use Rattle.display.specs.Picture.{Drawn, has, throws, cell_dot, steady_or}

-- dot k outside every cell, where a shadow falls on it or none does; `old` is what it was
abbrev pub fallen : View → Bool → ℕ → ℕ
fallen v shaded old = pick (both (eqb v.mode 1) shaded) (in_colour black) old

-- dot k after these cells were painted over the line, where a shadow falls on it or none does
abbrev pub painted_in : Drawn → View → List Cell → ℕ → ℕ → Bool → ℕ
painted_in dots v cs k old shaded = first_shown (has v k) (cell_dot dots v shaded k) cs (fallen v shaded old)

-- the same; `before` tells whether a cell before these throws its shadow on the dot
abbrev pub painted : Drawn → View → Bool → List Cell → ℕ → ℕ → ℕ
painted dots v before cs k old = painted_in dots v cs k old (either before (any_of (throws dots v k) cs))

-- what the cell before dot x throws falls on the first column there
abbrev pub on_first : Dots → ℕ → Bool → ℕ → Bool
on_first x size thrown k = both thrown (span_has x.0 size k)

-- dot k after the cells of words of these kinds were painted, the first of which stands at the pen
abbrev pub painted_on : Drawn → View → Bool → Pen → List Kind → ℕ → ℕ → ℕ
painted_on dots v thrown p kinds k old = painted dots v (on_first p.x p.size thrown k) (cells_from v.left kinds p) k old

-- a row without dots
abbrev pub blank_row : Bool → Row
blank_row thrown = record { bits = 0; above = 0; before = thrown }

-- the 12 bits that a character shows in a row: none while it is blinked out
abbrev pub shown_row : List ℕ → View → ℕ → Bool → ℕ → ℕ
shown_row font v code blink l = pick (steady_or blink v.lit) (row_of font code l) 0

-- the bits of the row above row l, which stands at this place of the font: none in other modes than 1, and none above row 0
abbrev pub above_at : List ℕ → ℕ → ℕ → ℕ → ℕ
above_at font mode at l = pick (eqb mode 1) (pick (ltb 0 l) (get_or font (at - 1) 0) 0) 0

-- those of a character: none while it is blinked out
abbrev pub above_row : List ℕ → View → ℕ → Bool → ℕ → ℕ
above_row font v code blink l = pick (steady_or blink v.lit) (above_at font v.mode (rows_of_cell * code + l) l) 0

abbrev pub shows_row : List ℕ → View → ℕ → Bool → ℕ → Bool → Row
shows_row font v code blink l thrown = record { bits = shown_row font v code blink l; above = above_row font v code blink l; before = thrown }

-- the bytes of a cell
abbrev pub ink_of : ℕ → ℕ → ℕ → Ink
ink_of mode on background = record { on = on; shade = ground_byte mode true true (background % 8); off = ground_byte mode true false (background % 8) }

-- dot k at the end of a row, after what its last cell throws has fallen on it
abbrev pub end_of : Dots → ℕ → Bool → ℕ → ℕ → ℕ
end_of x size thrown k old = pick (on_first x size thrown k) (in_colour black) old

-- the pen where a word was placed
abbrev pub pen_at : Placed → ℕ → Pen
pen_at c background = record { x = c.x; y = c.y; size = c.size; background = background }

-- whether the cell of a word of this kind at the pen throws its shadow on the first column after it, in the row that the line cuts
abbrev pub handed : List ℕ → View → Pen → Kind → Bool
handed font v p (Character colour code blink) = bit_set (above_row font v code blink ((v.line.0 - p.y.0) / p.size)) (cell_columns - 1)
handed font v p (Space own) = false
handed font v p (Return size spacing) = false
handed font v p End = false

-- dot k after this cell was painted, `before` telling whether the cell before it throws its shadow on the dot
abbrev pub drawn_dot : Drawn → View → ℕ → Bool → Cell → ℕ → ℕ
drawn_dot dots v k before c old = pick (has v k c) (cell_dot dots v (either before (throws dots v k c)) k c) old

-- dot k after a word of this kind was painted: its cell, or, as it has none, what the row's last cell throws
abbrev pub drawn_in : Drawn → View → Bool → Pen → List Cell → ℕ → ℕ → ℕ
drawn_in dots v thrown p [] k old = end_of p.x p.size thrown k old
drawn_in dots v thrown p (c ∷ cs) k old = drawn_dot dots v k (on_first p.x p.size thrown k) c old

abbrev pub drawn : Drawn → View → Bool → Pen → Kind → ℕ → ℕ → ℕ
drawn dots v thrown p kind = drawn_in dots v thrown p (kind_cell p.x p.y p.size p.background kind)

-- the largest size of a row, and spacing; and a place that no word reaches
abbrev pub most_size : ℕ
most_size = 4

abbrev pub most_spacing : ℕ
most_spacing = 12

abbrev pub far : ℕ
far = 65536

-- what a word decodes to is in range
abbrev pub Sound : Kind → Type 0
Sound (Character colour code blink) = (colour ≤ most_colour) × (code < font_cells)
Sound (Space own) = own ≤ most_colour
Sound (Return size spacing) = (1 ≤ size) × ((size ≤ most_size) × (spacing.0 ≤ most_spacing))
Sound End = Unit

-- what `paint_line` asks: words, a font, and settings that the painter's arithmetic takes
pub record Usable (ws font : List ℕ) (s : Settings) : Type 0 where
  pub words : length ws ≡ word_count
  pub rows : length font ≡ font_rows
  pub colour : s.colour ≤ most_colour
  pub h : s.h ≤ most_place
  pub v : s.v ≤ most_place
  pub ratio : s.ratio ≤ 2
  pub frequency : s.frequency ≤ most_frequency

-- room for n more words at the pen: a word goes right by a cell of the largest size at most, and down by such a row and the largest spacing
pub record Room (v : View) (p : Pen) (n : ℕ) : Type 0 where
  pub start : v.left.0 + cell_columns * most_size * n ≤ far
  pub right : p.x.0 + cell_columns * most_size * n ≤ far
  pub down : p.y.0 + (rows_of_cell * most_size + most_spacing) * n ≤ far
  pub some : 1 ≤ p.size
  pub size : p.size ≤ most_size
  pub colour : p.background ≤ most_colour

-- the line cuts the row where the pen is
pub record Cut (v : View) (p : Pen) : Type 0 where
  pub from : p.y.0 ≤ v.line.0
  pub to : v.line.0 < p.y.0 + rows_of_cell * p.size

-- what `cell_step` asks of the row that the line cuts
pub record CellAsks (v : View) (p : Pen) (n : ℕ) : Type 0 where
  pub room : Room v p n
  pub cut : Cut v p

-- what `draw` asks: a word that was decoded, in such a row
pub record DrawAsks (v : View) (c : Placed) (background : ℕ) : Type 0 where
  pub sound : Sound c.kind
  pub colour : background ≤ most_colour
  pub some : 1 ≤ c.size
  pub size : c.size ≤ most_size
  pub cut : Cut v (pen_at c background)
