-- What the packer's cells are worth: document 02, M-100. Each statement but the last, which is about 17, is about every call that is accepted, and about what
-- that call gives: a font, and a cell for each glyph. proofs/ has why they hold.
-- Assumes nothing.
use Rattle.std.specs.Prelude.{ℕ, ◌<◌, ◌≤◌, ◌≡◌, ◌↔◌, true, List, eqb, length, get_or, take}
use Rattle.laws.specs.Lists.{first_of, count_of}
use Rattle.laws.specs.Said.{accepted, refused}
use Rattle.font.specs.Font.{font_cells, rows_of_cell, cell_columns, font_rows, is_font, row_of, font_dot}
use Rattle.packer.specs.Glyphs.{glyphs_in, SameDots}
use Rattle.packer.specs.Packing.{are_glyphs, answer_of, font_left, cells_left}

-- the call is accepted, and tells that the glyphs take `used` cells
abbrev pub Accepted : List ℕ → List ℕ → List ℕ → ℕ → Type 0
Accepted glyphs font cells used = answer_of glyphs (length font) (length cells) ≡ accepted used

-- the font that it gives: the first 1,116 of the rows that were lent for it
abbrev pub font_given : List ℕ → List ℕ → List ℕ → List ℕ
font_given glyphs font cells = take font_rows (font_left glyphs font cells)

-- the cell that it gives glyph g
abbrev pub cell_given : List ℕ → List ℕ → List ℕ → ℕ → ℕ
cell_given glyphs font cells g = get_or (cells_left glyphs font cells) g 0

-- one cell for two glyphs: where they agree in each dot, and only there
abbrev pub Shares : Type 0
Shares =
    (glyphs font cells : List ℕ) (used : ℕ) → Accepted glyphs font cells used
    → (g h : ℕ) → g < glyphs_in glyphs → h < glyphs_in glyphs → (cell_given glyphs font cells g ≡ cell_given glyphs font cells h) ↔ SameDots glyphs g h

-- cells of a list show the glyphs, each by the cell that it is assigned, dot by dot; cells past the list's end are empty
abbrev pub Shows : List ℕ → List ℕ → (ℕ → ℕ) → Type 0
Shows glyphs list cell =
    (g l j : ℕ) → g < glyphs_in glyphs → l < rows_of_cell → j < cell_columns → font_dot list (cell g) l j ≡ font_dot glyphs g l j

-- a font shows the glyphs: each has one of the 62 cells, which has the glyph's dots
pub record ShownBy (glyphs font : List ℕ) (cell : ℕ → ℕ) : Type 0 where
  pub font_is : is_font font ≡ true
  pub cell_in : (g : ℕ) → g < glyphs_in glyphs → cell g < font_cells
  pub shows : Shows glyphs font cell

-- what the call gives is a font that shows every glyph, by the cell given to it
abbrev pub ShowsEach : Type 0
ShowsEach =
    (glyphs font cells : List ℕ) (used : ℕ) → Accepted glyphs font cells used → ShownBy glyphs (font_given glyphs font cells) (cell_given glyphs font cells)

-- cell c is given to one of the first n glyphs
pub record GivenTo (glyphs font cells : List ℕ) (n c : ℕ) : Type 0 where
  pub glyph : ℕ
  pub below : glyph < n
  pub given : cell_given glyphs font cells glyph ≡ c

-- cells are numbered by first appearance: where a glyph has a cell, glyphs before it have all cells below that one
abbrev pub InOrder : Type 0
InOrder =
    (glyphs font cells : List ℕ) (used : ℕ) → Accepted glyphs font cells used
    → (g c : ℕ) → g < glyphs_in glyphs → c < cell_given glyphs font cells g → GivenTo glyphs font cells g c

-- the cells given are those below `used`, and each of them is given
pub record Given (glyphs font cells : List ℕ) (used : ℕ) : Type 0 where
  pub below : (g : ℕ) → g < glyphs_in glyphs → cell_given glyphs font cells g < used
  pub each : (c : ℕ) → c < used → GivenTo glyphs font cells (glyphs_in glyphs) c

abbrev pub AllGiven : Type 0
AllGiven = (glyphs font cells : List ℕ) (used : ℕ) → Accepted glyphs font cells used → Given glyphs font cells used

-- the cells from there on are empty
abbrev pub RestEmpty : Type 0
RestEmpty =
    (glyphs font cells : List ℕ) (used : ℕ) → Accepted glyphs font cells used
    → (c l : ℕ) → used ≤ c → c < font_cells → l < rows_of_cell → row_of (font_given glyphs font cells) c l ≡ 0

-- how many different cells n glyphs are assigned: those that no glyph before has
unfoldable pub different_of : ℕ → (ℕ → ℕ) → ℕ
different_of n cell = count_of n (λ g. eqb (first_of g (λ h. eqb (cell h) (cell g))) g)

-- the packer gives as many different cells as it tells, and whatever cells of whatever list show every glyph, at least as many are different
pub record LeastUsed (glyphs font cells : List ℕ) (used : ℕ) : Type 0 where
  pub told : different_of (glyphs_in glyphs) (cell_given glyphs font cells) ≡ used
  pub least : (list : List ℕ) (cell : ℕ → ℕ) → Shows glyphs list cell → used ≤ different_of (glyphs_in glyphs) cell

abbrev pub Fewest : Type 0
Fewest = (glyphs font cells : List ℕ) (used : ℕ) → Accepted glyphs font cells used → LeastUsed glyphs font cells used

-- 17 is told exactly of glyphs that no font shows, whatever cells they are assigned
abbrev pub TooManyExactly : Type 0
TooManyExactly =
    (glyphs : List ℕ) (rows places : ℕ)
    → (answer_of glyphs rows places ≡ refused 17 0) ↔ ((are_glyphs glyphs ≡ true) × ((font : List ℕ) (cell : ℕ → ℕ) → ShownBy glyphs font cell → ⊥))
