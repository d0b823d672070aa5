-- Such screens there are, also of more glyphs than a font has cells: 64 glyphs, of which the last three are drawn alike. The packer takes them into 62
-- cells, and a screen names glyph 63. Were only the last two alike, it would refuse them.
-- Assumes nothing.
use Rattle.std.specs.Prelude.{ℕ, ◌*◌, ◌/◌, ◌≤◌, min, ◌≡◌, true, false, List, [], ◌∷◌, ◌++◌, length, replicate}
use Rattle.laws.specs.Lists.{tabulate}
use Rattle.laws.specs.Said.{refused}
use Rattle.font.specs.Font.{rows_of_cell, font_rows, font_dot}
use Rattle.judging.specs.declared.Settings.{Settings}
use Rattle.display.specs.declared.Kind.{Kind}
use Rattle.display.specs.declared.Kind.TheVariants.{Character, End}
use Rattle.display.specs.Painting.{line_of, left_by}
use Rattle.packer.specs.Glyphs.{glyphs_in}
use Rattle.packer.specs.Packing.{answer_of}
use Rattle.sharing.specs.Sharing.{Accepted, font_given, cell_given}
use Rattle.redrawn.specs.Screen.{is_screen, words_for}

abbrev pub count : ℕ
count = 64

-- each row of a glyph has the glyph's number, but that no number is above `most`
abbrev pub glyphs_to : ℕ → List ℕ
glyphs_to most = tabulate (rows_of_cell * count) (λ (i : ℕ). min (i / rows_of_cell) most)

-- the last three have 61
abbrev pub glyphs : List ℕ
glyphs = glyphs_to 61

-- so many patterns they are
abbrev pub different : ℕ
different = 62

-- the last glyph in white, and an end
abbrev pub items : List Kind
items = Character 7 63 false ∷ replicate 63 End

abbrev pub settings : Settings
settings = record { on = true; mode = 2; colour = 1; h = 0; v = 0; ratio = 0; frequency = 0 }

-- its first line: 61 is 000000111101 in bits
abbrev pub line : List ℕ
line = 9 ∷ 9 ∷ 9 ∷ 9 ∷ 9 ∷ 9 ∷ 15 ∷ 15 ∷ 15 ∷ 15 ∷ 9 ∷ 15 ∷ 0 ∷ 0 ∷ []

-- packed with these lent for the font and the cells, and painted in 16 bytes
pub record Example (font cells : List ℕ) : Type 0 where
  pub packed : Accepted glyphs font cells different
  pub shared : cell_given glyphs font cells 63 ≡ 61
  pub screen : is_screen (glyphs_in glyphs) items ≡ true
  pub drawn : line_of items (font_dot glyphs) settings 0 (record { 0 = 0 }) (record { 0 = 14 }) ≡ line
  pub painted : left_by (words_for (cell_given glyphs font cells) items) (font_given glyphs font cells) settings 0 (record { 0 = 0 }) (record { 0 = 14 }) (replicate 16 7) ≡ line ++ (7 ∷ 7 ∷ [])

-- whatever lies there before, if there is room for a font and for 64 cells
abbrev pub Examples : Type 0
Examples = (font cells : List ℕ) → font_rows ≤ length font → count ≤ length cells → Example font cells

-- the last two have 62, so the patterns are 63: one more than a font has cells, whatever room there is
abbrev pub TooMany : Type 0
TooMany = (rows places : ℕ) → answer_of (glyphs_to 62) rows places ≡ refused 17 0
