-- A screen can be drawn in two ways, by its glyphs, or by words that have their cells for codes; the lines are the same: document 02, M-100. Said of every
-- accepted call of the packer; and first of any font and any cells that show the glyphs, however they were found.
-- Drawn glyphs lie in a list of rows as the cells of a font do, 18 rows each, so `font_dot glyphs` draws them.
-- Assumes nothing.
use Rattle.std.specs.Prelude.{ℕ, ◌≡◌, true, List, ◌++◌, map, length, drop}
use Rattle.font.specs.Font.{is_font, font_dot}
use Rattle.units.specs.declared.Dots.{Dots}
use Rattle.units.specs.declared.Lines.{Lines}
use Rattle.judging.specs.declared.Settings.{Settings}
use Rattle.judging.specs.Judging.{all_are_words, answer_of}
use Rattle.display.specs.declared.Kind.{Kind}
use Rattle.display.specs.Words.{kinds_of}
use Rattle.display.specs.Painting.{line_of, left_by}
use Rattle.packer.specs.Glyphs.{glyphs_in}
use Rattle.sharing.specs.Sharing.{ShownBy, Accepted, font_given, cell_given}
use Rattle.redrawn.specs.Screen.{is_screen, words_for, in_cell}

-- what painting leaves of a screen of glyphs, by whatever words say its items, with each glyph's cell for its code
pub record SamePicture (glyphs font : List ℕ) (cell : ℕ → ℕ) (items : List Kind) : Type 0 where
  -- there are such words: those of `words_for`. Where an item is an end there are others, as 1023 in place of 1009
  pub words : all_are_words (words_for cell items) ≡ true
  pub say : kinds_of (words_for cell items) ≡ map (in_cell cell) items
  -- no call is refused for them, nor for the font: it answers what it would with any right words and any font
  pub answer : (ws : List ℕ) → all_are_words ws ≡ true → kinds_of ws ≡ map (in_cell cell) items
      → (right any : List ℕ) → all_are_words right ≡ true → is_font any ≡ true
      → (s : Settings) (line : Lines) (width : Dots) (room : ℕ) → answer_of ws font s line width room ≡ answer_of right any s line width room
  -- an accepted call leaves the line that the glyphs' own dots give, and what was past the width
  pub painted : (ws : List ℕ) → all_are_words ws ≡ true → kinds_of ws ≡ map (in_cell cell) items
      → (s : Settings) (frame : ℕ) (line : Lines) (width : Dots) (out : List ℕ) → (answer_of ws font s line width (length out)).number ≡ 0
      → left_by ws font s frame line width out ≡ line_of items (font_dot glyphs) s frame line width ++ drop width.0 out
  -- a refused one leaves all as it was
  pub untouched : (ws : List ℕ) → all_are_words ws ≡ true → kinds_of ws ≡ map (in_cell cell) items
      → (s : Settings) (frame : ℕ) (line : Lines) (width : Dots) (out : List ℕ) → ((answer_of ws font s line width (length out)).number ≡ 0 → ⊥)
      → left_by ws font s frame line width out ≡ out

-- it is so of every screen of glyphs that a font shows
abbrev pub SamePictures : Type 0
SamePictures =
    (glyphs font : List ℕ) (cell : ℕ → ℕ) → ShownBy glyphs font cell
    → (items : List Kind) → is_screen (glyphs_in glyphs) items ≡ true → SamePicture glyphs font cell items

-- so it is of the font and the cells that an accepted call of the packer gives
abbrev pub PackedPictures : Type 0
PackedPictures =
    (glyphs font cells : List ℕ) (used : ℕ) → Accepted glyphs font cells used
    → (items : List Kind) → is_screen (glyphs_in glyphs) items ≡ true → SamePicture glyphs (font_given glyphs font cells) (cell_given glyphs font cells) items
