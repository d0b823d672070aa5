-- A screen of drawn glyphs, and the words that show it by the cells of a font: document 02, M-100.
-- Its items are kinds, as those of words are, but that the code of a character is the number of a glyph.
-- A cell is here one of a font's 62, not a place on the screen.
-- Assumes nothing.
use Rattle.std.specs.Prelude.{ℕ, ◌+◌, ◌-◌, ◌*◌, ◌/◌, ◌%◌, ◌≤◌, ◌≡◌, Bool, true, false, List, [], ◌∷◌, map, leb, ltb, eqb, length}
use Rattle.laws.specs.Pick.{pick, both}
use Rattle.font.specs.Font.{font_cells}
use Rattle.port.specs.Port.{word_of}
use Rattle.judging.specs.Judging.{word_count, most_word, most_colour}
use Rattle.display.specs.declared.Kind.{Kind}
use Rattle.display.specs.declared.Kind.TheVariants.{Character, Space, Return, End}
use Rattle.display.specs.Words.{return_code, space_code, kind_of}

-- an item says what a word can say: one of 8 colours; a size of 1 to 4, and 0, 4, 8 or 12 lines of spacing; and its character is one of n glyphs
unfoldable pub is_item : ℕ → Kind → Bool
is_item n (Character colour glyph blink) = both (leb colour most_colour) (ltb glyph n)
is_item n (Space background) = leb background most_colour
is_item n (Return size spacing) = both (both (leb 1 size) (leb size 4)) (both (leb spacing.0 12) (eqb (spacing.0 % 4) 0))
is_item n End = true

-- nothing that a word can say is left out: what any word is, is an item of 62 glyphs
abbrev pub EveryWord : Type 0
EveryWord = (w : ℕ) → w ≤ most_word → is_item font_cells (kind_of w) ≡ true

unfoldable pub are_items : ℕ → List Kind → Bool
are_items n [] = true
are_items n (item ∷ items) = both (is_item n item) (are_items n items)

-- a screen has 64 items
abbrev pub is_screen : ℕ → List Kind → Bool
is_screen n items = both (eqb (length items) word_count) (are_items n items)

-- the code of an item, given each glyph's cell
abbrev pub code_for : (ℕ → ℕ) → Kind → ℕ
code_for cell (Character colour glyph blink) = cell glyph
code_for cell (Space background) = space_code
code_for cell (Return size spacing) = return_code
code_for cell End = space_code

-- its T3 to T0: of a character, a space and an end, a colour in T3 to T1 and a mark in T0
abbrev pub marked : ℕ → Bool → ℕ
marked colour mark = 2 * colour + pick mark 1 0

abbrev pub attribute_for : Kind → ℕ
attribute_for (Character colour glyph blink) = marked colour blink
attribute_for (Space background) = marked background false
attribute_for (Return size spacing) = 4 * (size - 1) + spacing.0 / 4
attribute_for End = marked 0 true

-- the word for an item, and the words of a screen
unfoldable pub word_for : (ℕ → ℕ) → Kind → ℕ
word_for cell item = word_of (code_for cell item) (attribute_for item)

abbrev pub words_for : (ℕ → ℕ) → List Kind → List ℕ
words_for cell items = map (word_for cell) items

-- an item with a glyph's cell for the glyph
unfoldable pub in_cell : (ℕ → ℕ) → Kind → Kind
in_cell cell (Character colour glyph blink) = Character colour (cell glyph) blink
in_cell cell (Space background) = Space background
in_cell cell (Return size spacing) = Return size spacing
in_cell cell End = End
