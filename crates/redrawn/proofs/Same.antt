-- The word for an item is one of 10 bits, and reads back as the item with the cell for the glyph. That item does the same as the one with the glyph, by the
-- dots that the cell has; so whatever words say those items, the cells of the two screens are alike, and `same_line` of display's Corollaries gives the line.
-- Assumes nothing.
use Prim.Native.Nat.{ℕ, ◌+◌, ◌-◌, ◌*◌, ◌/◌, ◌%◌, ◌<◌, ◌≤◌}
use mathlib.Core.Path.{◌≡◌, refl, sym, ap, ◌∙◌}
use mathlib.Core.Bool.{Bool, true, false}
use mathlib.Core.List.{List, [], ◌∷◌, ◌++◌, map, Forall₂}
use native.Mathlib.Omega.{arith}
use borrow.Author.Tests.{leb-true, ltb-true, eqb-true, le-leb, eq-eqb, ne_eqb}
use lib.Dec.{eqb}
use lib.ListN.{length, drop, length-map}
use Rattle.laws.specs.Within.{within}
use Rattle.laws.proofs.Both.{both_parts}
use Rattle.font.specs.Font.{is_font, rows_of_cell, cell_columns, font_dot}
use Rattle.font.proofs.Each.{font_tests}
use Rattle.port.specs.Port.{word_of}
use Rattle.units.specs.declared.Dots.{Dots}
use Rattle.units.specs.declared.Lines.{Lines}
use Rattle.judging.specs.declared.Settings.{Settings}
use Rattle.judging.specs.Judging.{word_count, most_word, most_colour, all_are_words, answer_of}
use Rattle.display.specs.declared.Kind.{Kind}
use Rattle.display.specs.declared.Kind.TheVariants.{Character, Space, Return, End}
use Rattle.display.specs.Words.{code_of, return_code, space_code, colour_of, size_of, spacing_of, kind_of, kinds_of}
use Rattle.display.specs.Cells.{Shown, character, space, kind_cell, after_word, row_pen}
use Rattle.display.specs.Painting.{first_dot, first_line, line_of, left_by}
use Rattle.display.proofs.Corollaries.{SameShown, Alike, SameKind, alike_cells, same_line}
use Rattle.display.proofs.Sound.{reads_end, reads_space, reads_return, reads_character}
use Rattle.packer.specs.Glyphs.{glyphs_in}
use Rattle.sharing.specs.Sharing.{ShownBy, font_given, cell_given}
use Rattle.sharing.proofs.Shared.{shows_each}
use Rattle.redrawn.specs.Screen.{is_item, are_items, is_screen, marked, attribute_for, word_for, words_for, in_cell}
use Rattle.redrawn.specs.Picture.{SamePicture, SamePictures, PackedPictures}

-- the parts of a word of this code and attribute, read back
module _ (code t : ℕ) (in_code : code ≤ space_code) (in_bits : t ≤ 15) where
  code_back : code_of (word_of code t) ≡ code
  code_back = omega arith

  colour_back : colour_of (word_of code t) ≡ t / 2
  colour_back = omega arith

  mark_back : word_of code t % 2 ≡ t % 2
  mark_back = omega arith

  size_back : size_of (word_of code t) ≡ t / 4 + 1
  size_back = omega arith

  spacing_back : spacing_of (word_of code t) ≡ t % 4 * 4
  spacing_back = omega arith

-- the parts of an attribute with a mark
module _ (colour : ℕ) where
  marked_most : (mark : Bool) → colour ≤ most_colour → marked colour mark ≤ 15
  marked_most true in_colour = omega arith
  marked_most false in_colour = omega arith

  marked_colour : (mark : Bool) → marked colour mark / 2 ≡ colour
  marked_colour true = omega arith
  marked_colour false = omega arith

  marked_mark : (mark : Bool) → eqb (marked colour mark % 2) 1 ≡ mark
  marked_mark true = let odd : marked colour true % 2 ≡ 1 = omega arith in eq-eqb _ _ odd
  marked_mark false = let even : marked colour false % 2 ≡ 0 = omega arith in ne_eqb _ _ (λ (z : marked colour false % 2 ≡ 1). omega arith)

-- the parts of an attribute of two numbers
module _ (m q : ℕ) (in_low : q ≤ 3) where
  upper : (4 * m + q) / 4 ≡ m
  upper = omega arith

  lower : (4 * m + q) % 4 ≡ q
  lower = omega arith

module _ (glyphs font : List ℕ) (cell : ℕ → ℕ) (by : ShownBy glyphs font cell) where
  abbrev n : ℕ
  n = glyphs_in glyphs

  -- what the tests of an item tell
  character_parts : (colour glyph : ℕ) (blink : Bool) → is_item n (Character colour glyph blink) ≡ true → (colour ≤ most_colour) × (glyph < n)
  unfolding is_item
  character_parts colour glyph blink e = let parts = both_parts _ _ e in (leb-true _ _ parts.0, ltb-true _ _ parts.1)

  return_parts : (size : ℕ) (spacing : Lines) → is_item n (Return size spacing) ≡ true → ((1 ≤ size) × (size ≤ 4)) × ((spacing.0 ≤ 12) × (spacing.0 % 4 ≡ 0))
  unfolding is_item
  return_parts size spacing e =
      let parts = both_parts _ _ e in
      let sizes = both_parts _ _ parts.0 in
      let gaps = both_parts _ _ parts.1 in
      ((leb-true _ _ sizes.0, leb-true _ _ sizes.1), (leb-true _ _ gaps.0, eqb-true _ _ gaps.1))

  -- the word for an item reads back
  reads : (item : Kind) → is_item n item ≡ true → kind_of (word_for cell item) ≡ in_cell cell item
  unfolding is_item word_for in_cell
  reads (Character colour glyph blink) e =
      let parts = character_parts colour glyph blink e in
      let in_font = by.cell_in glyph (omega (arith, parts.1)) in
      let in_bits = marked_most colour blink parts.0 in
      let w = word_for cell (Character colour glyph blink) in
      let code = code_back (cell glyph) (marked colour blink) (omega arith) in_bits in
      sym (reads_character w (ne_eqb _ _ (λ (z : code_of w ≡ space_code). omega arith)) (ne_eqb _ _ (λ (z : code_of w ≡ return_code). omega arith)))
      ∙ simp (code, colour_back (cell glyph) (marked colour blink) (omega arith) in_bits, mark_back (cell glyph) (marked colour blink) (omega arith) in_bits, marked_colour colour blink, marked_mark colour blink)
  reads (Space background) e =
      let in_bits = marked_most background false (leb-true background most_colour e) in
      let w = word_for cell (Space background) in
      let mark = mark_back space_code (marked background false) (omega arith) in_bits in
      sym (reads_space w (eq-eqb _ _ (code_back space_code (marked background false) (omega arith) in_bits)) (simp (mark, marked_mark background false)))
      ∙ simp (colour_back space_code (marked background false) (omega arith) in_bits, marked_colour background false)
  reads (Return size spacing) e =
      let parts = return_parts size spacing e in
      let t = attribute_for (Return size spacing) in
      let in_bits : t ≤ 15 = omega arith in
      let w = word_for cell (Return size spacing) in
      let code = code_back return_code t (omega arith) in_bits in
      let high : size_of w ≡ size = size_back return_code t (omega arith) in_bits ∙ rw (upper (size - 1) (spacing.0 / 4) (omega arith)) (omega arith) in
      let gap : spacing_of w ≡ spacing.0 = spacing_back return_code t (omega arith) in_bits ∙ rw (lower (size - 1) (spacing.0 / 4) (omega arith)) (omega arith) in
      sym (reads_return w (ne_eqb _ _ (λ (z : code_of w ≡ space_code). omega arith)) (eq-eqb _ _ code)) ∙ simp (high, gap)
  reads End e = sym (reads_end (word_for cell End) refl refl)

  -- and has 10 bits
  most_word_law : (item : Kind) → is_item n item ≡ true → word_for cell item ≤ most_word
  unfolding is_item word_for
  most_word_law (Character colour glyph blink) e =
      let parts = character_parts colour glyph blink e in
      omega (arith, by.cell_in glyph (omega (arith, parts.1)), marked_most colour blink parts.0)
  most_word_law (Space background) e = omega (arith, marked_most background false (leb-true background most_colour e))
  most_word_law (Return size spacing) e = let parts = return_parts size spacing e in omega arith
  most_word_law End e = omega arith

  -- an item with the glyph's cell does as the item with the glyph
  alike_one : (x : Dots) (y : Lines) (size back : ℕ) (sh sh' : Shown) → SameShown (font_dot font) (font_dot glyphs) sh sh'
      → Forall₂ (Alike (font_dot font) (font_dot glyphs)) (record { left = x; top = y; size = size; background = back; shows = sh } ∷ []) (record { left = x; top = y; size = size; background = back; shows = sh' } ∷ [])
  alike_one x y size back sh sh' same = Forall₂.cons (record { left = refl; top = refl; size = refl; background = refl; shows = same }) Forall₂.nil

  same_kind : (item : Kind) → is_item n item ≡ true → SameKind (font_dot font) (font_dot glyphs) (in_cell cell item) item
  unfolding in_cell kind_cell after_word
  same_kind (Character colour glyph blink) e =
      let in_glyphs = (character_parts colour glyph blink e).1 in
      let dots : (l j : ℕ) → l < rows_of_cell → j < cell_columns → font_dot font (cell glyph) l j ≡ font_dot glyphs glyph l j =
      λ l j in_row in_column. by.shows glyph l j in_glyphs (omega arith) (omega arith) in
      record {
        cells = λ x y size back. alike_one x y size back (character colour (cell glyph) blink) (character colour glyph blink) (refl, (refl, dots));
        moves = λ left p. refl;
        goes = refl;
      }
  same_kind (Space background) e = record { cells = λ x y size back. alike_one x y size background space space tt; moves = λ left p. refl; goes = refl }
  same_kind (Return size spacing) e = record { cells = λ x y size back. Forall₂.nil; moves = λ left p. refl; goes = refl }
  same_kind End e = record { cells = λ x y size back. Forall₂.nil; moves = λ left p. refl; goes = refl }

  -- all the words of a screen
  words_within : (items : List Kind) → are_items n items ≡ true → within most_word (words_for cell items) ≡ true
  unfolding are_items within
  words_within [] e = refl
  words_within (item ∷ items) e =
      let parts = both_parts (is_item n item) (are_items n items) e in
      rw (le-leb (word_for cell item) most_word (most_word_law item parts.0)) (words_within items parts.1)

  words_say : (items : List Kind) → are_items n items ≡ true → kinds_of (words_for cell items) ≡ map (in_cell cell) items
  unfolding are_items kinds_of
  words_say [] e = refl
  words_say (item ∷ items) e =
      let parts = both_parts (is_item n item) (are_items n items) e in
      ap (λ (kd : Kind). kd ∷ kinds_of (words_for cell items)) (reads item parts.0) ∙ ap (λ (kds : List Kind). in_cell cell item ∷ kds) (words_say items parts.1)

  same_kinds : (items : List Kind) → are_items n items ≡ true → Forall₂ (SameKind (font_dot font) (font_dot glyphs)) (map (in_cell cell) items) items
  unfolding are_items
  same_kinds [] e = Forall₂.nil
  same_kinds (item ∷ items) e =
      let parts = both_parts (is_item n item) (are_items n items) e in
      Forall₂.cons (same_kind item parts.0) (same_kinds items parts.1)

  module _ (items : List Kind) (screen : is_screen n items ≡ true) where
    sixty_four : eqb (length items) word_count ≡ true
    sixty_four = (both_parts (eqb (length items) word_count) (are_items n items) screen).0

    each : are_items n items ≡ true
    each = (both_parts (eqb (length items) word_count) (are_items n items) screen).1

    are_words : all_are_words (words_for cell items) ≡ true
    are_words = rw (length-map items (word_for cell), sixty_four) (words_within items each)

    -- any words that say the items
    module _ (ws : List ℕ) (are : all_are_words ws ≡ true) (says : kinds_of ws ≡ map (in_cell cell) items) where
      answers : (right any : List ℕ) → all_are_words right ≡ true → is_font any ≡ true
          → (s : Settings) (line : Lines) (width : Dots) (room : ℕ) → answer_of ws font s line width room ≡ answer_of right any s line width room
      unfolding answer_of
      answers right any are_right is_any s line width room =
          let tests = font_tests font by.font_is in
          let any_tests = font_tests any is_any in
          rw (are, tests.0, tests.1, are_right, any_tests.0, any_tests.1)

      -- the line of the words is that of the glyphs
      same : (s : Settings) (frame : ℕ) (line : Lines) (width : Dots)
          → line_of (kinds_of ws) (font_dot font) s frame line width ≡ line_of items (font_dot glyphs) s frame line width
      same s frame line width =
          ap (λ (kinds : List Kind). line_of kinds (font_dot font) s frame line width) says
          ∙ same_line (map (in_cell cell) items) items (font_dot font) (font_dot glyphs) s frame line width
          (alike_cells (font_dot font) (font_dot glyphs) (first_dot s) (row_pen (first_dot s) (first_line s) 1 s.colour) (map (in_cell cell) items) items (same_kinds items each))

      paints : (s : Settings) (frame : ℕ) (line : Lines) (width : Dots) (out : List ℕ) → (answer_of ws font s line width (length out)).number ≡ 0
          → left_by ws font s frame line width out ≡ line_of items (font_dot glyphs) s frame line width ++ drop width.0 out
      unfolding left_by
      paints s frame line width out e =
          rw (eq-eqb _ _ e) (ap (λ (l : List ℕ). l ++ drop width.0 out) (same s frame line width))

      leaves : (s : Settings) (frame : ℕ) (line : Lines) (width : Dots) (out : List ℕ) → ((answer_of ws font s line width (length out)).number ≡ 0 → ⊥)
          → left_by ws font s frame line width out ≡ out
      unfolding left_by
      leaves s frame line width out ne = rw (ne_eqb _ _ ne)

    pub same_picture : SamePicture glyphs font cell items
    same_picture = record { words = are_words; say = words_say items each; answer = answers; painted = paints; untouched = leaves }

pub same_pictures : SamePictures
same_pictures = same_picture

pub packed_pictures : PackedPictures
packed_pictures glyphs font cells used told items screen =
    same_pictures glyphs (font_given glyphs font cells) (cell_given glyphs font cells) (shows_each glyphs font cells used told) items screen
