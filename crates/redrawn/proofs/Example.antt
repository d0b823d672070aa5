-- The example. Its first 62 glyphs differ, as the bits of their numbers do, and the last three do not: so there are 62 patterns. Its line is computed from
-- the glyphs, and painted by the theorem. The same laws count the 63 patterns of the glyphs that are refused.
-- Assumes nothing.
use Prim.Native.Nat.{ℕ, zero, suc, ◌+◌, ◌*◌, ◌/◌, ◌<◌, ◌≤◌, min}
use mathlib.Core.Path.{◌≡◌, refl, sym, ap, ◌∙◌}
use mathlib.Core.Bool.{Bool, true}
use mathlib.Core.List.{List, [], ◌∷◌, ◌++◌}
use native.Mathlib.Omega.{arith}
use borrow.Author.Tests.{lt-ltb, le-leb, eqb-true}
use lib.Dec.{eqb}
use lib.ListN.{length, get_or, replicate}
use Rattle.laws.specs.Lines.{first_shown}
use Rattle.laws.specs.Lists.{tabulate, count_of, upto}
use Rattle.laws.specs.Pick.{pick}
use Rattle.laws.specs.Placing.{cell_has}
use Rattle.laws.proofs.Counts.{count_most, count_before, count_weaker, count_apart}
use Rattle.laws.proofs.Lists.{length_tabulate, get_or_tabulate}
use Rattle.laws.proofs.Tests.{upto_at}
use Rattle.font.specs.Font.{font_cells, rows_of_cell, cell_columns, font_rows, most_row, is_font, row_of, bit_set, font_dot}
use Rattle.font.proofs.Each.{within_each, font_tests}
use Rattle.display.specs.Cells.{kind_cell, after_word, cells_from}
use Rattle.display.specs.Picture.{shown_dot, dot_at}
use Rattle.display.specs.Painting.{dot_of, line_of}
use Rattle.packer.specs.Glyphs.{glyphs_in, same_pattern, is_first, patterns_before, patterns_in, cell_for}
use Rattle.packer.specs.Packing.{all_whole, are_glyphs, answer_of}
use Rattle.packer.proofs.Dots.{same_dots, dots_same}
use Rattle.packer.proofs.Patterns.{none_before, first_where, cell_first, like_cell}
use Rattle.sharing.specs.Sharing.{Accepted, cell_given}
use Rattle.sharing.proofs.Shared.{given_is, shows_each}
use Rattle.judging.specs.Judging.{all_are_words, answer_of as paint_answer}
use Rattle.redrawn.specs.Screen.{is_item, are_items, is_screen, words_for}
use Rattle.redrawn.specs.Example.{count, glyphs_to, glyphs, different, items, settings, line, Examples, TooMany}
use Rattle.redrawn.proofs.Same.{packed_pictures}

-- the last six columns of a row tell the numbers below 64 apart: they give the number back
from_bits : (a b c d e f : Bool) → ℕ
from_bits a b c d e f = pick a 32 0 + pick b 16 0 + pick c 8 0 + pick d 4 0 + pick e 2 0 + pick f 1 0

back : ℕ → ℕ
back row = from_bits (bit_set row 6) (bit_set row 7) (bit_set row 8) (bit_set row 9) (bit_set row 10) (bit_set row 11)

computed : upto count (λ g. eqb (back g) g) ≡ true
unfolding back from_bits
computed = refl

ones : (n : ℕ) → count_of n (λ (g : ℕ). true) ≡ n
unfolding count_of
ones zero = refl
ones (suc n) = omega (arith, ones n)

-- glyphs with numbers up to `most`: the first `most + 1` of them differ, and each other is as the last of those
module _ (most : ℕ) (fits : most < count) where
  abbrev drawings : List ℕ
  drawings = glyphs_to most

  abbrev number : ℕ → ℕ
  number g = min g most

  rows : length drawings ≡ rows_of_cell * count
  rows = length_tabulate (rows_of_cell * count) (λ (i : ℕ). number (i / rows_of_cell))

  how_many : glyphs_in drawings ≡ count
  how_many = omega (arith, rows)

  each_row : (k : ℕ) → k < length drawings → get_or drawings k 0 ≤ most_row
  each_row k l = omega (arith, get_or_tabulate (rows_of_cell * count) (λ (i : ℕ). number (i / rows_of_cell)) k 0 (omega (arith, rows)))

  are_glyphs_law : are_glyphs drawings ≡ true
  unfolding are_glyphs all_whole
  are_glyphs_law = rw (rows, within_each most_row drawings each_row)

  row_is : (g l : ℕ) → g < count → l < rows_of_cell → row_of drawings g l ≡ number g
  row_is g l at row = get_or_tabulate (rows_of_cell * count) (λ (i : ℕ). number (i / rows_of_cell)) (rows_of_cell * g + l) 0 (omega arith) ∙ omega arith

  alike : (g h : ℕ) → g < count → h < count → number g ≡ number h → same_pattern drawings g h ≡ true
  alike g h at there e =
      dots_same drawings g h (λ l j row column. ap (λ (r : ℕ). bit_set r j) (row_is g l at row ∙ e ∙ sym (row_is h l there row)))

  back_is : (g : ℕ) → g ≤ most → back (row_of drawings g 0) ≡ g
  back_is g le = ap back (row_is g 0 (omega arith) (omega arith) ∙ omega arith) ∙ eqb-true (back g) g (upto_at count (λ g. eqb (back g) g) computed g (omega arith))

  unlike : (g h : ℕ) → h < g → g ≤ most → same_pattern drawings g h ≡ true → ⊥
  unfolding back
  unlike g h before le like =
      let same : back (row_of drawings g 0) ≡ back (row_of drawings h 0) = λ i. from_bits (dot 6 (omega arith) i) (dot 7 (omega arith) i) (dot 8 (omega arith) i) (dot 9 (omega arith) i) (dot 10 (omega arith) i) (dot 11 (omega arith) i) in
      omega (arith, same, back_is g le, back_is h (omega arith))
    where
      dot : (j : ℕ) → j < cell_columns → font_dot drawings g 0 j ≡ font_dot drawings h 0 j
      dot j column = same_dots drawings g h like 0 j (omega arith) column

  is_first_law : (g : ℕ) → g ≤ most → is_first drawings g ≡ true
  is_first_law g le = first_where drawings g (λ h before like. unlike g h before le like)

  least : (n : ℕ) → n ≤ most + 1 → n ≤ patterns_before drawings n
  unfolding patterns_before
  least n le = omega (arith, ones n, count_weaker (λ (g : ℕ). true) (is_first drawings) n (λ g l e. is_first_law g (omega arith)))

  patterns : patterns_in drawings ≡ most + 1
  unfolding patterns_before
  patterns =
      let at_most = count_apart number (most + 1) (is_first drawings) count (λ g l e. omega arith)
      (λ h g before at e first same. none_before drawings g h first before (alike g h at (omega arith) (sym same))) in
      ap (patterns_before drawings) how_many ∙ omega (arith, least (most + 1) (omega arith), count_before (is_first drawings) (most + 1) count (omega arith), at_most)

  -- `most` patterns appear before that of the last glyph
  last_cell : cell_for drawings 63 ≡ most
  unfolding patterns_before
  last_cell =
      like_cell drawings 63 most (alike 63 most (omega arith) (omega arith) (omega arith)) ∙ cell_first drawings most (is_first_law most (omega arith))
      ∙ omega (arith, least most (omega arith), count_most (is_first drawings) most)

abbrev below : 61 < count
below = omega arith

is_screen_law : is_screen (glyphs_in glyphs) items ≡ true
unfolding is_item are_items
is_screen_law = rw (how_many 61 below)

-- its line, computed from the glyphs: by the one row that it shows
by_row : ℕ → List ℕ
by_row row = line_of items (λ g l j. bit_set row j) settings 0 (record { 0 = 0 }) (record { 0 = 14 })

drawn : line_of items (font_dot glyphs) settings 0 (record { 0 = 0 }) (record { 0 = 14 }) ≡ line
unfolding by_row tabulate dot_of dot_at first_shown cell_has cells_from kind_cell after_word shown_dot
drawn =
    let shown : line_of items (font_dot glyphs) settings 0 (record { 0 = 0 }) (record { 0 = 14 }) ≡ by_row (row_of glyphs 63 0) = refl in
    let computed : by_row 61 ≡ line = refl in
    shown ∙ ap by_row (row_is 61 below 63 0 (omega arith) (omega arith)) ∙ computed

packed : (font cells : List ℕ) → font_rows ≤ length font → count ≤ length cells → Accepted glyphs font cells different
unfolding answer_of
packed font cells room places =
    let all : patterns_in glyphs ≡ different = omega (arith, patterns 61 below) in
    rw (are_glyphs_law 61 below, all, how_many 61 below, le-leb font_rows (length font) room, le-leb count (length cells) places)

-- a call with right words and a font is accepted
taken : (words font : List ℕ) → all_are_words words ≡ true → is_font font ≡ true → (paint_answer words font settings (record { 0 = 0 }) (record { 0 = 14 }) 16).number ≡ 0
unfolding paint_answer
taken words font are is = rw (are, (font_tests font is).0, (font_tests font is).1)

pub example : Examples
example font cells room places =
    let told = packed font cells room places in
    let same = packed_pictures glyphs font cells different told items is_screen_law in
    let shown = shows_each glyphs font cells different told in
    record {
      packed = told;
      shared = given_is glyphs font cells different told 63 (omega (arith, how_many 61 below)) ∙ last_cell 61 below;
      screen = is_screen_law;
      drawn = drawn;
      painted = same.painted (words_for (cell_given glyphs font cells) items) same.words same.say settings 0 (record { 0 = 0 }) (record { 0 = 14 }) (replicate 16 7) (taken _ _ same.words shown.font_is) ∙ ap (λ (l : List ℕ). l ++ (7 ∷ 7 ∷ [])) drawn;
    }

pub too_many : TooMany
unfolding answer_of
too_many room places =
    let more : font_cells < patterns_in (glyphs_to 62) = omega (arith, patterns 62 (omega arith)) in
    rw (are_glyphs_law 62 (omega arith), lt-ltb font_cells (patterns_in (glyphs_to 62)) more)
