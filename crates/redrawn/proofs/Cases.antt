-- The claims about screens of glyphs at a place each, computed. The glyphs have the dots at both ends of their first row.
-- Assumes nothing.
use Prim.Native.Nat.{ℕ, ◌<◌, ◌≤◌}
use mathlib.Core.Path.{◌≡◌, refl, ap, subst}
use mathlib.Core.Bool.{true, false}
use mathlib.Core.List.{List, [], ◌∷◌, ◌++◌}
use native.Mathlib.Omega.{arith}
use borrow.Author.Tests.{eqb-true}
use lib.Dec.{eqb}
use lib.ListN.{length, take, replicate}
use Rattle.laws.specs.Lines.{first_shown, any_of}
use Rattle.laws.specs.Lists.{tabulate, first_of, count_of}
use Rattle.laws.specs.Placing.{cell_has}
use Rattle.laws.specs.Said.{Said, accepted, refused}
use Rattle.laws.specs.Within.{within}
use Rattle.laws.proofs.Tests.{upto_at}
use Rattle.font.specs.Font.{is_font, row_of, bit_set, font_dot}
use Rattle.units.specs.declared.Lines.{Lines}
use Rattle.judging.specs.declared.Settings.{Settings}
use Rattle.judging.specs.Judging.{answer_of}
use Rattle.display.specs.declared.Kind.{Kind}
use Rattle.display.specs.declared.Kind.TheVariants.{Character, Space, Return, End}
use Rattle.display.specs.Words.{kind_of, kinds_of}
use Rattle.display.specs.Cells.{kind_cell, after_word, cells_from}
use Rattle.display.specs.Picture.{shadow_of, shown_dot, dot_at}
use Rattle.display.specs.Painting.{dot_of, line_of, left_by}
use Rattle.packer.specs.Glyphs.{same_pattern, first_like, patterns_before, cell_for}
use Rattle.packer.specs.Packing.{all_whole, are_glyphs, answer_of as pack_answer, cells_left}
use Rattle.sharing.specs.Sharing.{Accepted, ShownBy, font_given, cell_given}
use Rattle.redrawn.specs.Screen.{is_item, are_items, word_for, words_for, in_cell, EveryWord}
use Rattle.redrawn.specs.Picture.{SamePicture, SamePictures, PackedPictures}
use Rattle.redrawn.specs.Example.{glyphs_to, glyphs, items, settings as in_mode_2, Examples, TooMany}

-- a glyph, and a font that has it in its last cell
abbrev glyph : List ℕ
glyph = 2049 ∷ replicate 17 0

abbrev font : List ℕ
font = replicate 1098 0 ++ glyph

abbrev last : ℕ → ℕ
last g = 61

shown_row_law : (l : ℕ) → l < 18 → row_of font 61 l ≡ row_of glyph 0 l
shown_row_law l at = eqb-true _ _ (upto_at 18 (λ l. eqb (row_of font 61 l) (row_of glyph 0 l)) refl l at)

shown : ShownBy glyph font last
unfolding is_font within
shown = record {
  font_is = refl;
  cell_in = λ g at. omega arith;
  shows = λ g l j at row column. let first : 0 ≡ g = omega (arith, at) in subst (λ (g : ℕ). font_dot font 61 l j ≡ font_dot glyph g l j) first (ap (λ (r : ℕ). bit_set r j) (shown_row_law l row));
}

-- a screen of a glyph, a return and a space
abbrev screen : ℕ → Lines → List Kind
screen g spacing = Character 5 g true ∷ Return 4 spacing ∷ Space 3 ∷ replicate 61 End

abbrev lines : ℕ → Lines
lines n = record { 0 = n }

abbrev settings : Settings
settings = record { on = true; mode = 2; colour = 1; h = 0; v = 0; ratio = 0; frequency = 0 }

-- what its words are, where the glyph has this cell; and its first line in 14 of 16 bytes
abbrev kinds : ℕ → List Kind
kinds c = Character 5 c true ∷ Return 4 (lines 12) ∷ Space 3 ∷ []

abbrev line : List ℕ
line = 13 ∷ 9 ∷ 9 ∷ 9 ∷ 9 ∷ 9 ∷ 9 ∷ 9 ∷ 9 ∷ 9 ∷ 9 ∷ 13 ∷ 0 ∷ 0 ∷ 7 ∷ 7 ∷ []

-- two such glyphs, and what is lent to the packer
abbrev twins : List ℕ
twins = glyph ++ glyph

abbrev rows : List ℕ
rows = replicate 1116 7

abbrev places : List ℕ
places = replicate 3 7

abbrev given : ℕ → ℕ
given = cell_given twins rows places

-- the words of the screen, and its first line; nothing is said of a glyph that is not drawn, of a spacing of 2 lines, or of rows that are no font
pub same_pictures_case : SamePictures
    → (kinds 61 ≡ kinds 61)
    × ((left_by (words_for last (screen 0 (lines 12))) font settings 0 (lines 0) (record { 0 = 14 }) (replicate 16 7) ≡ line)
    × ((false ≡ true → SamePicture glyph font last (screen 1 (lines 12)))
    × ((false ≡ true → SamePicture glyph font last (screen 0 (lines 2)))
    × (false ≡ true → accepted 0 ≡ refused 4 0))))
unfolding is_item are_items kinds_of kind_of word_for in_cell answer_of within is_font dot_of dot_at first_shown any_of cell_has cells_from kind_cell after_word shadow_of shown_dot tabulate
same_pictures_case claim =
    let same = claim glyph font last shown (screen 0 (lines 12)) refl in
    let ws = words_for last (screen 0 (lines 12)) in (
      ap (λ (ks : List Kind). take 3 ks) same.say,
      (
        same.painted ws same.words same.say settings 0 (lines 0) (record { 0 = 14 }) (replicate 16 7) refl,
        (
          claim glyph font last shown (screen 1 (lines 12)),
          (
            claim glyph font last shown (screen 0 (lines 2)),
            λ is. same.answer ws same.words same.say ws [] same.words is settings (lines 0) (record { 0 = 14 }) 16,
          ),
        ),
      ),
    )

-- two glyphs that are alike, packed with room for a font and three cells: the second has cell 0; nothing is said of a glyph that is not drawn
pub packed_pictures_case : PackedPictures
    → (kinds 0 ≡ kinds 0)
    × ((left_by (words_for given (screen 1 (lines 12))) (font_given twins rows places) settings 0 (lines 0) (record { 0 = 14 }) (replicate 16 7) ≡ line)
    × (false ≡ true → SamePicture twins (font_given twins rows places) given (screen 2 (lines 12))))
unfolding pack_answer all_whole are_glyphs within same_pattern first_like patterns_before cell_for cells_left first_of count_of is_item are_items kinds_of kind_of word_for in_cell answer_of is_font dot_of dot_at first_shown any_of cell_has cells_from kind_cell after_word shadow_of shown_dot tabulate
packed_pictures_case claim =
    let same = claim twins rows places 1 refl (screen 1 (lines 12)) refl in
    let ws = words_for given (screen 1 (lines 12)) in
    let taken = ap (λ (a : Said). a.number) (same.answer ws same.words same.say (replicate 64 0) font refl refl settings (lines 0) (record { 0 = 14 }) 16) in (
      ap (λ (ks : List Kind). take 3 ks) same.say,
      (
        same.painted ws same.words same.say settings 0 (lines 0) (record { 0 = 14 }) (replicate 16 7) taken,
        claim twins rows places 1 refl (screen 2 (lines 12)),
      ),
    )

-- size 4 and 12 lines of spacing, the most that a return can say
pub every_word_case : EveryWord → true ≡ true
unfolding is_item kind_of
every_word_case claim = claim 1007 (omega arith)

-- the 64 glyphs take 62 cells, the last one has cell 61, and its first row is 61 in bits
pub example_case : Examples → (before spots : List ℕ) → 1116 ≤ length before → 64 ≤ length spots
    → Accepted glyphs before spots 62
    × ((cell_given glyphs before spots 63 ≡ 61)
    × (line_of items (font_dot glyphs) in_mode_2 0 (lines 0) (record { 0 = 14 }) ≡ 9 ∷ 9 ∷ 9 ∷ 9 ∷ 9 ∷ 9 ∷ 15 ∷ 15 ∷ 15 ∷ 15 ∷ 9 ∷ 15 ∷ 0 ∷ 0 ∷ []))
example_case claim before spots for_rows for_cells = let e = claim before spots for_rows for_cells in (e.packed, (e.shared, e.drawn))

-- glyphs of 63 patterns, with room for a font and 64 cells
pub too_many_case : TooMany → pack_answer (glyphs_to 62) 1116 64 ≡ refused 17 0
too_many_case claim = claim 1116 64
