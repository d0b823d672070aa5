-- The packer's cells by the account alone: in the packed font the cell of a glyph shows it, the cells from the number of patterns on are empty, and
-- the rows are a font's.
-- Assumes nothing.
use Prim.Native.Nat.{ℕ, ◌+◌, ◌*◌, ◌/◌, ◌%◌, ◌<◌, ◌≤◌}
use mathlib.Core.Path.{◌≡◌, ◌∙◌, ap}
use mathlib.Core.Bool.{Bool, true, false}
use mathlib.Core.List.{List}
use native.Mathlib.Omega.{arith}
use borrow.Author.Tests.{lt-ltb, le-ltb, eq-eqb}
use lib.Dec.{ltb}
use lib.ListN.{length, get_or}
use Rattle.laws.specs.Pick.{pick}
use Rattle.laws.proofs.Lists.{length_tabulate, get_or_tabulate}
use Rattle.font.specs.Font.{font_cells, rows_of_cell, font_rows, most_row, is_font, row_of, bit_set}
use Rattle.font.proofs.Each.{within_at, within_each}
use Rattle.packer.specs.Glyphs.{glyphs_in, patterns_before, patterns_in, cell_for, first_in, packed_row, packed_font}
use Rattle.packer.specs.Packing.{are_glyphs}
use Rattle.packer.proofs.Asked.{taken}
use Rattle.packer.proofs.Dots.{same_dots}
use Rattle.packer.proofs.Patterns.{cell_below, cell_first, cell_like, Known, known}
use Rattle.sharing.specs.Sharing.{Shows}

module _ (glyphs : List ℕ) where
  -- row l of cell c
  pub font_row_law : (c l : ℕ) → c < font_cells → l < rows_of_cell → row_of (packed_font glyphs) c l ≡ packed_row glyphs c l
  font_row_law c l a b =
      let cell : (18 * c + l) / 18 ≡ c = omega arith in
      let row : (18 * c + l) % 18 ≡ l = omega arith in
      get_or_tabulate font_rows (λ i. packed_row glyphs (i / rows_of_cell) (i % rows_of_cell)) (18 * c + l) 0 (omega arith) ∙ rw (cell, row)

  pub row_first : (c l : ℕ) → c < patterns_in glyphs → packed_row glyphs c l ≡ row_of glyphs (first_in glyphs c) l
  unfolding packed_row
  row_first c l a = rw (lt-ltb c (patterns_in glyphs) a)

  pub row_rest : (c l : ℕ) → patterns_in glyphs ≤ c → packed_row glyphs c l ≡ 0
  unfolding packed_row
  row_rest c l a = rw (le-ltb c (patterns_in glyphs) a)

  -- the first glyph of a cell has that cell
  pub first_has : (n c : ℕ) → n ≤ glyphs_in glyphs → c < patterns_before glyphs n → (first_in glyphs c < n) × (cell_for glyphs (first_in glyphs c) ≡ c)
  first_has n c le l =
      let k : Known glyphs n c = known glyphs n c le l in
      (k.below, cell_first glyphs (first_in glyphs c) k.first ∙ k.count)

  pub cell_in_count : (g : ℕ) → g < glyphs_in glyphs → cell_for glyphs g < patterns_in glyphs
  cell_in_count g l = cell_below glyphs g (glyphs_in glyphs) l

  -- the cell of a glyph shows it
  pub cell_shows : patterns_in glyphs ≤ font_cells → Shows glyphs (packed_font glyphs) (cell_for glyphs)
  cell_shows few g l j at row column =
      let c = cell_for glyphs g in
      let low : c < patterns_in glyphs = cell_in_count g at in
      let first = first_has (glyphs_in glyphs) c (omega arith) low in
      let like = cell_like glyphs (first_in glyphs c) g first.1 in
      ap (λ (r : ℕ). bit_set r j) (font_row_law c l (omega arith) (omega arith) ∙ row_first c l low) ∙ same_dots glyphs (first_in glyphs c) g like l j (omega arith) (omega arith)

  -- the rows are a font's
  row_small : are_glyphs glyphs ≡ true → (c l : ℕ) → packed_row glyphs c l ≤ most_row
  unfolding packed_row
  row_small are c l = go (ltb c (patterns_in glyphs))
    where
      go : (b : Bool) → pick b (row_of glyphs (first_in glyphs c) l) 0 ≤ most_row
      go true = within_at most_row glyphs (taken glyphs are).small (18 * first_in glyphs c + l)
      go false = omega arith

  pub font_is : are_glyphs glyphs ≡ true → is_font (packed_font glyphs) ≡ true
  unfolding is_font
  font_is are =
      let long = length_tabulate font_rows (λ i. packed_row glyphs (i / rows_of_cell) (i % rows_of_cell)) in
      let small = within_each most_row (packed_font glyphs) (λ k l. each k (omega (arith, l, long))) in
      rw (eq-eqb (length (packed_font glyphs)) font_rows long, small)
    where
      each : (k : ℕ) → k < font_rows → get_or (packed_font glyphs) k 0 ≤ most_row
      each k l = omega (arith, get_or_tabulate font_rows (λ i. packed_row glyphs (i / rows_of_cell) (i % rows_of_cell)) k 0 l, row_small are (k / 18) (k % 18))
