-- What a call answers and leaves, by the tests that decide it.
-- Assumes nothing.
use Rattle.std.proofs.Common.{◌≡◌, ℕ, ◌<◌, ◌≤◌, true, false, eqb, ltb, leb, List, Err, ◌++◌, length, take, drop, sym, ap, ◌∙◌, arith, length-take, le-ltb, lt-ltb, ne_eqb, le-leb}
use Rattle.std.proofs.lemmas.List.{get_or-take}
use borrow.Author.Tests.{lt-leb}
use Rattle.laws.specs.Said.{Said, accepted, refused}
use Rattle.laws.specs.Within.{within}
use Rattle.laws.proofs.Both.{none_left, none_right}
use Rattle.laws.proofs.Lists.{is_tabulate}
use Rattle.font.specs.Font.{font_cells, font_rows, most_row}
use Rattle.packer.specs.declared.PackError.{PackError}
use Rattle.packer.specs.declared.PackError.TheVariants.{NotGlyphs, TooManyPatterns, NoRoom}
use Rattle.packer.specs.Glyphs.{most_glyphs, glyphs_in, patterns_in, cell_for, packed_font}
use Rattle.packer.specs.Packing.{all_whole, are_glyphs, room_for, answer_of, said, packs, font_left, cells_left}
use Rattle.packer.specs.Steps.{AllNumbered, Numbered}
use Rattle.packer.proofs.Asked.{taken}

pub not_whole : (glyphs : List ℕ) → all_whole glyphs ≡ false → are_glyphs glyphs ≡ false
unfolding are_glyphs
not_whole glyphs none = none_left (all_whole glyphs) (within most_row glyphs) none

module _ (glyphs font cells : List ℕ) where
  -- the numbers
  pub not_glyphs : are_glyphs glyphs ≡ false → refused 16 0 ≡ answer_of glyphs (length font) (length cells)
  unfolding answer_of
  not_glyphs none = simp none

  pub too_many : are_glyphs glyphs ≡ true → font_cells < patterns_in glyphs → refused 17 0 ≡ answer_of glyphs (length font) (length cells)
  unfolding answer_of
  too_many are many =
      let over : ltb font_cells (patterns_in glyphs) ≡ true = lt-ltb font_cells (patterns_in glyphs) many in
      simp (are, over)

  no_room : are_glyphs glyphs ≡ true → patterns_in glyphs ≤ font_cells → room_for glyphs (length font) (length cells) ≡ false
      → refused 6 0 ≡ answer_of glyphs (length font) (length cells)
  unfolding answer_of
  no_room are few short =
      let under : ltb font_cells (patterns_in glyphs) ≡ false = le-ltb font_cells (patterns_in glyphs) few in
      simp (are, under, short)

  pub no_rows : are_glyphs glyphs ≡ true → patterns_in glyphs ≤ font_cells → length font < font_rows → refused 6 0 ≡ answer_of glyphs (length font) (length cells)
  no_rows are few short = no_room are few (none_left (leb font_rows (length font)) (leb (glyphs_in glyphs) (length cells)) (lt-leb font_rows (length font) short))

  pub no_places : are_glyphs glyphs ≡ true → patterns_in glyphs ≤ font_cells → length cells < glyphs_in glyphs → refused 6 0 ≡ answer_of glyphs (length font) (length cells)
  no_places are few short = no_room are few (none_right (leb font_rows (length font)) (leb (glyphs_in glyphs) (length cells)) (lt-leb (glyphs_in glyphs) (length cells) short))

  pub packed_all : are_glyphs glyphs ≡ true → patterns_in glyphs ≤ font_cells → font_rows ≤ length font → glyphs_in glyphs ≤ length cells
      → accepted (patterns_in glyphs) ≡ answer_of glyphs (length font) (length cells)
  unfolding answer_of
  packed_all are few rows places =
      let under : ltb font_cells (patterns_in glyphs) ≡ false = le-ltb font_cells (patterns_in glyphs) few in
      let long : leb font_rows (length font) ≡ true = le-leb font_rows (length font) rows in
      let wide : leb (glyphs_in glyphs) (length cells) ≡ true = le-leb (glyphs_in glyphs) (length cells) places in
      simp (are, under, long, wide)

  -- a refused call leaves all as it was
  pub leaves : (k : ℕ) → 0 < k → refused k 0 ≡ answer_of glyphs (length font) (length cells) → (font ≡ font_left glyphs font cells) × (cells ≡ cells_left glyphs font cells)
  unfolding font_left cells_left
  leaves k some told =
      let refuses : packs glyphs font cells ≡ false = ap (λ (s : Said). eqb s.number 0) (sym told) ∙ ne_eqb k 0 (omega arith) in
      (simp refuses, simp refuses)

  -- what comes of patterns that are not numbered
  pub refuses : (drawn : List (List ℕ)) (firsts : List ℕ) (used : ℕ) (numbers : List ℕ) (e : PackError) → Numbered glyphs drawn firsts used numbers (Err e)
      → (said (Err e) ≡ answer_of glyphs (length font) (length cells)) × (font ≡ font_left glyphs font cells) × (cells ≡ cells_left glyphs font cells)
  refuses drawn firsts used numbers NotGlyphs none =
      let left = leaves 16 (omega arith) (not_glyphs none) in
      (not_glyphs none, left.0, left.1)
  refuses drawn firsts used numbers TooManyPatterns many =
      let left = leaves 17 (omega arith) (too_many many.0 many.1) in
      (too_many many.0 many.1, left.0, left.1)
  refuses drawn firsts used numbers NoRoom none = elim none [ ]

  -- an accepted one leaves font and cells
  pub leaves_font : accepted (patterns_in glyphs) ≡ answer_of glyphs (length font) (length cells) → packed_font glyphs ++ drop font_rows font ≡ font_left glyphs font cells
  unfolding font_left
  leaves_font told =
      let are : packs glyphs font cells ≡ true = ap (λ (s : Said). eqb s.number 0) (sym told) in
      simp are

  pub leaves_cells : (drawn : List (List ℕ)) (firsts numbers : List ℕ) (used : ℕ) → AllNumbered glyphs drawn firsts used numbers → length numbers ≡ most_glyphs
      → accepted (patterns_in glyphs) ≡ answer_of glyphs (length font) (length cells)
      → take (glyphs_in glyphs) numbers ++ drop (glyphs_in glyphs) cells ≡ cells_left glyphs font cells
  unfolding cells_left
  leaves_cells drawn firsts numbers used n places told =
      let are : packs glyphs font cells ≡ true = ap (λ (s : Said). eqb s.number 0) (sym told) in
      let few = (taken glyphs n.are).few in
      let size : length (take (glyphs_in glyphs) numbers) ≡ glyphs_in glyphs = simp length-take (omega (arith, places, few)) in
      let each = is_tabulate 0 (glyphs_in glyphs) (cell_for glyphs) (take (glyphs_in glyphs) numbers) size (λ k l. get_or-take (glyphs_in glyphs) numbers k 0 l ∙ n.cell k l) in
      ap (λ (l : List ℕ). l ++ drop (glyphs_in glyphs) cells) each ∙ simp are
