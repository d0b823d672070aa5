-- What an accepted call gives: who shares a cell, that each cell shows its glyphs, and the order of the cells. The font and the cells given are the
-- account's.
-- Assumes nothing.
use Prim.Native.Nat.{ℕ, ◌/◌, ◌%◌, ◌<◌, ◌≤◌}
use mathlib.Core.Path.{◌≡◌, refl, sym, ◌∙◌, ap}
use mathlib.Core.Bool.{Bool, true, false, not}
use mathlib.Core.List.{List, ◌++◌}
use native.Mathlib.Omega.{arith}
use borrow.Author.Tests.{ltb-false}
use lib.Dec.{eqb, ltb}
use lib.ListN.{length, get_or, take, drop, get_or-append}
use lib.Seq.{take_at}
use Rattle.laws.specs.Pick.{pick}
use Rattle.laws.specs.Lists.{tabulate}
use Rattle.laws.specs.Said.{Said, accepted, refused}
use Rattle.laws.proofs.Lists.{length_tabulate, get_or_tabulate}
use Rattle.laws.proofs.Said.{number_of}
use Rattle.font.specs.Font.{font_cells, rows_of_cell, font_rows, row_of}
use Rattle.packer.specs.Glyphs.{glyphs_in, first_like, patterns_before, patterns_in, cell_for, first_in, packed_row, packed_font}
use Rattle.packer.specs.Packing.{are_glyphs, room_for, answer_of, packs, font_left, cells_left}
use Rattle.packer.proofs.Dots.{same_dots, dots_same}
use Rattle.packer.proofs.Patterns.{first_most_here, cell_like, like_cell}
use Rattle.sharing.specs.Sharing.{Accepted, font_given, cell_given, Shares, ShownBy, ShowsEach, GivenTo, InOrder, AllGiven, RestEmpty}
use Rattle.sharing.proofs.Cells.{font_row_law, row_rest, first_has, cell_in_count, cell_shows, font_is}

-- what is known of an accepted call
pub record Taken (glyphs font cells : List ℕ) (used : ℕ) : Type 0 where
  pub are : are_glyphs glyphs ≡ true
  pub few : patterns_in glyphs ≤ font_cells
  pub all : patterns_in glyphs ≡ used
  pub packs_it : packs glyphs font cells ≡ true

pub taken_by : (glyphs font cells : List ℕ) (used : ℕ) → Accepted glyphs font cells used → Taken glyphs font cells used
unfolding answer_of
taken_by glyphs font cells used told =
    go (are_glyphs glyphs) (ltb font_cells (patterns_in glyphs)) (room_for glyphs (length font) (length cells)) refl refl told
  where
    go : (a b r : Bool) → are_glyphs glyphs ≡ a → ltb font_cells (patterns_in glyphs) ≡ b
        → pick (not a) (refused 16 0) (pick b (refused 17 0) (pick (not r) (refused 6 0) (accepted (patterns_in glyphs)))) ≡ accepted used → Taken glyphs font cells used
    go false b r e f t = absurd (omega (arith, number_of t))
    go true true r e f t = absurd (omega (arith, number_of t))
    go true false false e f t = absurd (omega (arith, number_of t))
    go true false true e f t =
        record { are = e; few = ltb-false font_cells (patterns_in glyphs) f; all = ap (λ (s : Said). s.value) t; packs_it = ap (λ (s : Said). eqb s.number 0) told }

module _ (glyphs font cells : List ℕ) (used : ℕ) (told : Accepted glyphs font cells used) where
  t : Taken glyphs font cells used
  t = taken_by glyphs font cells used told

  -- the cell given is the account's
  pub given_is : (g : ℕ) → g < glyphs_in glyphs → cell_given glyphs font cells g ≡ cell_for glyphs g
  unfolding cells_left
  given_is g l =
      let left : cells_left glyphs font cells ≡ tabulate (glyphs_in glyphs) (cell_for glyphs) ++ drop (glyphs_in glyphs) cells = rw t.packs_it in
      ap (λ (r : List ℕ). get_or r g 0) left
      ∙ get_or-append (tabulate (glyphs_in glyphs) (cell_for glyphs)) (drop (glyphs_in glyphs) cells) 0 g (omega (arith, length_tabulate (glyphs_in glyphs) (cell_for glyphs)))
      ∙ get_or_tabulate (glyphs_in glyphs) (cell_for glyphs) g 0 l

  -- so is the font
  pub font_given_law : font_given glyphs font cells ≡ packed_font glyphs
  unfolding font_left
  font_given_law =
      let left : font_left glyphs font cells ≡ packed_font glyphs ++ drop font_rows font = rw t.packs_it in
      ap (λ (r : List ℕ). take font_rows r) left
      ∙ take_at (packed_font glyphs) (drop font_rows font) font_rows (length_tabulate font_rows (λ i. packed_row glyphs (i / rows_of_cell) (i % rows_of_cell)))

  pub given_in : (g : ℕ) → g < glyphs_in glyphs → cell_given glyphs font cells g < used
  given_in g l = omega (arith, given_is g l, cell_in_count glyphs g l, t.all)

  given_to : (n c : ℕ) → n ≤ glyphs_in glyphs → c < patterns_before glyphs n → GivenTo glyphs font cells n c
  given_to n c le l =
      let has = first_has glyphs n c le l in
      let low = has.0 in
      record { glyph = first_in glyphs c; below = low; given = omega (arith, given_is (first_in glyphs c) (omega arith), has.1) }

  shows_each_one : ShownBy glyphs (font_given glyphs font cells) (cell_given glyphs font cells)
  shows_each_one =
      record {
        font_is = rw font_given_law (font_is glyphs t.are);
        cell_in = λ g at. omega (arith, given_in g at, t.few, t.all);
        shows = λ g l j at row column. rw (font_given_law, given_is g at) (cell_shows glyphs t.few g l j at row column);
      }

  in_order_one : (g c : ℕ) → g < glyphs_in glyphs → c < cell_given glyphs font cells g → GivenTo glyphs font cells g c
  unfolding cell_for
  in_order_one g c at l =
      let before : c < patterns_before glyphs (first_like glyphs g) = omega (arith, l, given_is g at) in
      let r = given_to (first_like glyphs g) c (omega (arith, first_most_here glyphs g)) before in
      let low = r.below in
      record { glyph = r.glyph; below = omega (arith, first_most_here glyphs g); given = r.given }

  rest_empty_one : (c l : ℕ) → used ≤ c → c < font_cells → l < rows_of_cell → row_of (font_given glyphs font cells) c l ≡ 0
  rest_empty_one c l a b d = rw font_given_law (font_row_law glyphs c l b d) ∙ row_rest glyphs c l (omega (arith, t.all))

pub shares : Shares
shares glyphs font cells used told g h at there = (
  λ e l j row column. same_dots glyphs g h (cell_like glyphs g h (sym (is g at) ∙ e ∙ is h there)) l j (omega arith) (omega arith),
  λ e. is g at ∙ like_cell glyphs g h (dots_same glyphs g h (λ l j row column. e l j (omega arith) (omega arith))) ∙ sym (is h there),
)
  where
    is : (g : ℕ) → g < glyphs_in glyphs → cell_given glyphs font cells g ≡ cell_for glyphs g
    is = given_is glyphs font cells used told

pub shows_each : ShowsEach
shows_each = shows_each_one

pub in_order : InOrder
in_order glyphs font cells used told g c at l = in_order_one glyphs font cells used told g c at (omega arith)

pub all_given : AllGiven
all_given glyphs font cells used told =
    record {
      below = given_in glyphs font cells used told;
      each = λ c l. given_to glyphs font cells used told (glyphs_in glyphs) c (omega arith) (let a = (taken_by glyphs font cells used told).all in omega arith);
    }

pub rest_empty : RestEmpty
rest_empty glyphs font cells used told c l a b d = rest_empty_one glyphs font cells used told c l (omega arith) b d
