-- No cells of any list do with fewer: glyphs of different patterns need different cells, whatever list shows them. So 62 cells show the glyphs exactly
-- if there are no more patterns than that.
-- Assumes nothing.
use Prim.Native.Nat.{ℕ, ◌<◌, ◌≤◌}
use mathlib.Core.Path.{◌≡◌, refl, sym, ◌∙◌, ap}
use mathlib.Core.Bool.{Bool, true, false, not, false≢true}
use mathlib.Core.List.{List}
use native.Mathlib.Decide.{dec_lt}
use native.Mathlib.Omega.{arith}
use borrow.Author.Tests.{eqb-true, eq-eqb, ne_eqb, ltb-true, lt-ltb}
use lib.Dec.{eqb, ltb}
use Rattle.laws.specs.Pick.{pick}
use Rattle.laws.specs.Lists.{first_of}
use Rattle.laws.specs.Said.{accepted, refused}
use Rattle.laws.proofs.Lists.{first_none, first_before}
use Rattle.laws.proofs.Counts.{count_weaker, count_apart}
use Rattle.laws.proofs.Said.{number_of}
use Rattle.font.specs.Font.{font_cells, font_dot}
use Rattle.packer.specs.Glyphs.{glyphs_in, same_pattern, is_first, patterns_before, patterns_in, cell_for, packed_font}
use Rattle.packer.specs.Packing.{are_glyphs, room_for, answer_of}
use Rattle.packer.proofs.Dots.{dots_same}
use Rattle.packer.proofs.Patterns.{none_before, first_where, like_cell}
use Rattle.sharing.specs.Sharing.{font_given, cell_given, Shows, different_of, Fewest, ShownBy, TooManyExactly}
use Rattle.sharing.proofs.Cells.{cell_in_count, cell_shows, font_is}
use Rattle.sharing.proofs.Shared.{taken_by, given_is, shows_each}

module _ (glyphs : List ℕ) where
  -- glyphs that one cell shows are of one pattern
  one_cell : (list : List ℕ) (cell : ℕ → ℕ) → Shows glyphs list cell → (g h : ℕ) → g < glyphs_in glyphs → h < glyphs_in glyphs → cell g ≡ cell h → same_pattern glyphs g h ≡ true
  one_cell list cell shows g h at there e =
      dots_same glyphs g h (λ l j row column. sym (shows g l j at (omega arith) (omega arith)) ∙ ap (λ (c : ℕ). font_dot list c l j) e ∙ shows h l j there (omega arith) (omega arith))

  -- a pattern's first glyph is the first with its cell
  first_with : (list : List ℕ) (cell : ℕ → ℕ) → Shows glyphs list cell → (g : ℕ) → g < glyphs_in glyphs → is_first glyphs g ≡ true
      → eqb (first_of g (λ h. eqb (cell h) (cell g))) g ≡ true
  first_with list cell shows g at first =
      eq-eqb (first_of g (λ h. eqb (cell h) (cell g))) g
      (first_none g (λ h. eqb (cell h) (cell g)) (λ h l. ne_eqb (cell h) (cell g) (λ e. none_before glyphs g h first l (one_cell list cell shows g h at (omega arith) (sym e)))))

  pub least_used : (list : List ℕ) (cell : ℕ → ℕ) → Shows glyphs list cell → patterns_in glyphs ≤ different_of (glyphs_in glyphs) cell
  unfolding patterns_before different_of
  least_used list cell shows =
      count_weaker (is_first glyphs) (λ g. eqb (first_of g (λ h. eqb (cell h) (cell g))) g) (glyphs_in glyphs) (first_with list cell shows)

  -- the packer gives a new cell to a new pattern only
  pub told_used : (cell : ℕ → ℕ) → ((g : ℕ) → g < glyphs_in glyphs → cell g ≡ cell_for glyphs g) → different_of (glyphs_in glyphs) cell ≤ patterns_in glyphs
  unfolding patterns_before different_of
  told_used cell is =
      count_weaker (λ g. eqb (first_of g (λ h. eqb (cell h) (cell g))) g) (is_first glyphs) (glyphs_in glyphs)
      (λ g at first. first_where glyphs g (λ h l like. new g at first h l (is g at ∙ like_cell glyphs g h like ∙ sym (is h (omega arith)))))
    where
      new : (g : ℕ) → g < glyphs_in glyphs → eqb (first_of g (λ h. eqb (cell h) (cell g))) g ≡ true → (h : ℕ) → h < g → cell g ≡ cell h → ⊥
      new g at first h l e =
          let here : first_of g (λ h. eqb (cell h) (cell g)) ≡ g = eqb-true (first_of g (λ h. eqb (cell h) (cell g))) g first in
          false≢true (sym (first_before g (λ h. eqb (cell h) (cell g)) h (omega arith)) ∙ eq-eqb (cell h) (cell g) (sym e))

  -- a font shows the glyphs where 62 cells are enough, and only there
  pub shown_few : (font : List ℕ) (cell : ℕ → ℕ) → ShownBy glyphs font cell → patterns_in glyphs ≤ font_cells
  unfolding patterns_before
  shown_few font cell by =
      count_apart cell font_cells (is_first glyphs) (glyphs_in glyphs) (λ g at first. omega (arith, by.cell_in g at))
      (λ h g l at before first e. none_before glyphs g h first l (one_cell font cell by.shows g h at (omega arith) (sym e)))

  pub few_shown : are_glyphs glyphs ≡ true → patterns_in glyphs ≤ font_cells → ShownBy glyphs (packed_font glyphs) (cell_for glyphs)
  few_shown are few = record { font_is = font_is glyphs are; cell_in = λ g at. omega (arith, cell_in_count glyphs g at, few); shows = cell_shows glyphs few }

pub fewest : Fewest
fewest glyphs font cells used told =
    let all = (taken_by glyphs font cells used told).all in
    let given = given_is glyphs font cells used told in
    let own = least_used glyphs (font_given glyphs font cells) (cell_given glyphs font cells) (shows_each glyphs font cells used told).shows in
    record {
      told = omega (arith, own, told_used glyphs (cell_given glyphs font cells) given, all);
      least = λ list cell shows. omega (arith, least_used glyphs list cell shows, all);
    }

pub too_many_exactly : TooManyExactly
unfolding answer_of
too_many_exactly glyphs rows places =
    (λ told. there (are_glyphs glyphs) (ltb font_cells (patterns_in glyphs)) (room_for glyphs rows places) refl refl told, λ p. back p.0 p.1 (dec_lt font_cells (patterns_in glyphs)))
  where
    there : (a b r : Bool) → are_glyphs glyphs ≡ a → ltb font_cells (patterns_in glyphs) ≡ b
        → pick (not a) (refused 16 0) (pick b (refused 17 0) (pick (not r) (refused 6 0) (accepted (patterns_in glyphs)))) ≡ refused 17 0
        → (are_glyphs glyphs ≡ true) × ((font : List ℕ) (cell : ℕ → ℕ) → ShownBy glyphs font cell → ⊥)
    there false b r e f t = absurd (omega (arith, number_of t))
    there true true r e f t = (e, λ font cell by. let few = shown_few glyphs font cell by in let many = ltb-true font_cells (patterns_in glyphs) f in omega arith)
    there true false false e f t = absurd (omega (arith, number_of t))
    there true false true e f t = absurd (omega (arith, number_of t))

    back : are_glyphs glyphs ≡ true → ((font : List ℕ) (cell : ℕ → ℕ) → ShownBy glyphs font cell → ⊥) → Dec (font_cells < patterns_in glyphs) → answer_of glyphs rows places ≡ refused 17 0
    back are none (yes many) = rw (are, lt-ltb font_cells (patterns_in glyphs) many)
    back are none (no few) = absurd (none (packed_font glyphs) (cell_for glyphs) (few_shown glyphs are (omega arith)))
