-- Each claim of M-101 at a place, computed. Characters are white and have all their dots; the starting colour and that of spaces is 1.
-- Assumes nothing.
use mathlib.Core.Path.{◌≡◌, refl, ap}
use mathlib.Core.Bool.{true, false}
use mathlib.Core.List.{List, [], ◌∷◌}
use Prim.Native.Nat.{ℕ, ◌<◌, ◌≤◌}
use native.Mathlib.Omega.{arith}
use Rattle.laws.specs.Lines.{first_shown, any_of}
use Rattle.laws.specs.Placing.{cell_has}
use Rattle.units.specs.declared.Dots.{Dots}
use Rattle.units.specs.declared.Lines.{Lines}
use Rattle.display.specs.declared.Kind.{Kind}
use Rattle.display.specs.declared.Kind.TheVariants.{Character, Space, Return}
use Rattle.display.specs.declared.View.{View}
use Rattle.display.specs.declared.Pen.{Pen}
use Rattle.display.specs.Cells.{Shown, character, space, Cell, kind_cell, after_word, cells_from}
use Rattle.display.specs.Picture.{Drawn, shadow_of, shown_dot, dot_at}
use Rattle.pictures.specs.Claims.{Reach, OnTwoCells, OnFirstCell, OnRowsFirst, OnOneOutside, AfterLast, OnNoneOutside, NoShadowElsewhere, OverMode0}

abbrev solid : Drawn
solid code row column = true

abbrev dot : ℕ → Dots
dot n = record { 0 = n }

abbrev line : ℕ → Lines
line n = record { 0 = n }

abbrev view : ℕ → ℕ → View
view mode l = record { left = dot 0; line = line l; mode = mode; lit = true }

abbrev pen : Pen
pen = record { x = dot 0; y = line 0; size = 1; background = 1 }

-- a cell by its size, its left dot and its top line
abbrev cell : Shown → ℕ → ℕ → ℕ → Cell
cell shows size x y = record { left = dot x; top = line y; size = size; background = 1; shows = shows }

abbrev letter : ℕ → ℕ → Cell
letter x y = cell (character 7 0 false) 1 x y

abbrev gap : ℕ → ℕ → Cell
gap x y = cell space 1 x y

-- two screens and their cells: a row of two letters, a space and a letter; and two rows, of two letters and of one
abbrev wide : List Kind
wide = Character 7 0 false ∷ Character 7 0 false ∷ Space 1 ∷ Character 7 0 false ∷ []

abbrev wide_cells : List Cell
wide_cells = letter 0 0 ∷ letter 12 0 ∷ gap 24 0 ∷ letter 36 0 ∷ []

abbrev high : List Kind
high = Character 7 0 false ∷ Character 7 0 false ∷ Return 1 (line 0) ∷ Character 7 0 false ∷ []

abbrev high_cells : List Cell
high_cells = letter 0 0 ∷ letter 12 0 ∷ letter 0 18 ∷ []

-- the last dot and the last line that the shadow of a letter of size 2 reaches
pub reach_case : Reach → ((2 ≤ 35) × (35 < 36)) × ((2 ≤ 25) × (25 < 26))
unfolding shadow_of
reach_case claim = claim solid (view 1 35) 25 (cell (character 7 0 false) 2 0 0) refl

-- the space's first dot is in the shadow of the letter before it; nothing is said of the last letter's first dot by the first two cells, which do not have it
pub on_two_cells_case : OnTwoCells → (dot_at solid (view 1 1) 1 wide_cells 24 ≡ 8) × (false ≡ true → dot_at solid (view 1 1) 1 wide_cells 36 ≡ 0)
unfolding cells_from kind_cell after_word cell_has shadow_of shown_dot dot_at first_shown any_of
on_two_cells_case claim = (
  claim solid (view 1 1) 1 24 (dot 0) wide pen (letter 0 0 ∷ []) (letter 12 0) (gap 24 0) (letter 36 0 ∷ []) refl refl,
  claim solid (view 1 1) 1 36 (dot 0) wide pen [] (letter 0 0) (letter 12 0) (gap 24 0 ∷ letter 36 0 ∷ []) refl,
)

-- the first letter's last dot is lit; nothing is said of the last letter's first dot by the first cell, which does not have it
pub on_first_cell_case : OnFirstCell → (dot_at solid (view 1 1) 1 wide_cells 11 ≡ 15) × (false ≡ true → dot_at solid (view 1 1) 1 wide_cells 36 ≡ 0)
unfolding cells_from kind_cell after_word cell_has shadow_of shown_dot dot_at first_shown any_of
on_first_cell_case claim = (
  claim solid (view 1 1) 1 11 (dot 0) wide pen (letter 0 0) (letter 12 0 ∷ gap 24 0 ∷ letter 36 0 ∷ []) refl refl,
  claim solid (view 1 1) 1 36 (dot 0) wide pen (letter 0 0) (letter 12 0 ∷ gap 24 0 ∷ letter 36 0 ∷ []) refl,
)

-- the second row's first dot is lit; nothing is said of the first row's by a cell of the second, or of a cell that stands in one row with the cell before it
pub on_rows_first_case : OnRowsFirst
    → (dot_at solid (view 1 19) 1 high_cells 0 ≡ 15)
    × ((false ≡ true → dot_at solid (view 1 1) 1 high_cells 0 ≡ 0)
    × ((line 0 ≡ line 0 → ⊥) → dot_at solid (view 1 1) 1 wide_cells 24 ≡ 0))
unfolding cells_from kind_cell after_word cell_has shadow_of shown_dot dot_at first_shown any_of
on_rows_first_case claim =
    let apart : line 0 ≡ line 18 → ⊥ = λ same. omega (arith, ap (λ (t : Lines). t.0) same) in (
      claim solid (view 1 19) 1 0 (dot 0) high pen (letter 0 0 ∷ []) (letter 12 0) (letter 0 18) [] refl refl apart,
      (
        λ is. claim solid (view 1 1) 1 0 (dot 0) high pen (letter 0 0 ∷ []) (letter 12 0) (letter 0 18) [] refl is apart,
        claim solid (view 1 1) 1 24 (dot 0) wide pen (letter 0 0 ∷ []) (letter 12 0) (gap 24 0) (letter 36 0 ∷ []) refl refl,
      ),
    )

-- the dot after the first row is in the shadow of the row's last letter; nothing is said of a dot that a cell has, or of a cell that throws no shadow there
pub on_one_outside_case : OnOneOutside
    → (dot_at solid (view 1 1) 1 high_cells 24 ≡ 8)
    × ((true ≡ false → dot_at solid (view 1 1) 1 high_cells 12 ≡ 8)
    × (false ≡ true → dot_at solid (view 1 1) 1 high_cells 24 ≡ 0))
unfolding cell_has shadow_of shown_dot dot_at first_shown any_of
on_one_outside_case claim = (
  claim solid (view 1 1) 1 24 (letter 0 0 ∷ []) (letter 12 0) (letter 0 18 ∷ []) refl refl,
  (
    λ is. claim solid (view 1 1) 1 12 [] (letter 0 0) (letter 12 0 ∷ letter 0 18 ∷ []) is refl,
    claim solid (view 1 1) 1 24 [] (letter 0 0) (letter 12 0 ∷ letter 0 18 ∷ []) refl,
  ),
)

-- the cell after that letter stands at line 18, not at line 0 as it does; nothing is said of a dot that a cell has, or of a cell that throws no shadow there
pub after_last_case : AfterLast → (line 0 ≡ line 18 → ⊥) × ((true ≡ false → line 0 ≡ line 0 → ⊥) × (false ≡ true → line 0 ≡ line 0 → ⊥))
unfolding cells_from kind_cell after_word cell_has shadow_of any_of
after_last_case claim = (
  claim solid (view 1 1) 24 (dot 0) high pen (letter 0 0 ∷ []) (letter 12 0) (letter 0 18) [] refl refl refl,
  (
    λ is. claim solid (view 1 1) 12 (dot 0) high pen [] (letter 0 0) (letter 12 0) (letter 0 18 ∷ []) refl is refl,
    claim solid (view 1 1) 24 (dot 0) high pen [] (letter 0 0) (letter 12 0) (letter 0 18 ∷ []) refl refl,
  ),
)

-- in mode 3 the dot right of the second row has the starting colour; nothing is said of a dot that a cell has, or of one in a shadow
pub on_none_outside_case : OnNoneOutside
    → (dot_at solid (view 3 19) 1 high_cells 13 ≡ 9)
    × ((true ≡ false → dot_at solid (view 3 19) 1 high_cells 0 ≡ 9)
    × (true ≡ false → dot_at solid (view 1 1) 1 high_cells 24 ≡ 0))
unfolding cell_has shadow_of shown_dot dot_at first_shown any_of
on_none_outside_case claim =
    (claim solid (view 3 19) 1 13 high_cells refl refl, (λ is. claim solid (view 3 19) 1 0 high_cells is refl, claim solid (view 1 1) 1 24 high_cells refl))

-- in mode 2 the space's first dot has the space's colour, though the letter throws its shadow there; in mode 1 it would be video only if the mode were not 1
pub no_shadow_elsewhere_case : NoShadowElsewhere → (dot_at solid (view 2 1) 1 wide_cells 24 ≡ 9) × (((view 1 1).mode ≡ 1 → ⊥) → dot_at solid (view 1 1) 1 wide_cells 24 ≡ 0)
unfolding cell_has shadow_of shown_dot dot_at first_shown any_of
no_shadow_elsewhere_case claim = (claim solid (view 2 1) 1 wide_cells 24 (λ e. omega (arith, e)), claim solid (view 1 1) 1 wide_cells 24)

-- the second letter's first dot is lit, though the first letter throws its shadow there; the space's is not, and the second letter's shadow falls on it
pub over_mode_0_case : OverMode0 → (dot_at solid (view 1 1) 1 wide_cells 12 ≡ 15) × (dot_at solid (view 1 1) 1 wide_cells 24 ≡ 8)
unfolding cell_has shadow_of shown_dot dot_at first_shown any_of
over_mode_0_case claim = let at = claim solid (dot 0) (line 1) true 1 wide_cells in (at 12, at 24)
