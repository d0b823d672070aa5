-- Each claim about the packer's cells at a place, computed. The glyphs differ in their last row alone.
-- Assumes nothing.
use Prim.Native.Nat.{ℕ, zero, suc, ◌<◌, ◌≤◌}
use mathlib.Core.Path.{◌≡◌, refl, subst}
use mathlib.Core.Bool.{true, false}
use mathlib.Core.Logic.{◌↔◌}
use mathlib.Core.List.{List, [], ◌∷◌, ◌++◌}
use native.Mathlib.Omega.{arith}
use lib.ListN.{take, replicate}
use Rattle.laws.specs.Lists.{tabulate, first_of, count_of}
use Rattle.laws.specs.Said.{refused}
use Rattle.laws.specs.Within.{within}
use Rattle.font.specs.Font.{is_font, row_of, font_dot}
use Rattle.packer.specs.Glyphs.{same_pattern, first_like, patterns_before, cell_for, first_in, packed_row}
use Rattle.packer.specs.Packing.{all_whole, are_glyphs, answer_of, font_left, cells_left}
use Rattle.sharing.specs.Sharing.{font_given, cell_given, Shares, Shows, ShownBy, ShowsEach, GivenTo, InOrder, AllGiven, RestEmpty, different_of, Fewest, TooManyExactly}

-- a glyph with this last row, below 17 empty ones
abbrev glyph : ℕ → List ℕ
glyph last = replicate 17 0 ++ (last ∷ [])

abbrev two : List ℕ
two = glyph 1 ++ glyph 2

-- one with a row of 13 bits
abbrev above : List ℕ
above = 4096 ∷ replicate 17 0

-- n glyphs that all differ, the last of them empty
pub down : ℕ → List ℕ
down zero = []
down (suc n) = glyph n ++ down n

-- what is lent: the rows of a font, and four places for cells
abbrev rows : List ℕ
rows = replicate 1116 7

abbrev places : List ℕ
places = replicate 4 7

-- two glyphs agree but for row 17, and have cells 0 and 1
pub shares_case : Shares → ◌≡◌ {A = ℕ} 0 1 ↔ ((l j : ℕ) → l < 18 → j < 12 → font_dot two 0 l j ≡ font_dot two 1 l j)
unfolding answer_of are_glyphs all_whole within patterns_before first_like same_pattern first_of count_of cell_for cells_left tabulate
shares_case claim = claim two rows places 2 refl 0 1 (omega arith) (omega arith)

-- the one dot of the second glyph, in column 10, is seen in its cell
pub shows_each_case : ShowsEach → font_dot (font_given two rows places) (cell_given two rows places 1) 17 10 ≡ true
unfolding answer_of are_glyphs all_whole within patterns_before first_like same_pattern first_of count_of
shows_each_case claim = (claim two rows places 2 refl).shows 1 17 10 (omega arith) (omega arith) (omega arith)

-- the second glyph has cell 1, so the first has cell 0; of the first glyph's own cell nothing is said
pub in_order_case : InOrder → (cell_given two rows places 0 ≡ 0) × (0 < 0 → GivenTo two rows places 0 0)
unfolding answer_of are_glyphs all_whole within patterns_before first_like same_pattern first_of count_of cell_for cells_left tabulate
in_order_case claim =
    let before = claim two rows places 2 refl 1 0 (omega arith) (omega arith) in
    let first : before.glyph ≡ 0 = omega (arith, before.below) in
    (subst (λ (g : ℕ). cell_given two rows places g ≡ 0) first before.given, claim two rows places 2 refl 0 0 (omega arith))

-- the second glyph has a cell below 2; of cell 2 nothing is said
pub all_given_case : AllGiven → (1 < 2) × (2 < 2 → GivenTo two rows places 2 2)
unfolding answer_of are_glyphs all_whole within patterns_before first_like same_pattern first_of count_of cell_for cells_left tabulate
all_given_case claim = let given = claim two rows places 2 refl in (given.below 1 (omega arith), given.each 2)

-- of a glyph by itself, cell 1 is empty, whatever was lent; of cell 0, whose row 17 is 1, nothing is said
pub rest_empty_case : RestEmpty → (row_of (font_given (glyph 1) rows places) 1 17 ≡ 0) × (1 ≤ 0 → 0 < 62 → 17 < 18 → ◌≡◌ {A = ℕ} 1 0)
unfolding answer_of are_glyphs all_whole within patterns_before first_like same_pattern first_of count_of cell_for first_in packed_row font_left tabulate
rest_empty_case claim = (claim (glyph 1) rows places 1 refl 1 17 (omega arith) (omega arith) (omega arith), claim (glyph 1) rows places 1 refl 0 17)

-- the two have 2 different cells, as many as are told and as they have where they lie; 1 would do if it showed both
pub fewest_case : Fewest → ◌≡◌ {A = ℕ} 2 2 × ((2 ≤ 2) × (((g l j : ℕ) → g < 2 → l < 18 → j < 12 → font_dot two 0 l j ≡ font_dot two g l j) → 2 ≤ 1))
unfolding answer_of are_glyphs all_whole within patterns_before first_like same_pattern first_of count_of cell_for cells_left tabulate different_of
fewest_case claim =
    let fewest = claim two rows places 2 refl in (fewest.told, (fewest.least two (λ g. g) (λ g l j at row column. refl), fewest.least two (λ g. 0)))

-- 63 glyphs that all differ, the last of them empty: a font of the others would show that one past its end, if cell 62 were one of its cells. Without room, of two glyphs 6
-- is told, and 17 would be if no font showed them; of a row of 13 bits 16 is told, whatever shows it
pub too_many_exactly_case : TooManyExactly
    → (((g : ℕ) → g < 63 → g < 62) → Shows (down 63) (take 1116 (down 63)) (λ g. g) → ⊥)
    × ((((font : List ℕ) (cell : ℕ → ℕ) → ShownBy two font cell → ⊥) → refused 6 0 ≡ refused 17 0)
    × ((false ≡ true) × ((font : List ℕ) (cell : ℕ → ℕ) → ShownBy above font cell → ⊥) → refused 16 0 ≡ refused 17 0))
unfolding answer_of are_glyphs all_whole within patterns_before first_like same_pattern first_of count_of is_font down
too_many_exactly_case claim = (
  λ inside shows. ((claim (down 63) 0 1).0 refl).1 (take 1116 (down 63)) (λ g. g) (record { font_is = refl; cell_in = inside; shows = shows }),
  (λ none. (claim two 0 1).1 (refl, none), (claim above 0 1).1),
)
