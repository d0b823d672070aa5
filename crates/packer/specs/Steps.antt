-- What the packer's own steps do, for the contracts of its private functions: no part of the account.
-- Patterns that were met are kept in chains, one for each spot, and a glyph is compared with those of its own spot only. What is
-- said of one glyph is said of its 18 rows.
-- Assumes nothing.
use Rattle.std.specs.Prelude.{◌≡◌, ℕ, zero, suc, ◌+◌, ◌*◌, ◌/◌, ◌%◌, ◌^◌, ◌<◌, ◌≤◌, Bool, true, false, leb, List, [], length, drop, Option, None, Some, Result, Ok, Err, nat_eq, nat_le, slice_index, slice_index_or, slice_set}
use Rattle.std.specs.Simd.{first_chunks}
use Rattle.laws.specs.Pick.{pick, both}
use Rattle.laws.specs.Lists.{upto}
use Rattle.laws.specs.Within.{within}
use Rattle.font.specs.Font.{font_cells, rows_of_cell, font_rows, most_row}
use Rattle.packer.specs.declared.PackError.{PackError}
use Rattle.packer.specs.declared.PackError.TheVariants.{NotGlyphs, TooManyPatterns, NoRoom}
use Rattle.packer.specs.Glyphs.{most_glyphs, glyphs_in, first_in, cell_for, patterns_in}
use Rattle.packer.specs.Packing.{all_whole, are_glyphs}

-- rows as one number: two, and four
unfoldable pub two_at : List ℕ → ℕ → ℕ
two_at rows at = slice_index rows at + slice_index rows (at + 1) * 65536

unfoldable pub four_at : List ℕ → ℕ → ℕ
four_at rows at = two_at rows at + two_at rows (at + 2) * 4294967296

-- two glyphs have the same rows; a glyph has no row above 4095
unfoldable pub same_rows : List ℕ → List ℕ → Bool
same_rows one other = upto rows_of_cell (λ l. nat_eq (slice_index one l) (slice_index other l))

unfoldable pub narrow_rows : List ℕ → Bool
narrow_rows glyph = upto rows_of_cell (λ l. leb (slice_index glyph l) most_row)

-- none of a number's four parts is above 4095
unfoldable pub all_parts_narrow : ℕ → Bool
all_parts_narrow n =
    both (nat_le (n % 65536) most_row) (both (nat_le (n / 65536 % 65536) most_row) (both (nat_le (n / 4294967296 % 65536) most_row) (nat_le (n / 4294967296 / 65536) most_row)))

-- the spot of a glyph: its rows' numbers added up, cut to 64 bits, and eight bits from the middle of the product of the sum's halves
abbrev pub spots : ℕ
spots = 256

unfoldable pub twice_with : ℕ → ℕ → ℕ
twice_with a b = ((a + b) % 2 ^ 64 + b) % 2 ^ 64

unfoldable pub mixed_spot : ℕ → ℕ
mixed_spot n = n % 4294967296 * (n / 4294967296) / 1073741824 % spots

unfoldable pub sum_of : List ℕ → ℕ
sum_of glyph =
    (twice_with (twice_with (twice_with (four_at glyph 0) (four_at glyph 4)) (twice_with (four_at glyph 8) (four_at glyph 12)))
    (twice_with (four_at glyph 8) (four_at glyph 12)) + two_at glyph 16) % 2 ^ 64

abbrev pub spot_of : List ℕ → ℕ
spot_of glyph = mixed_spot (sum_of glyph)

-- one more than the last number below n that passes the test, or 0 where none does
unfoldable pub last_of : ℕ → (ℕ → Bool) → ℕ
last_of zero test = 0
last_of (suc n) test = pick (test n) (suc n) (last_of n test)

-- the rows of cell c's pattern: those of the first glyph that has it
abbrev pub pattern : List (List ℕ) → List ℕ → ℕ → List ℕ
pattern drawn firsts c = slice_index_or drawn (slice_index firsts c) []

-- the last pattern of a spot, among the first n, by its cell and one: 0 where there is none
abbrev pub last_at : List (List ℕ) → List ℕ → ℕ → ℕ → ℕ
last_at drawn firsts n spot = last_of n (λ c. nat_eq (spot_of (pattern drawn firsts c)) spot)

-- what is true of the patterns met: where they are, and how they are chained
pub record Kept (drawn : List (List ℕ)) (firsts nexts heads : List ℕ) (used : ℕ) : Type 0 where
  pub few : used ≤ font_cells
  pub there : (c : ℕ) → c < used → slice_index firsts c < length drawn
  pub next : (c : ℕ) → c < used → slice_index nexts c ≡ last_at drawn firsts c (spot_of (pattern drawn firsts c))
  pub last : (spot : ℕ) → spot < spots → slice_index heads spot ≡ last_at drawn firsts used spot

-- a walk along the chain of a glyph's spot: it has come to `next`, and no pattern passed has the glyph's rows
pub record Walk (drawn : List (List ℕ)) (firsts : List ℕ) (used : ℕ) (glyph : List ℕ) (next : ℕ) : Type 0 where
  pub bound : ℕ
  pub within_used : bound ≤ used
  pub stands : next ≡ last_at drawn firsts bound (spot_of glyph)
  pub passed : (c : ℕ) → bound ≤ c → c < used → same_rows (pattern drawn firsts c) glyph ≡ false

-- what comes of it: the cell of a pattern that has the glyph's rows, or that none has
abbrev pub Found : List (List ℕ) → List ℕ → ℕ → List ℕ → Option ℕ → Type 0
Found drawn firsts used glyph None = (c : ℕ) → c < used → same_rows (pattern drawn firsts c) glyph ≡ false
Found drawn firsts used glyph (Some c) = (c < used) × (same_rows (pattern drawn firsts c) glyph ≡ true)

-- what `add` asks, and what it does
pub record ToAdd (drawn : List (List ℕ)) (used g spot : ℕ) : Type 0 where
  pub few : used < font_cells
  pub there : g < length drawn
  pub low : g < most_glyphs
  pub at : spot ≡ spot_of (slice_index_or drawn g [])

pub record Added (drawn : List (List ℕ)) (firsts : List ℕ) (used g : ℕ) (drawn' : List (List ℕ)) (firsts' : List ℕ) (used' cell : ℕ) : Type 0 where
  pub same : drawn' ≡ drawn
  pub first : firsts' ≡ slice_set firsts used g
  pub one : used' ≡ used + 1
  pub here : cell ≡ used

-- what `number` asks: whole glyphs, and no pattern met
pub record ToNumber (glyphs : List ℕ) (drawn : List (List ℕ)) (used : ℕ) : Type 0 where
  pub whole : all_whole glyphs ≡ true
  pub chunks : drawn ≡ first_chunks rows_of_cell (glyphs_in glyphs) glyphs
  pub none : used ≡ 0

-- what it leaves: the first glyph of each cell, and the cell of each glyph
pub record AllNumbered (glyphs : List ℕ) (drawn : List (List ℕ)) (firsts : List ℕ) (used : ℕ) (numbers : List ℕ) : Type 0 where
  pub are : are_glyphs glyphs ≡ true
  pub chunks : drawn ≡ first_chunks rows_of_cell (glyphs_in glyphs) glyphs
  pub all : used ≡ patterns_in glyphs
  pub few : used ≤ font_cells
  pub first : (c : ℕ) → c < used → slice_index firsts c ≡ first_in glyphs c
  pub cell : (g : ℕ) → g < glyphs_in glyphs → slice_index numbers g ≡ cell_for glyphs g

-- unless there are too many patterns, or a row is too wide
abbrev pub Numbered : List ℕ → List (List ℕ) → List ℕ → ℕ → List ℕ → Result Unit PackError → Type 0
Numbered glyphs drawn firsts used numbers (Ok _) = AllNumbered glyphs drawn firsts used numbers
Numbered glyphs drawn firsts used numbers (Err TooManyPatterns) = (are_glyphs glyphs ≡ true) × (font_cells < patterns_in glyphs)
Numbered glyphs drawn firsts used numbers (Err NotGlyphs) = are_glyphs glyphs ≡ false
Numbered glyphs drawn firsts used numbers (Err NoRoom) = ⊥

-- of glyphs with too many patterns
abbrev pub over_of : List ℕ → PackError
over_of glyphs = pick (within most_row glyphs) TooManyPatterns NotGlyphs

-- the patterns' rows in the font, and 0 behind them
pub record Laid (drawn : List (List ℕ)) (firsts : List ℕ) (used : ℕ) (before after : List ℕ) : Type 0 where
  pub size : length after ≡ length before
  pub rows : (c l : ℕ) → c < used → l < rows_of_cell → slice_index after (rows_of_cell * c + l) ≡ slice_index (pattern drawn firsts c) l
  pub rest : (k : ℕ) → rows_of_cell * used ≤ k → k < font_rows → slice_index after k ≡ 0
  pub right : drop font_rows after ≡ drop font_rows before
