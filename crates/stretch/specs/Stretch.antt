-- What a cell's row of bits is, laid over dots: the columns from the left, each as many dots wide as the size says, and a shadow on them. Where shadows fall on a screen is said
-- by `Picture` of crate display; here it is how a row of bits lays them.
-- Assumes nothing.
use Rattle.std.specs.Prelude.{ℕ, ◌-◌, ◌/◌, Bool, eqb}
use Rattle.laws.specs.Pick.{pick}
use Rattle.laws.specs.Placing.{patched}
use Rattle.font.specs.Font.{bit_set}
use Rattle.stretch.specs.declared.Row.{Row}
use Rattle.stretch.specs.declared.Ink.{Ink}

-- whether the shadow falls on a column: where the one to its left is set in the row above, and on the first where the cell before throws it there
abbrev pub shade_set : ℕ → Bool → ℕ → Bool
shade_set above before j = pick (eqb j 0) before (bit_set above (j - 1))

-- a column's byte: a set bit has no shadow on it
abbrev pub tone_of : Bool → Bool → Ink → ℕ
tone_of set shaded ink = pick set ink.on (pick shaded ink.shade ink.off)

abbrev pub column_byte : Row → Ink → ℕ → ℕ
column_byte row ink j = tone_of (bit_set row.bits j) (shade_set row.above row.before j) ink

-- dot k where n dots from x on show this row, each column `size` dots wide
abbrev pub stretched : ℕ → ℕ → ℕ → Row → Ink → ℕ → ℕ → ℕ
stretched x n size row ink k old = patched x n (λ d. column_byte row ink (d / size)) k old
