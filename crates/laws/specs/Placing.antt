-- Where a cell stands, for any width and height of a cell at size 1: a display family fills in its own numbers.
-- Assumes nothing.
use Rattle.std.specs.Prelude.{ℕ, ◌+◌, ◌-◌, ◌*◌, Bool, leb, ltb}
use Rattle.laws.specs.Pick.{pick, both}

-- a row of this size, from line y down, has the line
abbrev pub row_has : ℕ → ℕ → ℕ → ℕ → Bool
row_has height y size line = both (leb y line) (ltb line (y + height * size))

-- n places from x on, dots or lines or columns, have place k
abbrev pub span_has : ℕ → ℕ → ℕ → Bool
span_has x n k = both (leb x k) (ltb k (x + n))

-- the cell of this size at dot x and line y has dot k of the line
unfoldable pub cell_has : ℕ → ℕ → ℕ → ℕ → ℕ → ℕ → ℕ → Bool
cell_has width height x y size line k = both (row_has height y size line) (span_has x (width * size) k)

-- dot k where n dots from x on were painted, each by its place among them; `old` is what it was
unfoldable pub patched : ℕ → ℕ → (ℕ → ℕ) → ℕ → ℕ → ℕ
patched x n shows k old = pick (span_has x n k) (shows (k - x)) old
