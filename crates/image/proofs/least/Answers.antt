-- `image::least` meets its contract: the tests in the order of the definition decide it, one answer for each way.
-- Assumes nothing.
use Rattle.std.proofs.Common.{sym, ◌∙◌, arith}
use Rattle.std.proofs.lemmas.Bool.{leb-true, leb-false}
use Rattle.image.proofs.Spared.{low_row, high_row, no_row, no_cell}
use Rattle.image.proofs.least.Goals as goal
use Rattle.image.proofs.least.Goals.{then-address-ge-FONT_CELLS, else-address-ge-FONT_CELLS}

pub returns-then-address-ge-CELL_ROWS : goal.returns-then-address-ge-CELL_ROWS
returns-then-address-ge-CELL_ROWS c =
    let a = c.args.address in
    elim c.if-address-ge-FONT_CELLS.branch [
      | then-address-ge-FONT_CELLS w ↦ omega (arith, no_cell a (omega arith))
      | else-address-ge-FONT_CELLS w ↦ omega (arith, no_row a (omega arith) (leb-true _ _ (sym w.value-is ∙ c.if-address-ge-CELL_ROWS.true)))
    ]

pub returns-then-address-lt-HALF_BYTES : goal.returns-then-address-lt-HALF_BYTES
returns-then-address-lt-HALF_BYTES c =
    let a = c.args.address in
    elim c.if-address-ge-FONT_CELLS.branch [
      | then-address-ge-FONT_CELLS w ↦ absurd (omega (arith, leb-false _ _ (sym w.value-is ∙ c.if-address-ge-CELL_ROWS.false)))
      | else-address-ge-FONT_CELLS w ↦ omega (arith, low_row a (omega arith) (leb-false _ _ (sym w.value-is ∙ c.if-address-ge-CELL_ROWS.false)) (omega arith))
    ]

pub returns-else-address-lt-HALF_BYTES : goal.returns-else-address-lt-HALF_BYTES
returns-else-address-lt-HALF_BYTES c =
    let a = c.args.address in
    elim c.if-address-ge-FONT_CELLS.branch [
      | then-address-ge-FONT_CELLS w ↦ absurd (omega (arith, leb-false _ _ (sym w.value-is ∙ c.if-address-ge-CELL_ROWS.false)))
      | else-address-ge-FONT_CELLS w ↦ omega (arith, high_row a (omega arith) (leb-false _ _ (sym w.value-is ∙ c.if-address-ge-CELL_ROWS.false)) (omega arith))
    ]
