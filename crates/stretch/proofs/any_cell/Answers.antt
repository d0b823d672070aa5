-- `stretch::any_cell`: a column laid is a column more.
-- Assumes nothing.
use Rattle.stretch.specs.Stretch.{column_byte}
use Rattle.stretch.proofs.Dots.{columns_none, column_more}
use Rattle.stretch.proofs.any_cell.Goals as goal

pub loop-column-init : goal.loop-column-init
loop-column-init c =
    let a = c.args in
    columns_none a.from a.size (column_byte a.row a.ink) a.out.now

pub loop-column-preserved : goal.loop-column-preserved
loop-column-preserved c =
    let a = c.args in
    let l = c.loop-column in
    column_more a.from a.size (column_byte a.row a.ink) l.column _ _ _ _ l.invariant c.tone-byte.ensures c.cut_column.ensures
