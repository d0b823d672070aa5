-- `stretch::stretch`: beyond the line's end there are no dots.
-- Assumes nothing.
use Rattle.std.proofs.Common.{ℕ, ◌*◌, ◌/◌, arith}
use Rattle.font.specs.Font.{cell_columns}
use Rattle.stretch.specs.Stretch.{column_byte}
use Rattle.stretch.proofs.Dots.{patch_none, patch_cut}
use Rattle.stretch.proofs.stretch.Goals as goal

pub returns-then-out-from : goal.returns-then-out-from
returns-then-out-from c =
    let a = c.args in
    let shows : ℕ → ℕ = λ d. column_byte a.row a.ink (d / a.size) in
    patch_cut a.x.0 0 (cell_columns * a.size) shows a.out.now _ (omega arith) (patch_none a.x.0 shows a.out.now)
