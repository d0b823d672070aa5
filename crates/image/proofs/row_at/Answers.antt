-- `image::row_at` meets its contract: the sum is the definition's at the address of the cell's row.
-- Assumes nothing.
use Rattle.std.proofs.Common.{◌+◌, ◌*◌, ◌%◌, get_or, sym, ap, arith}
use Rattle.image.proofs.Turning.{row_low}
use Rattle.image.specs.Image.{row_in}
use Rattle.image.proofs.row_at.Goals as goal

pub returns : goal.returns
unfolding row_in
returns c =
    let a = c.args in
    omega (arith, c.from.ensures, c.from-2.ensures, ap (λ n. get_or a.image.now n 0 + 256 * (get_or a.image.now (4096 + n) 0 % 16)) (sym (row_low a.cell a.row (omega arith))))
