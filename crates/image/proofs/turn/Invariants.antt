-- `image::turn` meets its contract: the rows of the cells passed are the image's, and in a cell the rows passed too.
-- Assumes nothing.
use Rattle.std.proofs.Common.{◌≡◌, ℕ, ◌+◌, ◌*◌, ◌<◌, length, get_or}
use Rattle.image.specs.Image.{row_in}
use Rattle.image.proofs.turn.Given as goal

abbrev pub invariant-loop-row : goal.invariant-loop-row
invariant-loop-row l = (length l.font ≡ 1116) × ((k : ℕ) → k < 18 * l.cell + l.row → get_or l.font k 0 ≡ row_in l.image k)

abbrev pub invariant-loop-cell : goal.invariant-loop-cell
invariant-loop-cell l = (length l.font ≡ 1116) × ((k : ℕ) → k < 18 * l.cell → get_or l.font k 0 ≡ row_in l.image k)
