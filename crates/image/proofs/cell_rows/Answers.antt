-- `image::cell_rows` meets its contract: each row made is the image's.
-- Assumes nothing.
use Rattle.std.proofs.Common.{rules}
use Rattle.laws.proofs.Lists.{is_tabulate}
use Rattle.image.proofs.cell_rows.Goals as goal

pub returns : goal.returns
returns c = is_tabulate 0 18 _ c.from_fn.result c.from_fn.ensures.items.long (λ k h. let made = c.from_fn.ensures.items.at k 0 h in search rules)
