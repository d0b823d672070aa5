-- `font::first_above`: the bits of all settle it, or the search does.
-- Assumes nothing.
use Rattle.std.proofs.Common.{rules}
use Rattle.font.proofs.Each.{found_above}
use Rattle.font.proofs.first_above.Goals as goal

pub returns : goal.returns
returns c = found_above _ _ _ (search rules)
