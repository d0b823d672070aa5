-- `packer::same` meets its contract: the rows before 4 l agree, and where four rows differ the glyphs do.
-- Assumes nothing.
use Rattle.std.proofs.Common.{◌*◌}
use Rattle.packer.proofs.Words.{Rows}
use Rattle.packer.proofs.same.Given as goal

abbrev pub invariant-loop-l : goal.invariant-loop-l
invariant-loop-l l = Rows l.one l.other (4 * l.l)
