-- `packer::number` meets its contract: the table holds for the glyphs before g.
-- Assumes nothing.
use Rattle.packer.proofs.Table.{Table}
use Rattle.packer.proofs.number.Given as goal

abbrev pub invariant-loop-g : goal.invariant-loop-g
invariant-loop-g l = Table l.glyphs l.patterns.glyphs.now l.g l.patterns.used l.patterns.firsts l.numbers
