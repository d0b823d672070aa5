-- `packer::PatternTable::further` meets its contract: the walk goes down the chain, to a pattern with the glyph's rows or to the chain's end.
-- Assumes nothing.
use Rattle.packer.specs.Steps.{Walk}
use Rattle.packer.proofs.PatternTable.further.Given as goal

abbrev pub invariant-loop-next : goal.invariant-loop-next
invariant-loop-next l = Walk l.self.glyphs.now l.self.firsts l.self.used l.glyph l.next

abbrev pub decreases-loop-next : goal.decreases-loop-next
decreases-loop-next l = l.next
