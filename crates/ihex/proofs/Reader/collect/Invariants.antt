-- `ihex::Reader::collect` meets its contract: how far the reading has come (`Passed`) is the invariant, and each answer is the verdict at the line met; the measure is what is left of the text.
-- Assumes nothing.
use Rattle.std.proofs.Common.{◌-◌, length}
use Rattle.ihex.proofs.Passed.{Passed}
use Rattle.ihex.proofs.Reader.collect.Given as goal

abbrev pub invariant-loop-at : goal.invariant-loop-at
invariant-loop-at l = Passed l.self.text.now l.at l.count l.scratch

abbrev pub decreases-loop-at : goal.decreases-loop-at
decreases-loop-at l = length l.self.text.now - l.at
