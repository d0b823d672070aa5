-- `ihex::Reader::bad_line` meets its contract: the invariant is that each character passed is in its place, and so no end (`Searched`), and the first that is not decides.
-- Assumes nothing.
use Rattle.ihex.proofs.Bad.{Searched}
use Rattle.ihex.proofs.Reader.bad_line.Given as goal

abbrev pub invariant-loop-k : goal.invariant-loop-k
invariant-loop-k l = Searched l.self.text.now l.at l.k
