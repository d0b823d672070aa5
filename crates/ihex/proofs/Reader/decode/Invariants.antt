-- `ihex::Reader::decode` meets its contract: as long as the bits of all values are those of digits, the bytes passed are decoded and summed, and else there is no sum.
-- Assumes nothing.
use Rattle.ihex.proofs.Steps.{Spelling}
use Rattle.ihex.proofs.Reader.decode.Given as goal

abbrev pub invariant-loop-i : goal.invariant-loop-i
invariant-loop-i l = Spelling l.self.text.now l.from l.initial.bytes l.i l.bytes l.sum l.all
