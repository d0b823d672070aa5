-- `ihex::copy_out` meets its contract: the bytes passed are the scratch's, the others as lent.
-- Assumes nothing.
use Rattle.std.proofs.Common.{get_or}
use Rattle.ihex.specs.Steps.{byte_for}
use Rattle.laws.proofs.Lists.{Filled}
use Rattle.ihex.proofs.copy_out.Given as goal

abbrev pub invariant-loop-i : goal.invariant-loop-i
invariant-loop-i l = Filled (λ k. byte_for (get_or l.scratch k 0)) l.i l.image l.initial.image
