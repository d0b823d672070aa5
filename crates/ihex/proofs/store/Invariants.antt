-- `ihex::store` meets its contract: it is known of the part passed whether none was given, and it holds the bytes.
-- Assumes nothing.
use Rattle.ihex.proofs.Steps.{Storing}
use Rattle.ihex.proofs.store.Given as goal

abbrev pub invariant-loop-i : goal.invariant-loop-i
invariant-loop-i l = Storing l.given l.initial.part l.i l.part l.fresh
