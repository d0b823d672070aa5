-- `writer::sum_of`. The sum of the bytes so far.
-- Assumes nothing.
use Rattle.std.proofs.Common.{◌≡◌, ◌%◌, get_or}
use Rattle.laws.specs.Lists.{tabulate}
use Rattle.laws.specs.Sums.{sum_all}
use Rattle.writer.proofs.sum_of.Given as goal

abbrev pub invariant-loop-byte : goal.invariant-loop-byte
invariant-loop-byte l = l.sum ≡ sum_all (tabulate l.byte-index (λ k. get_or l.bytes k 0)) % 256
