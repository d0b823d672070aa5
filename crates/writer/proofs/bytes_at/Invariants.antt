-- `writer::bytes_at`. The bytes of the rows so far are due; those after them hold none.
-- Assumes nothing.
use Rattle.std.proofs.Common.{◌+◌, ◌*◌, replicate}
use Rattle.laws.proofs.Lists.{Filled}
use Rattle.image.specs.Image.{due_at}
use Rattle.writer.proofs.bytes_at.Given as goal

abbrev pub invariant-loop-i : goal.invariant-loop-i
invariant-loop-i l = Filled (λ k. due_at l.font (32 * l.place + k)) l.i l.bytes (replicate 32 255)
