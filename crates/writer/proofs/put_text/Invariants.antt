-- `writer::put_text`. The lines of the records so far stand at the front of the text.
-- Assumes nothing.
use Rattle.std.proofs.Common.{◌*◌}
use Rattle.writer.proofs.Spelling.{Lined}
use Rattle.writer.proofs.put_text.Given as goal

abbrev pub invariant-loop-place : goal.invariant-loop-place
invariant-loop-place l = Lined l.font l.initial.text (2 * l.place) l.text
