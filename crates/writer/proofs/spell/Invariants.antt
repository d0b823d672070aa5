-- `writer::spell`. The bytes so far are spelled.
-- Assumes nothing.
use Rattle.std.proofs.Common.{◌≡◌, get_or}
use lib.Seq.{sets}
use Rattle.laws.specs.Lists.{tabulate}
use Rattle.writer.specs.Text.{bytes_text}
use Rattle.writer.proofs.spell.Given as goal

abbrev pub invariant-loop-i : goal.invariant-loop-i
invariant-loop-i l = l.text ≡ sets l.initial.text 0 (bytes_text (tabulate l.i (λ k. get_or l.bytes k 0)))
