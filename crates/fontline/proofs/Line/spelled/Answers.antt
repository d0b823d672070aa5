-- `fontline::Line` is spelled as the line of the account: the words and the digits in their order.
-- Assumes nothing.
use Rattle.std.proofs.Common.{sym, ap, arith, append_assoc}
use Rattle.laws.proofs.Said.{said_by}
use Rattle.fontline.proofs.Printed.{count_printed, refusal_printed}
use Rattle.fontline.proofs.Checking.{some_number}
use Rattle.fontline.specs.Lines.{said}
use Rattle.fontline.proofs.Line.spelled.Goals as goal
use Rattle.fontline.proofs.Line.spelled.Goals.{in-Ok, in-Err}

pub returns : goal.returns
returns c = elim c.match-self.branch [
  | in-Ok w ↦ rw (c.push_str-2.ensures.bytes, w.text-is, w.push_str-in-Ok.ensures.bytes, w.format.ensures.text, w.push_str.ensures.bytes, c.new-text.ensures)
      (count_printed _ (omega arith) (said_by (sym (ap said w.in-Ok.is)) (omega arith) (omega arith) (omega arith)))
  | in-Err w ↦ rw (
    c.push_str-2.ensures.bytes,
    w.text-is,
    w.push_str-in-Err-4.ensures.bytes,
    w.format-in-Err-2.ensures.text,
    w.push_str-in-Err-3.ensures.bytes,
    w.push_str-in-Err-2.ensures.bytes,
    w.format-in-Err.ensures.text,
    w.push_str-in-Err.ensures.bytes,
    c.new-text.ensures,
    append_assoc,
    append_assoc,
  )
      (refusal_printed _ _ (omega (arith, some_number w.in-Err.refusal)) (omega arith) (omega arith)
      (said_by (sym (ap said w.in-Err.is)) (omega arith) (omega arith) (omega arith)))
]
