-- `writer::put_text`. The lines of the records so far stand at the front of the text; the end record's line follows.
-- Assumes nothing.
use Rattle.std.proofs.Common.{◌≡◌, ◌+◌, ◌-◌, ◌*◌, take, drop, length, ap, ◌∙◌, arith}
use lib.Seq.{sets}
use Rattle.image.specs.Image.{image_of}
use Rattle.writer.proofs.Places.{front_bytes, back_bytes}
use Rattle.writer.proofs.Spelling.{data_line, line_back, lined_none, lined_more, lined_all, lent_back, end_put, end_length}
use Rattle.writer.proofs.put_text.Goals as goal

pub loop-place-init : goal.loop-place-init
loop-place-init c = lined_none _ _

pub loop-place-preserved : goal.loop-place-preserved
loop-place-preserved c =
    let image = image_of c.args.font.now in
    let l = c.loop-place in
    let front = data_line image (2 * l.place) _ _ _ c.put_record.ensures (omega arith) (c.split_at.ensures.front ∙ ap (take 16) c.bytes_at-bytes.ensures ∙ front_bytes image l.place) in
    let back = data_line image (2 * l.place + 1) _ _ _ c.put_record-in-loop-place.ensures (omega arith) (c.split_at.ensures.back ∙ ap (drop 16) c.bytes_at-bytes.ensures ∙ back_bytes image l.place) in
    let one = lined_more l.invariant (line_back image (2 * l.place) (88 * l.place) (88 * l.place + 44 - 88 * l.place) l.text _ front (omega arith) (omega arith) (omega arith)) (omega arith) in
    let two = lined_more one (line_back image (2 * l.place + 1) (88 * l.place + 44) (88 * l.place + 88 - (88 * l.place + 44)) _ _ back (omega arith) (omega arith) (omega (arith, one.size))) (omega arith) in
    let two_on : 2 * (l.place + 1) ≡ 2 * l.place + 1 + 1 = omega arith in
    rw two_on two

pub returns : goal.returns
returns c =
    let l = c.loop-place in
    let line = end_put _ c.put_record-2.ensures in
    lined_all l.invariant (omega arith) (lent_back l.text _ 22528 12 (omega (arith, ap length line, end_length)) (omega arith) ∙ ap (sets l.text 22528) line)
