-- `writer::write`: each return by the tests that led to it.
-- Assumes nothing.
use Rattle.std.proofs.Common.{rules, ◌≡◌, true, false, eqb, ltb, length, ◌∙◌, arith, le-ltb, lt-ltb}
use Rattle.std.proofs.lemmas.Result.{err_from_is_err_and}
use Rattle.laws.specs.Within.{within}
use Rattle.font.specs.Font.{font_rows, most_row, is_font}
use Rattle.font.proofs.Refused.{whole_rows, whole_within, whole_refused}
use Rattle.image.specs.Image.{image_of}
use Rattle.writer.specs.Text.{text_bytes}
use Rattle.writer.specs.Writing.{answer_of, left_of}
use Rattle.writer.proofs.Spelling.{refused_left, text_stored}
use Rattle.writer.proofs.write.Goals as goal

pub returns-in_err-whole : goal.returns-in_err-whole
unfolding answer_of
returns-in_err-whole c =
    let a = c.args in
    let p = err_from_is_err_and c.from_residual.result c.from_residual.ensures.1 in
    let told = whole_refused a.font.now _ _ c.in_err-whole.ensures in
    rw (p.1, p.2) (told, refused_left a.font.now _ _ c.in_err-whole.ensures)

pub returns-then-text-lt-TEXT_BYTES : goal.returns-then-text-lt-TEXT_BYTES
unfolding answer_of left_of
returns-then-text-lt-TEXT_BYTES c =
    let a = c.args in
    let rows : eqb (length a.font.now) font_rows ≡ true = search (rules, whole_rows) in
    let narrow : within most_row a.font.now ≡ true = search (rules, whole_within) in
    let room : ltb (length a.text.now) text_bytes ≡ true = omega (arith, lt-ltb) in
    (simp (rows, narrow, room), simp (rows, narrow, room))

pub put_text-requires : goal.put_text-requires
unfolding is_font
put_text-requires c =
    let a = c.args in
    let rows : eqb (length a.font.now) font_rows ≡ true = search (rules, whole_rows) in
    let narrow : within most_row a.font.now ≡ true = search (rules, whole_within) in
    record { font_is = simp (rows, narrow); room = omega arith }

pub returns : goal.returns
unfolding answer_of left_of
returns c =
    let a = c.args in
    let rows : eqb (length a.font.now) font_rows ≡ true = search (rules, whole_rows) in
    let narrow : within most_row a.font.now ≡ true = search (rules, whole_within) in
    let room : ltb (length a.text.now) text_bytes ≡ false = omega (arith, le-ltb) in
    let put = c.put_text.ensures in
    (simp (rows, narrow, room), put ∙ text_stored (image_of a.font.now) a.text.now (omega arith) ∙ simp (rows, narrow, room))
