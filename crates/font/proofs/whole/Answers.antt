-- `font::whole`: each return by the tests that led to it.
-- Assumes nothing.
use Rattle.std.proofs.Common.{◌≡◌, true, false, eqb, length, arith, eq-eqb, ne_eqb}
use Rattle.font.specs.Font.{font_rows, most_row}
use Rattle.font.specs.Whole.{answer_of}
use Rattle.laws.specs.Within.{within, first_row_above}
use Rattle.laws.specs.Said.{refused}
use Rattle.laws.proofs.Said.{said_by}
use Rattle.font.proofs.Each.{none_above, one_above}
use Rattle.font.proofs.whole.Goals as goal

pub returns-then-rows-ne-FONT_ROWS : goal.returns-then-rows-ne-FONT_ROWS
unfolding answer_of
returns-then-rows-ne-FONT_ROWS c =
    let rows : eqb (length c.args.rows.now) font_rows ≡ false = omega (arith, ne_eqb) in
    simp rows

pub overflow_cast-result : goal.overflow_cast-result
overflow_cast-result c = omega (arith, (one_above _ _ _ c.in-Some.ensures).below)

pub returns-in-None : goal.returns-in-None
unfolding answer_of
returns-in-None c =
    let rows : eqb (length c.args.rows.now) font_rows ≡ true = omega (arith, eq-eqb) in
    let narrow : within most_row c.args.rows.now ≡ true = none_above _ _ c.in-None.ensures in
    simp (rows, narrow)

pub returns-in-Some : goal.returns-in-Some
unfolding answer_of
returns-in-Some c =
    let rows : eqb (length c.args.rows.now) font_rows ≡ true = omega (arith, eq-eqb) in
    let above = one_above _ _ _ c.in-Some.ensures in
    let told : refused 18 (first_row_above most_row c.args.rows.now) ≡ answer_of c.args.rows.now = simp (rows, above.some) in
    said_by told (omega arith) (omega (arith, above.first)) (omega arith)
