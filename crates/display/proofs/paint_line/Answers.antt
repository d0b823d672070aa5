-- `display::paint_line`: a line of outside bytes, painted over by the cells, is the line of the account.
-- Assumes nothing.
use native.Mathlib.Omega.{arith}
use Rattle.display.proofs.Whole.{on_line}
use lib.ListN.{length}
use Rattle.display.proofs.paint_line.Goals as goal

pub row_step-requires : goal.row_step-requires
row_step-requires c =
    let pre = c.requires in
    record { start = omega arith; right = omega arith; down = omega arith; some = omega arith; size = omega arith; colour = omega arith }

pub returns : goal.returns
returns c =
    let walked = c.row_step.ensures in
    let filled = c.fill.ensures in
    let other = c.ground.ensures in
    let blink = c.lit-lit.ensures in
    let usable = c.requires in
    let a = c.args in
    on_line a.words.now a.font.now a.settings a.frame a.line _ (length a.out.now) _ _ _ usable blink other filled walked
