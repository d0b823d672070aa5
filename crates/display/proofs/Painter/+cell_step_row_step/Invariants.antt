-- `display::Painter::row_step` and `cell_step`, by the number of words left, counted twice and once more for a row. Each has a loop. The row step's invariant: to paint the words
-- that are left, from a row's start on, is to paint them all, as those before stand in rows above the line. The cell step's: to paint the cells that are left of the row that
-- the line cuts, with what the last one throws, over what is there, is to paint the row. Each need is a law of Turns over the code's own values: nothing here counts steps.
-- Assumes nothing.
use Rattle.std.proofs.Common.{length, ◌+◌}
use Rattle.display.specs.Cells.{row_pen}
use Rattle.display.proofs.Turns.{Going, Passing}
use Rattle.display.proofs.Painter.+cell_step_row_step.Given as goal

abbrev pub decreases-cell_step : goal.decreases-cell_step
decreases-cell_step l = length l.words.now + length l.words.now

abbrev pub decreases-row_step : goal.decreases-row_step
decreases-row_step l = length l.words.now + length l.words.now + 1

abbrev pub invariant-cell_step-loop-i : goal.invariant-cell_step-loop-i
invariant-cell_step-loop-i l = Going l.words l.self.font.now l.self.view l.initial.out l.initial.pen l.out l.pen l.thrown l.i

abbrev pub invariant-row_step-loop-i : goal.invariant-row_step-loop-i
invariant-row_step-loop-i l =
    Passing l.words l.self.font.now l.self.view l.initial.out (row_pen l.self.view.left (record { 0 = l.initial.y }) l.initial.size l.initial.back) l.out l.y l.size l.back l.i
