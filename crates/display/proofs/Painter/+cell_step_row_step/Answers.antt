-- Each need of the two steps is a law of Turns over the code's own values (Invariants.antt).
-- Assumes nothing.
use Rattle.std.proofs.Common.{length, arith, ap, ◌∙◌}
use Rattle.laws.proofs.Overlay.{overlay_length}
use Rattle.display.specs.declared.Placed.{Placed}
use Rattle.display.proofs.Turns.{falls_to_row, falls_to_cell, going_none, right_asks, draw_asks, return_asks, gone_over, gone_end, gone_return, goes_space, goes_character, passing_none, cut_asks, passed_to, pass_under, pass_over, pass_end, pass_return, pass_space, pass_character}
use Rattle.display.proofs.Sound.{sound, return_sound}
use Rattle.display.proofs.Painter.+cell_step_row_step.Goals as goal
use Rattle.display.proofs.Painter.+cell_step_row_step.Goals.{cell_step-in-Space, cell_step-in-Character, row_step-in-Return, row_step-in-Space, row_step-in-Character}

pub cell_step-loop-i-init : goal.cell_step-loop-i-init
cell_step-loop-i-init t c =
    let a = c.args in
    let pre = c.requires in
    going_none a.words.now a.self.font.now a.self.view a.out.now a.start pre

pub cell_step-draw-thrown-requires : goal.cell_step-draw-thrown-requires
cell_step-draw-thrown-requires t c =
    let a = c.args in
    let l = c.loop-i in
    let is = c.place-cell.ensures.0 in
    let sound = c.place-cell.ensures.1 in
    draw_asks a.words.now a.self.font.now a.self.view a.out.now a.start l.out l.pen l.thrown l.i l.invariant _ _ is sound

pub cell_step-returns-in-End : goal.cell_step-returns-in-End
cell_step-returns-in-End t c =
    let a = c.args in
    let l = c.loop-i in
    let is = c.place-cell.ensures.0 in
    let drawn = c.draw-thrown.ensures in
    let told = c.in-End.is in
    gone_end a.words.now a.self.font.now a.self.view a.out.now a.start l.out l.pen l.thrown l.i l.invariant _ (omega arith) is _ drawn.1 told

pub cell_step-below-y-requires : goal.cell_step-below-y-requires
cell_step-below-y-requires t c =
    let l = c.loop-i in
    let is = c.place-cell.ensures.0 in
    let sound = c.place-cell.ensures.1 in
    let told = c.in-Return.is in
    let s = return_sound _ _ _ told sound in
    let ey = ap (λ (q : Placed). q.y.0) is in
    let ez = ap (λ (q : Placed). q.size) is in
    let room = l.invariant.room in
    omega arith

pub cell_step-row_step-requires : goal.cell_step-row_step-requires
cell_step-row_step-requires t c =
    let a = c.args in
    let l = c.loop-i in
    let is = c.place-cell.ensures.0 in
    let sound = c.place-cell.ensures.1 in
    let drawn = c.draw-thrown.ensures in
    let told = c.in-Return.is in
    let below = c.below-y.ensures in
    (falls_to_row a.words.now t l.i c.decreases (omega arith), return_asks a.words.now a.self.font.now a.self.view a.out.now a.start l.out l.pen l.thrown l.i l.invariant _ (omega arith) is _ drawn.1 _ _ _ told sound below)

pub cell_step-returns-in-Return : goal.cell_step-returns-in-Return
cell_step-returns-in-Return t c =
    let a = c.args in
    let l = c.loop-i in
    let is = c.place-cell.ensures.0 in
    let drawn = c.draw-thrown.ensures in
    let told = c.in-Return.is in
    let below = c.below-y.ensures in
    let walked = c.row_step.ensures in
    gone_return a.words.now a.self.font.now a.self.view a.out.now a.start l.out l.pen l.thrown l.i l.invariant _ (omega arith) is _ drawn.1 _ _ _ _ told below walked

pub cell_step-right-pen-requires : goal.cell_step-right-pen-requires
cell_step-right-pen-requires t c =
    let a = c.args in
    let l = c.loop-i in
    right_asks a.words.now a.self.font.now a.self.view a.out.now a.start l.out l.pen l.thrown l.i l.invariant (omega arith)

pub cell_step-right-pen-requires-in-Character : goal.cell_step-right-pen-requires-in-Character
cell_step-right-pen-requires-in-Character t c =
    let a = c.args in
    let l = c.loop-i in
    right_asks a.words.now a.self.font.now a.self.view a.out.now a.start l.out l.pen l.thrown l.i l.invariant (omega arith)

pub cell_step-loop-i-preserved : goal.cell_step-loop-i-preserved
cell_step-loop-i-preserved t c =
    let a = c.args in
    let l = c.loop-i in
    let is = c.place-cell.ensures.0 in
    let sound = c.place-cell.ensures.1 in
    let drawn = c.draw-thrown.ensures in
    elim c.match-cell.branch [
      | cell_step-in-Space w ↦
          goes_space a.words.now a.self.font.now a.self.view a.out.now a.start l.out l.pen l.thrown l.i l.invariant _ (omega arith) is _ drawn.1 _ _ drawn.0 sound _ w.in-Space.is (w.pen-is ∙ w.right-pen.ensures)
      | cell_step-in-Character w ↦
          goes_character a.words.now a.self.font.now a.self.view a.out.now a.start l.out l.pen l.thrown l.i l.invariant _ (omega arith) is _ drawn.1 _ _ drawn.0 sound _ _ _ w.in-Character.is (w.pen-is ∙ w.right-pen-in-Character.ensures)
    ]

pub cell_step-end_row-requires : goal.cell_step-end_row-requires
cell_step-end_row-requires t c =
    let l = c.loop-i in
    l.invariant.room.size

pub cell_step-returns : goal.cell_step-returns
cell_step-returns t c =
    let a = c.args in
    let l = c.loop-i in
    let ended = c.end_row.ensures in
    gone_over a.words.now a.self.font.now a.self.view a.out.now a.start l.out l.pen l.thrown l.i l.invariant _ (omega arith) ended

pub row_step-loop-i-init : goal.row_step-loop-i-init
row_step-loop-i-init t c =
    let a = c.args in
    let pre = c.requires in
    passing_none a.words.now a.self.font.now a.self.view a.out.now a.top a.height a.background pre

pub row_step-overflow_mul-end : goal.row_step-overflow_mul-end
row_step-overflow_mul-end t c =
    let l = c.loop-i in
    let room = l.invariant.room in
    omega arith

pub row_step-overflow_add-end : goal.row_step-overflow_add-end
row_step-overflow_add-end t c =
    let l = c.loop-i in
    let room = l.invariant.room in
    omega arith

pub row_step-shape_of-out-then-line-y : goal.row_step-shape_of-out-then-line-y
row_step-shape_of-out-then-line-y t c =
    let l = c.loop-i in
    ap length l.invariant.same

pub row_step-returns-then-line-y : goal.row_step-returns-then-line-y
row_step-returns-then-line-y t c =
    let a = c.args in
    let l = c.loop-i in
    pass_under a.words.now a.self.font.now a.self.view a.out.now _ l.out l.y l.size l.back l.i l.invariant (omega arith)

pub row_step-cell_step-requires : goal.row_step-cell_step-requires
row_step-cell_step-requires t c =
    let a = c.args in
    let l = c.loop-i in
    (falls_to_cell a.words.now t l.i c.decreases, cut_asks a.words.now a.self.font.now a.self.view a.out.now _ l.out l.y l.size l.back l.i l.invariant (omega arith) (omega arith))

pub row_step-shape_of-out-then-line-end : goal.row_step-shape_of-out-then-line-end
row_step-shape_of-out-then-line-end t c =
    let a = c.args in
    let l = c.loop-i in
    let done = c.cell_step.ensures in
    ap length (passed_to a.words.now a.self.font.now a.self.view a.out.now _ l.out l.y l.size l.back l.i l.invariant _ done) ∙ overlay_length _ 0 a.out.now

pub row_step-returns-then-line-end : goal.row_step-returns-then-line-end
row_step-returns-then-line-end t c =
    let a = c.args in
    let l = c.loop-i in
    let done = c.cell_step.ensures in
    passed_to a.words.now a.self.font.now a.self.view a.out.now _ l.out l.y l.size l.back l.i l.invariant _ done

pub row_step-shape_of-out-in-End : goal.row_step-shape_of-out-in-End
row_step-shape_of-out-in-End t c = ap length c.loop-i.invariant.same

pub row_step-returns-in-End : goal.row_step-returns-in-End
row_step-returns-in-End t c = let a = c.args in let l = c.loop-i in pass_end a.words.now a.self.font.now a.self.view a.out.now _ l.out l.y l.size l.back l.i l.invariant _ (omega arith) c.decode.ensures c.in-End.is

pub row_step-overflow_add-y : goal.row_step-overflow_add-y
row_step-overflow_add-y t c =
    let l = c.loop-i in
    let room = l.invariant.room in
    let is = c.decode.ensures in
    let told = c.in-Return.is in
    let s = return_sound _ _ _ told (sound _ _ is) in
    omega arith

pub row_step-loop-i-preserved : goal.row_step-loop-i-preserved
row_step-loop-i-preserved t c =
    let a = c.args in
    let l = c.loop-i in
    let is = c.decode.ensures in
    elim c.match-decode.branch [
      | row_step-in-Return w ↦ rw (w.y-is, w.size-is, w.back-is) (pass_return a.words.now a.self.font.now a.self.view a.out.now _ l.out l.y l.size l.back l.i l.invariant _ (omega arith) is _ _ w.in-Return.is)
      | row_step-in-Space w ↦ rw (w.y-is, w.size-is, w.back-is) (pass_space a.words.now a.self.font.now a.self.view a.out.now _ l.out l.y l.size l.back l.i l.invariant _ (omega arith) is (omega arith) _ w.in-Space.is)
      | row_step-in-Character w ↦ rw (w.y-is, w.size-is, w.back-is) (pass_character a.words.now a.self.font.now a.self.view a.out.now _ l.out l.y l.size l.back l.i l.invariant _ (omega arith) is (omega arith) _ _ _ w.in-Character.is)
    ]

pub row_step-shape_of-out : goal.row_step-shape_of-out
row_step-shape_of-out t c =
    let l = c.loop-i in
    ap length l.invariant.same

pub row_step-returns : goal.row_step-returns
row_step-returns t c =
    let a = c.args in
    let l = c.loop-i in
    pass_over a.words.now a.self.font.now a.self.view a.out.now _ l.out l.y l.size l.back l.i l.invariant (omega arith)
