-- `display::Painter::draw`: a character's row and a space's, stretched over their dots, are what their cells show; the other kinds have no cell, and end the row.
-- Assumes nothing.
use Rattle.std.proofs.Common.{arith}
use mathlib.Core.Logic.{⊎_elim}
use Rattle.display.specs.Steps.{pen_at}
use Rattle.display.proofs.Sound.{character_sound, own_sound}
use Rattle.display.proofs.Stretched.{row_within}
use Rattle.display.proofs.Turns.{drawn_character, drawn_space, drawn_return, drawn_end}
use Rattle.display.proofs.Painter.draw.Goals as goal

pub row_shown-row-requires : goal.row_shown-row-requires
row_shown-row-requires c =
    let pre = c.requires in
    let told = c.in-Character.is in
    let row = c.cut_row-l.ensures in
    ((character_sound _ _ _ _ told pre.sound).1, omega (arith, row, row_within _ _ pre.cut))

pub overflow_add-colour : goal.overflow_add-colour
overflow_add-colour c =
    let pre = c.requires in
    let told = c.in-Character.is in
    omega (arith, (character_sound _ _ _ _ told pre.sound).0)

pub returns-in-Character : goal.returns-in-Character
returns-in-Character c =
    let a = c.args in
    let pre = c.requires in
    let told = c.in-Character.is in
    let row = c.cut_row-l.ensures in
    let shown = c.row_shown-row.ensures in
    let laid = c.lay.ensures in
    drawn_character a.self.font.now a.self.view (pen_at a.cell a.background) a.thrown a.out.now _ pre.cut pre.some _ _ _ _ _ a.cell.kind told pre.colour row shown laid

pub returns-in-Space : goal.returns-in-Space
returns-in-Space c =
    let a = c.args in
    let pre = c.requires in
    let told = c.in-Space.is in
    let empty = c.blank.ensures in
    let laid = c.lay-in-Space.ensures in
    drawn_space a.self.font.now a.self.view (pen_at a.cell a.background) a.thrown a.out.now _ pre.cut pre.some _ _ a.cell.kind told (own_sound _ _ told pre.sound) empty laid

pub returns-in-Return : goal.returns-in-Return
returns-in-Return c =
    let a = c.args in
    let pre = c.requires in
    let ended = c.end_row.ensures in
    ⊎_elim
    (λ r. drawn_return a.self.font.now a.self.view (pen_at a.cell a.background) a.thrown a.out.now _ pre.cut pre.some _ _ a.cell.kind r.2 ended)
    (λ e. drawn_end a.self.font.now a.self.view (pen_at a.cell a.background) a.thrown a.out.now _ pre.cut pre.some a.cell.kind e ended)
    c.in-Return.is
