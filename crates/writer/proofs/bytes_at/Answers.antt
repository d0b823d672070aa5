-- `writer::bytes_at`. The bytes of the rows so far are due; those after them hold none.
-- Assumes nothing.
use Rattle.std.proofs.Common.{ℕ, ◌*◌, ◌+◌, ◌-◌, ◌<◌, ◌%◌, drop, replicate, ◌∙◌, ap, arith, length-take, length-drop}
use Rattle.laws.proofs.Lists.{filled_none, filled_more}
use Rattle.font.proofs.Each.{part_at}
use Rattle.image.proofs.Turning.{font_length, font_row_law}
use Rattle.image.specs.Image.{due_at, half_at}
use Rattle.writer.proofs.Places.{place_row, place_filled, place_none}
use Rattle.writer.proofs.bytes_at.Goals as goal

pub slice_bounds-rows-end : goal.slice_bounds-rows-end
slice_bounds-rows-end c = omega (arith, font_length c.args.font.now c.requires.font_is)

pub loop-i-init : goal.loop-i-init
loop-i-init c = filled_none (λ k. due_at c.args.font.now (32 * c.args.place + k)) (replicate 32 255)

pub half_of-requires : goal.half_of-requires
half_of-requires c =
    let font = c.args.font.now in
    let first : ℕ = 18 * (c.args.place % 128) in
    let here : c.loop-i.i < 18 = omega (arith, length-take (18 * (c.args.place % 128 + 1) - 18 * (c.args.place % 128)) (drop first font)) in
    omega (arith, part_at font first (18 * (c.args.place % 128 + 1) - 18 * (c.args.place % 128)) c.loop-i.i (omega arith), font_row_law font c.requires.font_is (first + c.loop-i.i))

pub loop-i-preserved : goal.loop-i-preserved
loop-i-preserved c =
    let font = c.args.font.now in
    let place = c.args.place in
    let first : ℕ = 18 * (place % 128) in
    let l = c.loop-i in
    let here : l.i < 18 = omega (arith, length-take (18 * (c.args.place % 128 + 1) - 18 * (c.args.place % 128)) (drop first font)) in
    filled_more (λ k. due_at font (32 * place + k)) l.i l.bytes (replicate 32 255) _ (omega arith)
    (c.half_of.ensures ∙ ap (half_at (32 * place)) (part_at font first (18 * (place % 128 + 1) - 18 * (place % 128)) l.i (omega arith)) ∙ place_row font place (omega arith) l.i (omega arith) (omega arith) here)
    l.invariant

pub returns-after-loop-i : goal.returns-after-loop-i
returns-after-loop-i c =
    let font = c.args.font.now in
    let first : ℕ = 18 * (c.args.place % 128) in
    place_filled font c.args.place (omega arith) c.loop-i.i _ (omega (arith, length-take (18 * (c.args.place % 128 + 1) - 18 * (c.args.place % 128)) (drop first font), length-drop first font, font_length font c.requires.font_is)) c.loop-i.invariant

pub returns-else-cell-lt-FONT_CELLS : goal.returns-else-cell-lt-FONT_CELLS
returns-else-cell-lt-FONT_CELLS c = place_none c.args.font.now c.args.place (omega arith) (omega arith)
