-- `display::paint`: what `judged` answers decides; an accepted call's line stands in the part lent on.
-- Assumes nothing.
use Rattle.std.proofs.Common.{◌≡◌, ◌≤◌, length, true, false, Result, Err, sym, ap, ◌∙◌, arith}
use Rattle.std.proofs.lemmas.Result.{err_from_is_err_and}
use Rattle.judging.specs.Judging.{said}
use Rattle.judging.specs.declared.PaintError.{PaintError}
use Rattle.judging.proofs.Accepted.{refusal_told}
use Rattle.display.proofs.Whole.{room_there, part_there, usable, refused_leaves, shown, dark}
use Rattle.display.proofs.paint.Goals as goal

pub returns-in_err-judged : goal.returns-in_err-judged
returns-in_err-judged c =
    let a = c.args in
    let err : c.judged.result ≡ Err c.in_err-judged.field-0.0 = c.in_err-judged.was in
    let p = err_from_is_err_and c.from_residual.result c.from_residual.ensures.1 in
    let same : c.from_residual.result ≡ c.judged.result = p.1 ∙ ap Err p.2 ∙ sym err in (
      ap said same ∙ c.judged.ensures,
      refused_leaves a.words.now a.font.now a.settings a.frame a.line a.width a.out.now _ c.judged.ensures
          (λ ok. refusal_told _ (ap (λ (o : Result (Unit {0}) PaintError). (said o).number) (sym err ∙ ok))),
    )

pub slice_bounds-dots-end : goal.slice_bounds-dots-end
slice_bounds-dots-end c =
    let a = c.args in
    let fits : a.width.0 ≤ length a.out.now = room_there a.words.now a.font.now a.settings a.line a.width a.out.now _ c.judged.ensures c.in_ok-judged.was in
    omega arith

pub slice_bounds-dots-end-2 : goal.slice_bounds-dots-end-2
slice_bounds-dots-end-2 c =
    let a = c.args in
    let fits : a.width.0 ≤ length a.out.now = room_there a.words.now a.font.now a.settings a.line a.width a.out.now _ c.judged.ensures c.in_ok-judged.was in
    part_there _ _ (omega arith)

pub paint_line-requires : goal.paint_line-requires
paint_line-requires c =
    let a = c.args in
    usable a.words.now a.font.now a.settings a.line a.width a.out.now _ c.judged.ensures c.in_ok-judged.was

pub returns-then-settings : goal.returns-then-settings
returns-then-settings c =
    let a = c.args in
    let e = c.judged.ensures in
    let done = c.in_ok-judged.was in
    let on : a.settings.on ≡ true = search in
    (sym (ap said done) ∙ e, shown a.words.now a.font.now a.settings a.frame a.line a.width a.out.now _ e done _ on c.paint_line.ensures)

pub returns-else-settings : goal.returns-else-settings
returns-else-settings c =
    let a = c.args in
    let e = c.judged.ensures in
    let done = c.in_ok-judged.was in
    let off : a.settings.on ≡ false = search in
    (sym (ap said done) ∙ e, dark a.words.now a.font.now a.settings a.frame a.line a.width a.out.now _ e done _ off c.fill.ensures)
