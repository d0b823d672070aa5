-- `image::turn` meets its contract: the rows of the cells passed are the image's, and in a cell the rows passed too.
-- Assumes nothing.
use Rattle.std.proofs.Common.{◌≡◌, ℕ, ◌+◌, ◌*◌, List, get_or, ap, ◌∙◌, arith}
use Rattle.std.proofs.Math.ListN.{set, length-set}
use Rattle.std.proofs.lemmas.List.Edits.{fill_by_more}
use Rattle.laws.proofs.Lists.{get_or_tabulate, is_tabulate}
use Rattle.image.specs.Image.{row_in}
use Rattle.image.proofs.turn.Goals as goal

pub loop-row-preserved : goal.loop-row-preserved
loop-row-preserved c =
    let l = c.loop-row in
    let at = 18 * c.loop-cell.cell + l.row in
    let rows = c.cell_rows in
    let read : get_or rows.result l.row 0 ≡ row_in c.args.image.now at =
    ap (λ (r : List ℕ). get_or r l.row 0) rows.ensures ∙ get_or_tabulate 18 _ l.row 0 (omega arith) in
    let more = fill_by_more (row_in c.args.image.now) l.font at 0 (omega arith) l.invariant.1 in
    (length-set l.font at _ ∙ l.invariant.0, λ k h. ap (λ v. get_or (set l.font at v) k 0) read ∙ more k (omega arith))

pub returns : goal.returns
returns c =
    let l = c.loop-cell in
    is_tabulate 0 1116 _ l.font l.invariant.0 (λ k h. l.invariant.1 k (omega arith))
