-- `stretch::whole_cell`: a run of one byte is a column more.
-- Assumes nothing.
use Rattle.std.proofs.Common.{◌≡◌, ℕ, ◌+◌, ◌-◌, ◌*◌, ◌≤◌, take, refl, ap, ◌∙◌, arith}
use Rattle.std.proofs.Math.Nat.{mul-le-mul, le_refl}
use Rattle.font.specs.Font.{cell_columns}
use Rattle.laws.specs.Lines.{overlay}
use Rattle.stretch.specs.Stretch.{column_byte, stretched}
use Rattle.stretch.proofs.Dots.{columns_none, column_more, patch_laid, picked_run}
use Rattle.stretch.proofs.whole_cell.Goals as goal

pub loop-j-init : goal.loop-j-init
loop-j-init g c =
    let a = c.args in
    columns_none a.from g.row.SIZE (column_byte a.row a.ink) a.out.now

pub loop-j-preserved : goal.loop-j-preserved
loop-j-preserved g c =
    let a = c.args in
    let l = c.loop-j in
    let at : ℕ = a.from + l.j * g.row.SIZE in
    let column : l.j + 1 ≤ cell_columns = omega arith in
    let within : (l.j + 1) * g.row.SIZE ≤ cell_columns * g.row.SIZE = mul-le-mul column (le_refl g.row.SIZE) in
    let run = c.copy_from_slice.ensures.after ∙ ap (take g.row.SIZE) c.tone-run.ensures ∙ picked_run 4 g.row.SIZE a.ink.on a.ink.shade a.ink.off _ _ (omega arith) in
    let laid = patch_laid at g.row.SIZE (column_byte a.row a.ink l.j) (at + g.row.SIZE - at) l.out _ (omega arith) (omega arith) run in
    column_more a.from g.row.SIZE (column_byte a.row a.ink) l.j _ _ _ _ l.invariant refl laid

pub returns : goal.returns
returns g c =
    let a = c.args in
    let all : c.loop-j.j ≡ cell_columns = omega arith in
    c.loop-j.invariant ∙ ap (λ (j : ℕ). overlay (stretched a.from (j * g.row.SIZE) g.row.SIZE a.row a.ink) a.out.now) all
