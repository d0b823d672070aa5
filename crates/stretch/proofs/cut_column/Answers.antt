-- `stretch::cut_column`: of the dots those are painted that are on the line.
-- Assumes nothing.
use Rattle.std.proofs.Common.{◌+◌, ◌-◌, arith}
use Rattle.stretch.proofs.Dots.{patch_none, patch_cut, patch_fill}
use Rattle.stretch.proofs.cut_column.Goals as goal

pub returns-else-from-out : goal.returns-else-from-out
returns-else-from-out c =
    let a = c.args in
    patch_cut a.from 0 a.size (λ d. a.byte) a.out.now _ (omega arith) (patch_none a.from (λ d. a.byte) a.out.now)

pub returns-then-from-out : goal.returns-then-from-out
returns-then-from-out c =
    let a = c.args in
    let n = c.min-n.result in
    let laid = patch_fill a.from n a.byte (a.from + n - a.from) a.out.now _ (omega arith) (omega arith) (c.fill.ensures.after (λ y e. e)) in
    patch_cut a.from n a.size (λ d. a.byte) a.out.now _ (omega arith) laid
