-- `wave::many` meets its contract: two runs, one behind the other, are a pulse.
-- Assumes nothing.
use Rattle.std.proofs.Common.{◌%◌, arith, length}
use Rattle.wave.proofs.Within.{two_runs}
use Rattle.wave.proofs.many.Goals as goal

pub returns : goal.returns
returns c =
    let a = c.args in
    let first = c.count_down.ensures in
    let others = c.count_down-2.ensures in
    let s = a.levels.now in
    two_runs 127 a.left (length s % 8) _ s _ _ (omega arith) first others (omega arith)
