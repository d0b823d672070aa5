-- `wave::count_down` meets its contract: the bytes passed are high while what is left is 128 or more.
-- Assumes nothing.
use Rattle.std.proofs.Common.{◌+◌, sym, ◌∙◌, append-nil, arith, length}
use Rattle.std.proofs.Math.Seq.{drop-length}
use Rattle.laws.specs.Lists.{tabulate}
use Rattle.laws.proofs.Lists.{filled_more, filled_all}
use Rattle.wave.specs.Steps.{level_below}
use Rattle.wave.proofs.Within.{pulse_is, level_left}
use Rattle.wave.proofs.count_down.Goals as goal

pub loop-i-preserved : goal.loop-i-preserved
loop-i-preserved c =
    let l = c.loop-i in
    let a = c.args in
    filled_more _ l.i l.levels _ _ (omega arith) (level_left a.left a.before l.i _ (omega arith) (omega arith) (omega arith)) l.invariant

pub returns : goal.returns
returns c =
    let a = c.args in
    let l = c.loop-i in
    let s = a.levels.now in
    filled_all _ (length s) l.i l.levels s (omega arith) (omega arith) l.invariant
    ∙ rw (drop-length s) (append-nil (tabulate (length s) (λ k. level_below (127 + a.before + k) a.left)))
    ∙ sym (pulse_is (127 + a.before) a.left (length s))
