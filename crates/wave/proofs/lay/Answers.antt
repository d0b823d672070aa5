-- `wave::lay` meets its contract: as many levels as there are bytes, and none from the period's end on.
-- Assumes nothing.
use Rattle.std.proofs.Common.{◌+◌, ◌-◌, ◌≤◌, min, ◌≡◌, arith, length}
use Rattle.wave.specs.Wave.{period}
use Rattle.wave.proofs.Within.{whole_laid, past_end, first_laid, all_laid}
use Rattle.wave.proofs.lay.Goals as goal

pub returns-then-from-ge-PERIOD : goal.returns-then-from-ge-PERIOD
returns-then-from-ge-PERIOD c =
    let a = c.args in
    let past : period ≤ a.from = omega arith in
    past_end a.pair a.from a.levels.now past _ (omega arith)

pub returns-then-levels-eq-SUB_PERIOD : goal.returns-then-levels-eq-SUB_PERIOD
returns-then-levels-eq-SUB_PERIOD c =
    let a = c.args in
    let laid = c.whole.ensures in
    let inside : a.from + length a.levels.now ≤ period = omega arith in
    let whole = whole_laid a.pair a.from _ _ _ _ (omega arith) (omega arith) laid in
    all_laid a.pair a.from a.levels.now _ _ inside whole

pub returns-then-levels-left : goal.returns-then-levels-left
returns-then-levels-left c =
    let a = c.args in
    let within = c.lay_within.ensures in
    let inside : a.from + length a.levels.now ≤ period = omega arith in
    all_laid a.pair a.from a.levels.now _ _ inside within

pub returns : goal.returns
returns c =
    let a = c.args in
    let n = c.min-n in
    let laid = c.lay_across.ensures in
    let reach : n.result ≡ min (length a.levels.now) (period - a.from) = omega (arith, n.ensures) in
    first_laid a.pair a.from a.levels.now n.result _ _ reach laid
