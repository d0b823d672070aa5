-- `wave::lay_from_start` meets its contract: as many levels as there are bytes, and no more than a period has.
-- Assumes nothing.
use Rattle.std.proofs.Common.{◌-◌, min, ◌≡◌, arith, length}
use Rattle.wave.specs.Wave.{period}
use Rattle.wave.proofs.Within.{first_laid}
use Rattle.wave.proofs.lay_from_start.Goals as goal

pub returns : goal.returns
returns c =
    let a = c.args in
    let n = c.min-n in
    let laid = c.lay_on.ensures in
    let reach : n.result ≡ min (length a.levels.now) (period - 0) = omega (arith, n.ensures) in
    first_laid a.pair 0 a.levels.now n.result _ _ reach laid
