-- `wave::Pair::lay_within` meets its contract: the levels of one sub-period are a pulse.
-- Assumes nothing.
use Rattle.std.proofs.Common.{◌/◌, ◌≡◌, arith, length}
use Rattle.wave.specs.Steps.{high_in}
use Rattle.wave.proofs.Within.{left_laid}
use Rattle.wave.proofs.Pair.lay_within.Goals as goal

pub returns : goal.returns
returns c =
    let a = c.args in
    let high = c.high_with-high.result in
    let laid = c.many.ensures in
    let clocks : high ≡ high_in a.self (a.from / 128) = omega arith in
    left_laid a.self a.from high _ (length a.levels.now) _ _ laid clocks (omega arith) (omega arith) (omega arith)
