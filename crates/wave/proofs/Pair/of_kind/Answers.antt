-- `wave::Pair::of_kind` meets its contract: it is high for as many clocks as it answers.
-- Assumes nothing.
use Rattle.std.proofs.Common.{◌∙◌, arith, length}
use Rattle.wave.proofs.Within.{same_turn}
use Rattle.wave.proofs.Pair.of_kind.Goals as goal

pub returns : goal.returns
returns c =
    let a = c.args in
    let high = c.high_with-high in
    let laid = c.count_down.ensures in
    (high.ensures, laid ∙ same_turn 127 _ 0 high.result (length a.levels.now) (omega arith))
