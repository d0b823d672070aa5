-- `dac::Dac::play` meets its contract: the test that refuses shows that there are too many clocks, and past it there are not.
-- Assumes nothing.
use Rattle.std.proofs.Common.{◌<◌, ◌≤◌, min, length, ◌∙◌, arith}
use Rattle.wave.specs.Wave.{period}
use Rattle.dac.proofs.Answers.{past, may, refused_play, accepted_play, accepted_count}
use Rattle.dac.proofs.Dac.play.Goals as goal

pub returns-then-count-gt-PERIOD : goal.returns-then-count-gt-PERIOD
returns-then-count-gt-PERIOD c =
    let a = c.args in
    let many : min period (length a.levels.now) < a.clocks = omega arith in
    refused_play a.self.now a.clocks a.levels.now (past a.clocks _ many)

pub returns : goal.returns
returns c =
    let a = c.args in
    let played = c.run-after.ensures in
    let most : a.clocks ≤ period = omega arith in
    let room : a.clocks ≤ length a.levels.now = omega arith in
    let allowed = may a.clocks _ most room in
    let e = accepted_play a.self.now a.clocks a.levels.now allowed in
    (accepted_count a.self.now a.clocks a.levels.now allowed _ _ played.0 (omega arith), played.0 ∙ e.0, played.1 ∙ e.1)
