-- `wave::count_down` meets its contract: the bytes passed are high while what is left is 128 or more.
-- Assumes nothing.
use Rattle.std.proofs.Common.{◌+◌}
use Rattle.laws.proofs.Lists.{Filled}
use Rattle.wave.specs.Steps.{level_below}
use Rattle.wave.proofs.count_down.Given as goal

abbrev pub invariant-loop-i : goal.invariant-loop-i
invariant-loop-i l = Filled (λ k. level_below (127 + l.before + k) l.left) l.i l.levels l.initial.levels
