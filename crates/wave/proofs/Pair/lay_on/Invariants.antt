-- `wave::Pair::lay_on` meets its contract: before sub-period n the bytes are the wave from the first position on, and the others as they came.
-- Assumes nothing.
use Rattle.std.proofs.Common.{◌*◌, ◌-◌, ◌≤◌}
use Rattle.wave.proofs.Within.{Begun}
use Rattle.wave.proofs.Pair.lay_on.Given as goal

abbrev pub invariant-loop-n : goal.invariant-loop-n
invariant-loop-n l = (l.from ≤ 128 * l.n) × Begun l.self l.from (128 * l.n - l.from) l.high l.levels l.initial.levels
