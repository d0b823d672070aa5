-- `wave::Pair::lay_across` meets its contract: the levels of the sub-period under way, and then those of the others.
-- Assumes nothing.
use Rattle.std.proofs.Common.{ℕ, ◌-◌, ◌%◌, arith}
use Rattle.wave.proofs.Within.{lays_most, begun_first, begun_rest}
use Rattle.wave.proofs.Pair.lay_across.Goals as goal

-- the clocks left of the sub-period under way
abbrev head : ℕ → ℕ
head from = 128 - from % 128

pub overflow_add-result : goal.overflow_add-result
overflow_add-result c =
    let a = c.args in
    let first = c.lay_within-first.ensures in
    let others = c.lay_on-others.ensures in
    omega (arith, begun_first a.self a.from a.levels.now (head a.from) _ _ (omega arith) first, lays_most _ _ _ _ _ others)

pub returns : goal.returns
returns c =
    let a = c.args in
    let first = c.lay_within-first.ensures in
    let others = c.lay_on-others.ensures in
    let begun = begun_first a.self a.from a.levels.now (head a.from) _ _ (omega arith) first in
    begun_rest a.self a.from (head a.from) _ _ _ _ _ a.levels.now _ begun others (omega arith) (omega arith)
