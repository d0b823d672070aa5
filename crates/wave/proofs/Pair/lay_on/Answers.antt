-- `wave::Pair::lay_on` meets its contract: before sub-period n the bytes are the wave from the first position on, and the others as they came.
-- Assumes nothing.
use Rattle.std.proofs.Common.{◌≡◌, ℕ, ◌+◌, ◌-◌, ◌*◌, ◌/◌, length, arith}
use Rattle.wave.proofs.Within.{Begun, lays_most, begun_none, begun_whole, begun_rest}
use Rattle.wave.proofs.Pair.lay_on.Goals as goal

pub loop-n-init : goal.loop-n-init
loop-n-init c =
    let a = c.args in
    let none : 128 * (a.from / 128) - a.from ≡ 0 = omega arith in
    (omega arith, rw none (begun_none _ _ _))

pub loop-n-preserved : goal.loop-n-preserved
loop-n-preserved c =
    let a = c.args in
    let l = c.loop-n in
    let laid = c.whole-high.ensures in
    let on : 128 * (l.n + 1) - a.from ≡ 128 * l.n - a.from + 128 = omega (arith, l.invariant.0) in
    (omega arith, rw on (begun_whole a.self a.from (128 * l.n - a.from) _ _ _ _ l.levels _ _ (omega arith) l.invariant.1 (omega arith) laid (omega arith)))

pub overflow_add-result : goal.overflow_add-result
overflow_add-result c =
    let l = c.loop-n in
    let laid = c.lay_within-rest.ensures in
    omega (arith, l.invariant.1, lays_most _ _ _ _ _ laid)

pub returns : goal.returns
returns c =
    let a = c.args in
    let l = c.loop-n in
    let laid = c.lay_within-rest in
    let all : l.n ≡ (a.from + length a.levels.now) / 128 = omega arith in
    let done : ℕ = 128 * ((a.from + length a.levels.now) / 128) - a.from in
    let begun : Begun a.self a.from done l.high l.levels a.levels.now = rw all at l.invariant.1 in
    begun_rest a.self a.from done _ _ _ _ l.levels _ _ begun laid.ensures (omega arith) (omega arith)
