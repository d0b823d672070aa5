-- `dac::Dac::run` meets its contract: the clocks left of the period under way are the wave of the pair that plays, and those of the next period the
-- wave of the completed pair.
-- Assumes nothing.
use Rattle.std.proofs.Common.{◌≡◌, ℕ, ◌+◌, ◌-◌, ◌<◌, ◌≤◌, refl, ap, sym, take, arith}
use Rattle.wave.specs.Wave.{period, over, laid}
use Rattle.wave.proofs.Within.{in_most}
use Rattle.dac.specs.Running.{after_clocks, levels_of}
use Rattle.dac.proofs.Clocks.{run_within, run_across}
use Rattle.dac.proofs.Dac.run.Goals as goal

pub returns-then-count-eq0 : goal.returns-then-count-eq0
unfolding after_clocks levels_of
returns-then-count-eq0 c =
    let a = c.args in
    let none : a.count ≡ 0 = omega arith in
    (ap (λ (n : ℕ). after_clocks n a.self) (sym none), ap (λ (n : ℕ). over (levels_of n a.self) a.levels.now) (sym none))

pub overflow_add-after-then-count-left : goal.overflow_add-after-then-count-left
overflow_add-after-then-count-left c =
    let first = c.lay-more.ensures.0 in
    omega (arith, in_most _ _ _ _ first)

pub returns-then-count-left : goal.returns-then-count-left
returns-then-count-left c =
    let a = c.args in
    let fits = c.requires in
    let k = c.kept-after in
    let q = c.playing-pair in
    let before = c.so_far-before in
    let first = c.lay-more in
    let some : 0 < a.count = omega arith in
    let inside : k.result.position + a.count ≤ period = omega arith in
    let levels : first.new.levels ≡ laid q.result k.result.position (take a.count a.levels.now) = first.ensures.1 in
    run_within a.self k.result q.result k.ensures q.ensures a.count a.levels.now fits.in_room before.result first.result _ _ some inside
    before.ensures first.ensures.0 (omega arith) levels

pub overflow_cast-after-2 : goal.overflow_cast-after-2
overflow_cast-after-2 c =
    let anew = c.lay_from_start-anew.ensures.0 in
    omega (arith, in_most _ _ _ _ anew)

pub returns : goal.returns
returns c =
    let a = c.args in
    let fits = c.requires in
    let k = c.kept-after in
    let q = c.playing-pair in
    let first = c.lay-more in
    let then = c.lay_from_start-anew in
    let left : ℕ = period - k.result.position in
    let past : left < a.count = omega arith in
    let levels : first.new.levels ≡ laid q.result k.result.position (take a.count a.levels.now) = first.ensures.1 in
    run_across a.self k.result q.result k.ensures q.ensures a.count a.levels.now fits.in_room left refl past fits.in_period then.result _ _ _
    levels then.ensures.0 (omega arith) then.ensures.1
