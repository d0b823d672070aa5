-- `wave::Pair::whole` meets its contract in both ways: where both kinds are ready it picks the one that has as many high clocks as the pair says, and where only the
-- coarse half's is, the clock behind its high ones is the one that is added.
-- Assumes nothing.
use Rattle.std.proofs.Common.{ℕ, ◌≡◌, ap, ◌∙◌, arith, length}
use Rattle.wave.specs.Steps.{high_in, pulse}
use Rattle.wave.proofs.Fine.{added_le}
use Rattle.wave.proofs.Within.{one_more}
use Rattle.wave.proofs.Pair.whole.Goals as goal

pub returns-then-long : goal.returns-then-long
returns-then-long c =
    let a = c.args in
    let laid = c.of_kind-then-long in
    let clocks : laid.result ≡ high_in a.self a.n = omega (arith, added_le a.self.fine a.n) in
    (clocks, laid.ensures.1 ∙ ap (λ (x : ℕ). pulse 0 x (length a.levels.now)) clocks)

pub returns : goal.returns
returns c =
    let a = c.args in
    let laid = c.of_kind-coarse in
    let n = length a.levels.now in
    let least = added_le a.self.fine a.n in
    (omega arith, one_more laid.result _ 0 laid.result n _ (omega arith) (omega arith) (omega arith) laid.ensures.1 ∙ ap (λ (x : ℕ). pulse 0 x n) (omega arith))
