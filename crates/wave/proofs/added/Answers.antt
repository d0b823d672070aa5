-- `wave::added` meets its contract: the bit that it reads is the one that serves the sub-period.
-- Assumes nothing.
use Rattle.std.proofs.Common.{◌≡◌, ◌<◌, arith}
use Rattle.wave.proofs.Fine.{zeros_at, served, none_at_0}
use Rattle.wave.proofs.added.Goals as goal

pub returns-then-n-eq0 : goal.returns-then-n-eq0
returns-then-n-eq0 c =
    let a = c.args in
    let first : a.n ≡ 0 = omega arith in
    omega (arith, none_at_0 a.fine a.n first)

pub overflow_sub-bit : goal.overflow_sub-bit
overflow_sub-bit c =
    let n = c.args.n in
    let some : 0 < n = omega arith in
    let zeros = zeros_at 7 64 n some (omega arith) (omega arith) in
    omega arith

pub returns : goal.returns
returns c =
    let a = c.args in
    served 64 a.n (omega arith) (omega arith) (omega arith) a.fine _ (omega arith)
