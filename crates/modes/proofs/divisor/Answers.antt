-- `modes::divisor`: a power of two of at most 8 is shifted, so that no bit is lost.
-- Assumes nothing.
use Rattle.std.proofs.Common.{◌≡◌, ◌*◌, ◌^◌, ◌%◌, ◌≤◌, arith}
use Rattle.std.proofs.Math.Nat.{mod-eq_of_lt, one-le-pow, pow-le-pow_right}
use Rattle.modes.specs.Modes.{divisor_of}
use Rattle.modes.proofs.divisor.Goals as goal

pub returns : goal.returns
returns c =
    let f = c.args.frequency in
    let least : 1 ≤ 2 ^ f = one-le-pow f 2 (omega arith) in
    let small : f ≤ 3 = omega arith in
    let most : 2 ^ f ≤ 2 ^ 3 = pow-le-pow_right (omega arith) small in
    let kept : 16 * 2 ^ f % 4294967296 ≡ divisor_of f = mod-eq_of_lt (omega arith) in
    (kept, omega arith)
