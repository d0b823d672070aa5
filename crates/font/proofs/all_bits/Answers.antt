-- `font::all_bits`. Where the bits so far are within a bound, so are the numbers passed: of each of the four parts, and then from the front on.
-- Assumes nothing.
use Rattle.std.proofs.Common.{ℕ, ◌+◌, ◌-◌, ◌*◌, ◌/◌, ◌≤◌, length, get_or, below_more, arith}
use Rattle.laws.proofs.Scan.{or_above}
use Rattle.font.proofs.Each.{within_each, parts_none, parts_more, parts_all, part_at}
use Rattle.font.proofs.all_bits.Goals as goal

pub loop-i-init : goal.loop-i-init
loop-i-init c = λ most le. parts_none most _ _

pub loop-i-preserved : goal.loop-i-preserved
loop-i-preserved c = λ most le.
    let l = c.loop-i in
    let so_far = or_above l.all _ most le in
    let halves = or_above _ _ most so_far.1 in
    let front = or_above _ _ most halves.0 in
    let back = or_above _ _ most halves.1 in
    parts_more most _ _ l.i (l.invariant most so_far.0) front.0 front.1 back.0 back.1

pub loop-number-init : goal.loop-number-init
loop-number-init c = λ most le k h. parts_all most _ _ c.loop-i.i (omega arith) (c.loop-i.invariant most le) k (omega arith)

pub loop-number-preserved : goal.loop-number-preserved
loop-number-preserved c = λ most le k h.
    let s = c.args.numbers.now in
    let part : ℕ = 16 * (length s / 64) in
    let l = c.loop-number in
    let so_far = or_above l.all _ most le in
    below_more (λ k. get_or s k 0 ≤ most) (4 * part + l.number-index) (l.invariant most so_far.0) (omega (arith, so_far.1, part_at s (4 * part) (length s - 4 * part) l.number-index (omega arith))) k (omega arith)

pub returns : goal.returns
returns c = λ most le. within_each most _ (λ k h. c.loop-number.invariant most le k (omega arith))
