-- `font::all_bits`. Where the bits so far are within a bound, so are the numbers passed: of each of the four parts, and then from the front on.
-- Assumes nothing.
use Rattle.std.proofs.Common.{ℕ, ◌+◌, ◌*◌, ◌<◌, ◌≤◌, get_or}
use Rattle.font.proofs.Each.{Parts}
use Rattle.font.proofs.all_bits.Given as goal

abbrev pub invariant-loop-i : goal.invariant-loop-i
invariant-loop-i l = (most : ℕ) → l.all ≤ most → Parts most l.numbers l.part l.i

abbrev pub invariant-loop-number : goal.invariant-loop-number
invariant-loop-number l = (most : ℕ) → l.all ≤ most → (k : ℕ) → k < 4 * l.part + l.number-index → get_or l.numbers k 0 ≤ most
