-- `image::columns` meets its contract: what is kept for a place of the stride is above no byte passed at that place.
-- Assumes nothing.
use Rattle.std.proofs.Common.{◌≡◌, ℕ, ◌+◌, ◌*◌, ◌<◌, ◌≤◌, ◌%◌, length, get_or}
use Rattle.image.proofs.columns.Given as goal

abbrev pub invariant-loop-i : goal.invariant-loop-i
invariant-loop-i l = (length l.under ≡ 32) × ((k : ℕ) → k < 32 * l.stride-index + l.i → get_or l.under (k % 32) 0 ≤ get_or l.strides k 0)

abbrev pub invariant-loop-stride : goal.invariant-loop-stride
invariant-loop-stride l = (length l.under ≡ 32) × ((k : ℕ) → k < 32 * l.stride-index → get_or l.under (k % 32) 0 ≤ get_or l.strides k 0)
