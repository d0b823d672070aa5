-- `fill::fill`: each of the first items, as many as the loop has come to, is the item.
-- Assumes nothing.
use Rattle.std.proofs.Common.{◌≡◌, take, replicate}
use Rattle.fill.proofs.fill.Given as goal

abbrev pub invariant-loop-place : goal.invariant-loop-place
invariant-loop-place g l = take l.place-index l.items ≡ replicate l.place-index l.fn.item
