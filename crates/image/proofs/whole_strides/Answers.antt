-- `image::whole_strides` meets its contract: no address passed lacks a bit.
-- Assumes nothing.
use Rattle.std.proofs.Common.{◌≡◌, ℕ, ◌+◌, ◌*◌, ◌<◌, ◌≤◌, length, get_or, arith}
use Rattle.image.proofs.Strides.{part_reaches, whole_more}
use Rattle.image.specs.Image.{least_at}
use Rattle.image.proofs.whole_strides.Goals as goal

pub loop-stride-init : goal.loop-stride-init
loop-stride-init c = record { inside = omega arith; whole = λ k h. absurd (omega arith) }

pub loop-stride-preserved : goal.loop-stride-preserved
loop-stride-preserved c =
    let image = c.args.image.now in
    let at = 32 * c.loop-stride.stride in
    let least = c.least.ensures in
    let size : length image ≡ 8192 = omega arith in
    let in_rows = part_reaches image _ at _ (omega arith) (c.falls_below.ensures c.if-falls_below.false) in
    let outside = part_reaches image _ (at + 18) _ (omega arith) (c.falls_below-else-falls_below.ensures c.if-falls_below-2.false) in
    let rows : (k : ℕ) → k < 18 → least_at at ≤ get_or image (at + k) 0 = λ k h. omega (arith, least, in_rows k (omega arith)) in
    let others : (k : ℕ) → k < 14 → 255 ≤ get_or image (at + 18 + k) 0 = λ k h. omega (arith, outside k (omega arith)) in
    let whole = whole_more at (omega arith) image c.loop-stride.invariant.whole rows others in
    record { inside = omega arith; whole = λ k h. whole k (omega arith) }
