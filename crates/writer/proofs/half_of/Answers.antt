-- `writer::half_of`: each arm by the test that led to it.
-- Assumes nothing.
use Rattle.std.proofs.Common.{◌≡◌, ◌*◌, true, false, ltb, get_or, ap, arith, le-ltb, lt-ltb}
use Rattle.image.specs.Image.{half_at, half_bytes}
use Rattle.writer.specs.Steps.{cell_bytes}
use Rattle.writer.proofs.half_of.Goals as goal

pub returns-then-place-lt-HALF_PLACES : goal.returns-then-place-lt-HALF_PLACES
unfolding half_at
returns-then-place-lt-HALF_PLACES c =
    let low : ltb (cell_bytes * c.args.place) half_bytes ≡ true = omega (arith, lt-ltb) in
    simp low (omega (arith, ap (λ l. get_or l 1 0) c.to_be_bytes.ensures))

pub returns-else-place-lt-HALF_PLACES : goal.returns-else-place-lt-HALF_PLACES
unfolding half_at
returns-else-place-lt-HALF_PLACES c =
    let low : ltb (cell_bytes * c.args.place) half_bytes ≡ false = omega (arith, le-ltb) in
    simp low (omega (arith, ap (λ l. get_or l 0 0) c.to_be_bytes.ensures))
